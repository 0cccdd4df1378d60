use Rattle.std.proofs.Common.{ap, arith, take, length-take, ◌∙◌}
use Rattle.plain.proofs.Servings.{on_err, Serving-all, Serving-next, Serving-fault, Serving-unread, Serving-ended, Serving-last}
use Rattle.plain.proofs.server.serve_store.Goals as goal

pub returns-in_default-clause-fault : goal.returns-in_default-clause-fault
returns-in_default-clause-fault g c = Serving-unread _ _ _ _ _ _ _ _ _ c.reads.invariant.serving c.in_default.ensures.kept

pub returns-in_default-clause-unread : goal.returns-in_default-clause-unread
returns-in_default-clause-unread g c = λ _. Serving-ended _ _ _ _ _ _ _ _ _ c.reads.invariant.serving c.reads.invariant.begun c.in_default.ensures.kept

pub returns-in_err-splitter-clause-fault : goal.returns-in_err-splitter-clause-fault
returns-in_err-splitter-clause-fault g c =
    on_err _ c.from_residual-in_err-splitter.result
    (Serving-fault _ _ _ _ _ _ _ _ _ _ _ c.reads.invariant.serving c.in-Some.ensures.taken c.in_err-splitter.ensures.fault)

pub reads-preserved : goal.reads-preserved
reads-preserved g c = record {
  serving = Serving-next _ _ _ _ _ _ _ _ _ _ _ _ _ _ c.reads.invariant.serving c.in-Some.ensures.taken c.in_ok-splitter.ensures.reaches;
  begun = c.in_ok-splitter.ensures.begun;
  written = c.in_ok-splitter.ensures.written;
  room = omega (arith, length-take c.in-Some.count c.read.new.room, c.in_ok-splitter.ensures.count, c.in-Some.ensures.bounded, c.reads.invariant.room);
  reads = c.in-Some.ensures.well ∙ c.reads.invariant.reads;
  writes = c.in_ok-splitter.ensures.writes ∙ c.reads.invariant.writes;
}

pub returns-clause-text : goal.returns-clause-text
returns-clause-text g c =
    Serving-all c.answer_rest.result _ _ _ _ _ _ _ _ _ c.reads.invariant.serving
    (c.in-Some.ensures.ended c.if-count-eq0.true (omega (arith, c.requires, c.reads.auto.room))) c.answer_rest.ensures.text

pub returns-clause-fault : goal.returns-clause-fault
returns-clause-fault g c =
    Serving-last c.answer_rest.result _ _ _ _ _ _ _ _ _ _ _ c.reads.invariant.serving c.in-Some.ensures.taken
    (ap (λ n. take n c.read.new.room) c.if-count-eq0.true) (c.in-Some.ensures.ended c.if-count-eq0.true (omega (arith, c.requires, c.reads.auto.room)))
    c.answer_rest.ensures.fault
