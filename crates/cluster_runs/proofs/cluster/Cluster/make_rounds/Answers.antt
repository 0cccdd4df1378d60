use Rattle.std.proofs.Common.{◌≡◌, ◌∙◌, length, refl, rules, sym}
use Rattle.std.specs.List.{range_with_len}
use Rattle.std.specs.Prelude.{Err}
use Rattle.cluster_runs.specs.Turns.{rounds_of}
use Rattle.cluster_runs.proofs.Parts.{rounded_all, rounded_halts, rounded_more, rounded_none}
use Rattle.cluster_runs.proofs.Leading.{goes_no_further}
use Rattle.cluster_runs.proofs.cluster.Cluster.make_rounds.Goals as goal

pub loop-number-init : goal.loop-number-init
loop-number-init g c = record { many = refl; present = c.requires.present; follows = c.requires.follows; leads = rounded_none g.C.ControlLoop.reconciler g.C.ControlLoop.phase g.C.ControlLoop.is_waiting (rounds_of (range_with_len 0 (length c.args.controllers.now))) (length c.args.controllers.now) c.args.self.now c.args.controllers.now refl }

pub loop-number-preserved : goal.loop-number-preserved
loop-number-preserved g c = let kept = c.loop-number.invariant in record {
  many = c.in_ok-make_round.ensures.consistent.many ∙ kept.many;
  present = c.in_ok-make_round.ensures.consistent.many ∙ kept.present ∙ sym c.in_ok-make_round.ensures.consistent.present;
  follows = c.in_ok-make_round.ensures.consistent.follows;
  leads = rounded_more g.C.ControlLoop.reconciler g.C.ControlLoop.phase g.C.ControlLoop.is_waiting (rounds_of (range_with_len 0 (length c.args.controllers.now))) (length c.args.controllers.now) c.loop-number.number c.args.self.now c.loop-number.self c.make_round.new.self c.args.controllers.now c.loop-number.controllers c.make_round.new.controllers
      c.loop-number-test.true kept.many kept.leads c.in_ok-make_round.ensures.leads;
}

pub returns-in_err-make_round : goal.returns-in_err-make_round
returns-in_err-make_round g c =
    let kept = c.loop-number.invariant in
    let fault = c.in_err-make_round.field-0.0 in
    let is : c.from_residual.result ≡ Err fault = search rules in
    goes_no_further g.C.ControlLoop.reconciler g.C.ControlLoop.phase g.C.ControlLoop.is_waiting fault is (search rules)
    (rounded_halts g.C.ControlLoop.reconciler g.C.ControlLoop.phase g.C.ControlLoop.is_waiting (rounds_of (range_with_len 0 (length c.args.controllers.now))) (length c.args.controllers.now) c.loop-number.number fault c.args.self.now c.loop-number.self c.args.controllers.now c.loop-number.controllers c.make_round.new.controllers
    c.loop-number-test.true kept.many kept.leads c.in_err-make_round.ensures.halts)

pub returns : goal.returns
returns g c = record {
  consistent = search rules;
  leads = rounded_all g.C.ControlLoop.reconciler g.C.ControlLoop.phase g.C.ControlLoop.is_waiting (rounds_of (range_with_len 0 (length c.args.controllers.now))) (length c.args.controllers.now) c.loop-number.number c.args.self.now c.loop-number.self c.args.controllers.now c.loop-number.controllers c.loop-number-test.false c.loop-number.invariant.leads;
  halts = search rules;
}
