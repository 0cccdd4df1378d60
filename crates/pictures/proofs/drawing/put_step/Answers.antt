use Rattle.std.proofs.Common.{◌++◌, ◌∷◌, [], ap, ◌∙◌, arith, string_bytes}
use Rattle.history.specs.Named.{with_named}
use Rattle.history.specs.declared.caller_phase.CallerPhase.{CallerPhase}
use Rattle.pictures.specs.Shown.{participant}
use Rattle.pictures.specs.declared.snapshot.Snapshot.{Snapshot}
use Rattle.pictures.proofs.Runs.{frontier_small, phase_before, step_lines}
use Rattle.pictures.proofs.drawing.put_step.Goals as goal

pub put_shown-put-requires : goal.put_shown-put-requires
put_shown-put-requires c =
    let reached = c.step.ensures.reached in
    let events = reached.events ++ c.args.event.now ∷ [] in
    let done = c.in_ok-delivered.ensures.done reached.size reached.events reached.after in
    let same = ap (λ (m : Snapshot). m.frontier) (c.take_snapshot-after.ensures reached.size events done) in
    let small = frontier_small reached.size events _ done in
    omega (arith, same, small)

pub returns-clause-put : goal.returns-clause-put
returns-clause-put c = λ size events is same.
    step_lines c.args.shown size events c.args.event.now c.args.shards c.events-place.result c.caller-caller.result c.take_snapshot-before.result c.take_snapshot-after.result c.in_ok-delivered.delivered
    (string_bytes c.args.out.now) _ same (c.events-place.ensures.count size events is) c.caller-caller.ensures (c.take_snapshot-before.ensures size events is)
    (c.take_snapshot-after.ensures size (events ++ c.args.event.now ∷ []) (c.in_ok-delivered.ensures.done size events is)) (c.in_ok-delivered.ensures.delivered size events is) c.in_ok-put.ensures

pub returns-clause-named : goal.returns-clause-named
returns-clause-named c = λ size events is.
    c.in_ok-note_caller.ensures ∙ ap (with_named c.args.names.now.keys) (c.participant.ensures ∙ ap (λ (p : CallerPhase). participant c.args.shown c.args.event.now p)
    (phase_before size events c.args.event.now c.caller-caller.result c.take_snapshot-before.result c.caller-caller.ensures (c.take_snapshot-before.ensures size events is)))
