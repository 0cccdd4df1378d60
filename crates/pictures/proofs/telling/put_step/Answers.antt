use Rattle.std.proofs.Common.{◌∙◌, ap, string_bytes}
use Rattle.history.specs.declared.caller_phase.CallerPhase.{CallerPhase}
use Rattle.pictures.specs.Asked.{asked_in}
use Rattle.pictures.specs.Story.{asked_after}
use Rattle.pictures.proofs.Asking.{told_between}
use Rattle.pictures.proofs.Runs.{phase_before}
use Rattle.pictures.proofs.telling.put_step.Goals as goal

pub returns-clause-told : goal.returns-clause-told
returns-clause-told g c = λ size events is.
    told_between (g.R.Roles.role c.args.roles.now) (asked_in c.args.asked.now) size events c.args.event.now c.events-place.result c.take_snapshot-before.result.standing c.in_ok-delivered.delivered
    (string_bytes c.args.out.now) _ (c.events-place.ensures.count size events is)
    (phase_before size events c.args.event.now c.caller-caller.result c.take_snapshot-before.result c.caller-caller.ensures (c.take_snapshot-before.ensures size events is))
    (c.in_ok-delivered.ensures.delivered size events is) c.in_ok-put.ensures.told

pub returns-clause-asked : goal.returns-clause-asked
returns-clause-asked g c = λ size events is caller.
    c.in_ok-put.ensures.asked caller
    ∙ ap (λ (p : CallerPhase). asked_after (asked_in c.args.asked.now) c.args.event.now p caller)
    (phase_before size events c.args.event.now c.caller-caller.result c.take_snapshot-before.result c.caller-caller.ensures (c.take_snapshot-before.ensures size events is))
