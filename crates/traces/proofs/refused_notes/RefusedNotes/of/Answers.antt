use Rattle.traces.specs.Noted.{noted_in}
use Rattle.traces.proofs.Noting.{noted_more}
use Rattle.traces.proofs.refused_notes.RefusedNotes.of.Goals as goal

pub loop-plan-preserved : goal.loop-plan-preserved
loop-plan-preserved c = λ place.
    noted_more c.args.plans.now c.loop-plan.plan-index place c.plan-item.result (noted_in c.loop-plan.by_place place) _ _ c.loop-plan-test.true c.plan-item.is
    (c.in_ok-note.ensures place) (c.loop-plan.invariant place)
