use Rattle.std.proofs.Common.{◌∷◌, Some, inl, inr, subst}
use Rattle.requests.specs.declared.request.Request.TheVariants.{Delete}
use Rattle.plain_store.specs.Store.{opening}
use Rattle.rounds.specs.Incarnation.{Follows, phase_after}
use Rattle.rounds.specs.Phase.{reading_set}
use Rattle.rounds.specs.Transcript.{of_incarnation}
use Rattle.rounds.proofs.Deletes.{collector_deletes, plan_deletes}
use Rattle.rounds.proofs.Entries.{IsStepwise, asks_at, stepwise, stepwise_before}
use Rattle.rounds.proofs.Knowing.{deleted_by, known}
use Rattle.rounds.proofs.laws.deletes_are_planned_or_collected.Goals as goal

pub returns : goal.returns
returns c = λ reconcilers capacity entries sound is before later incarnation k uid version at reply where'.
    let r = reconcilers incarnation.controller in
    let own = of_incarnation incarnation before in
    let run = subst (IsStepwise (opening capacity)) where' (stepwise (opening capacity) entries is.run) in
    let first = stepwise_before (opening capacity) before ((Some incarnation, Delete k uid version at, reply) ∷ later) run in
    let asked = asks_at r reading_set incarnation before (Delete k uid version at) reply later (subst (λ es. Follows r reading_set (of_incarnation incarnation es)) where' (is.incarnations incarnation)) in
    elim (deleted_by r own (phase_after r reading_set own) k uid version at (known r own asked.0) asked.1) [
      | inl plan ↦ inl (plan_deletes r capacity before incarnation k uid version at is.least is.most first (sound incarnation.controller) plan, plan)
      | inr collected ↦ inr (collector_deletes r capacity before incarnation k uid version at is.least is.most first (sound incarnation.controller) collected, collected)
    ]
