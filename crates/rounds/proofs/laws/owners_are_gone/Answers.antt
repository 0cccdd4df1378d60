use Rattle.std.proofs.Common.{◌≡◌, ◌⊎◌, ◌∷◌, ◌∙◌, Some, inl, inr, ap, subst, sym}
use Rattle.objects.specs.declared.kind.Kind.{Kind}
use Rattle.objects.specs.declared.kind.Kind.TheVariants.{Pod, PersistentVolumeClaim, ControllerRevision}
use Rattle.requests.specs.declared.request.Request.TheVariants.{Delete}
use Rattle.requests.specs.declared.reply.Reply.TheVariants.{Removed}
use Rattle.plain_store.specs.Store.{opening}
use Rattle.plain_store.specs.Taken.{taken}
use Rattle.rounds.specs.Incarnation.{Follows, phase_after}
use Rattle.rounds.specs.Phase.{reading_set}
use Rattle.rounds.specs.Transcript.{of_incarnation}
use Rattle.rounds.proofs.Deletes.{collector_takes, plan_takes}
use Rattle.rounds.proofs.Entries.{IsStepwise, asks_at, stepwise, stepwise_at, stepwise_before}
use Rattle.rounds.proofs.Knowing.{deleted_by, known}
use Rattle.rounds.proofs.laws.owners_are_gone.Goals as goal

no_claim : (kind : Kind) → kind ≡ PersistentVolumeClaim → (kind ≡ Pod) ⊎ (kind ≡ ControllerRevision) → ⊥
no_claim kind claim (inl is) = let both : PersistentVolumeClaim ≡ Pod = sym claim ∙ is in cc
no_claim kind claim (inr is) = let both : PersistentVolumeClaim ≡ ControllerRevision = sym claim ∙ is in cc

pub returns : goal.returns
returns c = λ reconcilers capacity entries sound is before later incarnation k uid version at claim where' kind more owner.
    let r = reconcilers incarnation.controller in
    let own = of_incarnation incarnation before in
    let run = subst (IsStepwise (opening capacity)) where' (stepwise (opening capacity) entries is.run) in
    let first = stepwise_before (opening capacity) before ((Some incarnation, Delete k uid version at, Removed claim) ∷ later) run in
    let told = ap taken (sym (stepwise_at (opening capacity) before ((Some incarnation, Delete k uid version at, Removed claim) ∷ later) run).0) in
    let asked = asks_at r reading_set incarnation before (Delete k uid version at) (Removed claim) later (subst (λ es. Follows r reading_set (of_incarnation incarnation es)) where' (is.incarnations incarnation)) in
    elim (deleted_by r own (phase_after r reading_set own) k uid version at (known r own asked.0) asked.1) [
      | inl plan ↦ no_claim claim.key.kind kind (plan_takes r capacity before incarnation k uid version at claim is.least is.most first (sound incarnation.controller) plan told).1
      | inr collected ↦ collector_takes r capacity before incarnation k uid version at claim is.least is.most first (sound incarnation.controller) collected told more owner
    ]
