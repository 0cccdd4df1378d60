-- The revisions that a plan deletes were listed, and controlled by the set.
use Rattle.std.proofs.Common.{◌≡◌, ℕ, List, Ok, refl}
use Rattle.std.specs.Prelude.{⊤}
use Rattle.std.specs.List.{Contains}
use Rattle.std.proofs.lemmas.List.Elements.{All-contains, All-contains_itself, All-weaker}
use Rattle.objects.specs.declared.object.Object.{Object}
use Rattle.set_views.specs.Pod.{PodParts}
use Rattle.set_views.specs.Set.{SetParts}
use Rattle.sets.specs.declared.action.Action.{Action}
use Rattle.sets.specs.declared.action.Action.TheVariants.{DeleteRevision}
use Rattle.sets.specs.Actions.{Claims}
use Rattle.sets.specs.FullPlan.{deletion}
use Rattle.sets.specs.Plan.{plan_of_pods}
use Rattle.controllers.proofs.PlannedActions.{of_plan, of_step}

-- the revision that the action deletes, if it does, is one of these
abbrev DeletesOf : List Object → Action → Type 0
DeletesOf owned (DeleteRevision name uid version) = (o : Object) × Contains owned o × (o.key.name ≡ name) × (o.meta.uid ≡ uid)
DeletesOf owned a = ⊤

pub deletes_controlled : (set : SetParts) (claims : Claims) (views : List PodParts) (owned : List Object) (current update : Object) (actions : List Action) (name : List ℕ) (uid version : ℕ)
    → plan_of_pods set claims views owned current update ≡ Ok actions → Contains actions (DeleteRevision name uid version) → (o : Object) × Contains owned o × (o.key.name ≡ name) × (o.meta.uid ≡ uid)
deletes_controlled set claims views owned current update actions name uid version e at =
    All-contains (DeletesOf owned) actions (DeleteRevision name uid version)
    (of_plan (DeletesOf owned) set claims views owned current update actions
    (λ s. of_step (DeletesOf owned) set claims current update (λ o. tt) (λ o. tt) s (λ i revision is. tt) (λ i gone. tt) (λ i cause. tt))
    (All-weaker (Contains owned) (λ o. DeletesOf owned (deletion o)) (λ o there. (o, there, refl, refl)) owned (All-contains_itself owned)) (λ o. tt) e) at
