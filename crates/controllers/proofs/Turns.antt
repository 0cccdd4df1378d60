-- Each create of a pod in a run comes in turn.
use Rattle.std.proofs.Common.{◌≡◌, inl, ℕ, List, ◌∷◌, Result, Ok, Err, refl, sym, subst}
use Rattle.objects.specs.declared.key.Key.{Key}
use Rattle.objects.specs.declared.kind.Kind.TheVariants.{Pod}
use Rattle.objects.specs.declared.object.Draft.{Draft}
use Rattle.requests.specs.declared.request.Request.{Request}
use Rattle.requests.specs.declared.request.Request.TheVariants.{Create}
use Rattle.set_views.specs.declared.fault.PlanError.{PlanError}
use Rattle.requests.specs.Lists.{Has}
use Rattle.rounds.specs.Planned.{IsPlanned, asked}
use Rattle.rounds.specs.Promises.{CreatesArePlanned}
use Rattle.rounds.specs.Reconciler.{Reconciler}
use Rattle.rounds.specs.Transcript.{Entry, Exchange, of_incarnation}
use Rattle.rounds.proofs.Lists.{among_right}
use Rattle.controllers.specs.Planned.{or_none, requested}
use Rattle.controllers.specs.Reconciler.{reconciler_with}
use Rattle.controllers.specs.InTurn.{ComesInTurn, IsInTurn, IsOfSet, PodsComeInTurn}
use Rattle.controllers.proofs.InTurn.{created_in_turn}

planned_in_turn : (set : Key) (digits : ℕ) (moment : List ℕ) (own : List Exchange) (d : Draft) (plan : IsPlanned (reconciler_with set digits moment) own (Create d)) → d.object.key.kind ≡ Pod
    → ComesInTurn (reconciler_with set digits moment) own d plan
planned_in_turn set digits moment own d plan kind = λ s read policy.
    let among = subst (Has (Create d)) plan.planned (among_right (Create d) (asked plan.done) (Create d ∷ plan.later) (inl refl)) in
    elim (requested plan.set digits moment plan.revisions plan.pods plan.claims)
    as (λ (r : Result (List Request) PlanError). requested plan.set digits moment plan.revisions plan.pods plan.claims ≡ r → Has (Create d) (or_none r) → IsInTurn s plan.pods (or_none r) d) [
      | Ok requests ↦ λ is at. created_in_turn plan.set s digits moment plan.revisions plan.pods plan.claims requests d read policy is at kind
      | Err e ↦ λ is at. absurd at
    ] refl among

pub pods_in_turn : (reconcilers : ℕ → Reconciler) (entries : List Entry) → ((c : ℕ) → IsOfSet (reconcilers c)) → CreatesArePlanned reconcilers entries → PodsComeInTurn reconcilers entries
pods_in_turn reconcilers entries sets planned = λ before later incarnation d reply at kind.
    let own = of_incarnation incarnation before in
    let plan = planned before later incarnation d reply at in
    let is = sets incarnation.controller in
    (plan, subst (λ (c : Reconciler). (p : IsPlanned c own (Create d)) → ComesInTurn c own d p) (sym is.3) (λ p. planned_in_turn is.0 is.1 is.2 own d p kind) plan)
