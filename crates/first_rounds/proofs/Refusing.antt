-- A controller's plan is refused as its actions are.
use Rattle.std.proofs.Common.{◌≡◌, ◌∙◌, ap, ℕ, List, Option, Result, Ok, Err, Some, None, refl, sym}
use Rattle.objects.specs.declared.object.Object.{Object}
use Rattle.requests.specs.declared.request.Request.{Request}
use Rattle.set_views.specs.declared.fault.PlanError.{PlanError}
use Rattle.set_views.specs.declared.fault.PlanError.TheVariants as errors
use Rattle.set_views.specs.Steps.{◌>>=◌, Fails}
use Rattle.set_views.specs.Set.{SetParts}
use Rattle.set_views.specs.SetReading.{set_of}
use Rattle.sets.specs.declared.action.Action.{Action}
use Rattle.sets.specs.PlanOfLists.{plan_of_lists}
use Rattle.controllers.specs.Controller.{refusals_with}
use Rattle.controllers.specs.Planned.{requested, requested_for, requests_of, why_not}
use Rattle.controllers.proofs.Heard.{refused_with}
use Rattle.first_rounds.specs.Obstacles.{actions_for}

abbrev refused_by : Result (List Action) PlanError → Option PlanError
refused_by (Ok actions) = None
refused_by (Err e) = Some e

over_plan : (f : List Action → List Request) (planned : Result (List Action) PlanError) → why_not (planned >>= λ actions. Ok (f actions)) ≡ refused_by planned
over_plan f (Ok actions) = refl
over_plan f (Err e) = refl

module _ (o : Object) (digits : ℕ) (revisions pods claims : List Object) where
  over_set : (moment : List ℕ) (read : Result SetParts PlanError)
      → why_not (read >>= λ set. requested_for set digits moment revisions pods claims)
      ≡ refused_by (read >>= λ set. plan_of_lists set digits revisions pods claims)
  unfolding requested_for
  over_set moment (Ok set) = over_plan (requests_of set.object.key.namespace moment) (plan_of_lists set digits revisions pods claims)
  over_set moment (Err e) = refl

  same_refusal : (moment : List ℕ) → refusals_with digits moment o revisions pods claims ≡ refused_by (actions_for o digits revisions pods claims)
  unfolding requested
  same_refusal moment = over_set moment (set_of o)

  -- no refusal, if it has a plan
  pub of_plan : (actions : List Action) → actions_for o digits revisions pods claims ≡ Ok actions
      → (moment : List ℕ) → None ≡ refusals_with digits moment o revisions pods claims
  of_plan actions is moment = sym (same_refusal moment ∙ ap refused_by is)

  -- the refusal, if it has none
  pub of_refusal : (e : PlanError) → (e ≡ errors.Memory → ⊥) → Fails e (actions_for o digits revisions pods claims)
      → (moment : List ℕ) → Some e ≡ refusals_with digits moment o revisions pods claims
  of_refusal e other fails moment = sym (same_refusal moment ∙ ap refused_by (refused_with e (actions_for o digits revisions pods claims) other fails))
