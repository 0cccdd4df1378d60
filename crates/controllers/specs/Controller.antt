-- What a controller is made of, and its phase.
use Rattle.std.specs.Prelude.{ℕ, Bool, List, Option}
use Rattle.objects.specs.declared.object.Object.{Object}
use Rattle.requests.specs.declared.reply.Reply.{Reply}
use Rattle.requests.specs.declared.reply.Reply.TheVariants.{Listed}
use Rattle.set_views.specs.declared.fault.PlanError.{PlanError}
use Rattle.rounds.specs.Phase.{Phase, listing_claims}
use Rattle.rounds.specs.Reconciler.{Reconciler}
use Rattle.controllers.specs.declared.controller.Controller.{Controller}
use Rattle.controllers.specs.Planned.{requested, why_not}
use Rattle.controllers.specs.Progress.{phase_at}
use Rattle.controllers.specs.Reconciler.{reconciler_with}

unfoldable pub reconciler_of : Controller → Reconciler
reconciler_of c = reconciler_with c.set c.digits c.moment

unfoldable pub phase_of : Controller → Phase
phase_of c = phase_at c.progress

-- whether it waits for the reply to a request
unfoldable pub is_waiting : Controller → Bool
is_waiting c = c.waits

-- why its last plan was refused
unfoldable pub refusal_of : Controller → Option PlanError
refusal_of c = c.refusal

-- with which refusal a plan over a set and these lists ends, if it is refused
abbrev pub Refusals : Type 0
Refusals = (set : Object) → (revisions pods claims : List Object) → Option PlanError

-- the refusals of the plans of a controller with that many digits and that moment
abbrev pub refusals_with : ℕ → List ℕ → Refusals
refusals_with digits moment set revisions pods claims = why_not (requested set digits moment revisions pods claims)

unfoldable pub refusals_of : Controller → Refusals
refusals_of c = refusals_with c.digits c.moment

-- The refusal stays until a plan is made, or another one is refused.
abbrev pub refusal_after : Refusals → Phase → Reply → Option PlanError → Option PlanError
refusal_after refusals (listing_claims set revisions pods) (Listed claims at) refusal = refusals set revisions pods claims
refusal_after refusals phase reply refusal = refusal
