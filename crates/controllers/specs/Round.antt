-- What a reply does to a controller.
use Rattle.std.specs.Prelude.{◌≡◌, Option, Result, OnErr, OnOk}
use Rattle.requests.specs.declared.reply.Reply.{Reply}
use Rattle.set_views.specs.declared.fault.PlanError.{PlanError}
use Rattle.rounds.specs.Phase.{Phase, takes}
use Rattle.controllers.specs.declared.controller.Controller.{Controller}
use Rattle.controllers.specs.Controller.{phase_of, reconciler_of, refusal_after, refusal_of, refusals_of}

-- it keeps its reconciler, and waits if it waited
pub record KeepsItself (old new : Controller) : Type 0 where
  pub reconciler : reconciler_of new ≡ reconciler_of old
  pub refusals : refusals_of new ≡ refusals_of old
  pub waits : new.waits ≡ old.waits

-- its phase, and why its last plan was refused
pub record StandsAt (phase : Phase) (refusal : Option PlanError) (controller : Controller) : Type 0 where
  pub phase_is : phase_of controller ≡ phase
  pub refusal_is : refusal_of controller ≡ refusal

-- its phase and its refusal stay
abbrev pub Stays : (old new : Controller) → Type 0
Stays old new = StandsAt (phase_of old) (refusal_of old) new

-- its phase is the one after the reply
abbrev pub Hears : Reply → (old new : Controller) → Type 0
Hears reply old new = StandsAt (takes (reconciler_of old) (phase_of old) reply) (refusal_after (refusals_of old) (phase_of old) reply (refusal_of old)) new

-- It handles the reply; out of memory its phase stays.
pub record Takes {T E : Type 0} (reply : Reply) (old new : Controller) (result : Result T E) : Type 0 where
  pub itself : KeepsItself old new
  pub taken : OnOk result (Hears reply old new)
  pub memory : OnErr result (Stays old new)
