-- What follows the reply to a request.
use Rattle.std.proofs.Common.{◌≡◌, ◌∙◌, ℕ, ap, List, Option, Result, Err, true, false, refl, sym, true≢false}
use Rattle.objects.specs.declared.object.Object.{Object}
use Rattle.objects.specs.declared.key.Key.{Key}
use Rattle.requests.specs.declared.reply.Reply.{Reply}
use Rattle.requests.specs.declared.reply.Reply.TheVariants.{Listed}
use Rattle.set_views.specs.declared.fault.PlanError.{PlanError}
use Rattle.set_views.specs.declared.fault.PlanError.TheVariants as errors
use Rattle.set_views.specs.Steps.{Fails}
use Rattle.rounds.specs.Phase as phases
use Rattle.rounds.specs.Phase.{Phase, acts, from_list, from_set, takes}
use Rattle.rounds.specs.Reconciler.{Reconciler}
use Rattle.controllers.specs.declared.progress.Progress.{Progress}
use Rattle.controllers.specs.declared.progress.Progress.TheVariants.{ReadingSet, ListingClaims, Acting, Deleting}
use Rattle.controllers.specs.declared.controller.Controller.{Controller}
use Rattle.controllers.specs.Controller.{Refusals, phase_of, reconciler_of, refusal_after, refusal_of, refusals_of, refusals_with}
use Rattle.controllers.specs.Progress.{is_carrying, is_list, is_listing, is_planning, phase_at, planned_at}
use Rattle.controllers.specs.Round.{Hears, StandsAt}
use Rattle.controllers.specs.Planned.{or_none, requested, why_not}
use Rattle.controllers.specs.Reconciler.{reconciler_with}

-- a reply without a list ends the round if a list is awaited
from_none : (next : List Object → ℕ → Phase) (reply : Reply) → is_list reply ≡ false → from_list next reply ≡ phases.reading_set
from_none next (Listed objects at) h = absurd (true≢false h)
from_none next reply h = refl

pub list_ends : (p : Progress) (c : Reconciler) (reply : Reply) → is_listing p ≡ true → is_list reply ≡ false → takes c (phase_at p) reply ≡ phases.reading_set
unfolding phase_at takes
list_ends ReadingSet c reply h none = absurd (true≢false (sym h))
list_ends (ListingClaims set revisions pods) c reply h none = absurd (true≢false (sym h))
list_ends (Acting next later) c reply h none = absurd (true≢false (sym h))
list_ends (Deleting next later) c reply h none = absurd (true≢false (sym h))
list_ends _ c reply h none = from_none _ reply none

claims_end : (p : Progress) (c : Reconciler) (reply : Reply) → is_planning p ≡ true → is_list reply ≡ false → takes c (phase_at p) reply ≡ phases.reading_set
unfolding phase_at takes
claims_end (ListingClaims set revisions pods) c reply h none = from_none _ reply none
claims_end _ c reply h none = absurd (true≢false (sym h))

claims_heard : (p : Progress) (set : Key) (digits : ℕ) (moment : List ℕ) (claims : List Object) (at : ℕ) (reply : Reply) → is_planning p ≡ true → reply ≡ Listed claims at
    → takes (reconciler_with set digits moment) (phase_at p) reply ≡ acts (or_none (planned_at digits moment p claims))
unfolding phase_at takes
claims_heard (ListingClaims set revisions pods) key digits moment claims at reply h is = ap (λ r. from_list (λ others new. acts (or_none (requested set digits moment revisions pods others))) r) is
claims_heard _ key digits moment claims at reply h is = absurd (true≢false (sym h))

refusal_at_claims : (p : Progress) (digits : ℕ) (moment : List ℕ) (claims : List Object) (at : ℕ) (reply : Reply) (refusal : Option PlanError) → is_planning p ≡ true → reply ≡ Listed claims at
    → refusal_after (refusals_with digits moment) (phase_at p) reply refusal ≡ why_not (planned_at digits moment p claims)
unfolding phase_at
refusal_at_claims (ListingClaims set revisions pods) digits moment claims at reply refusal h is = ap (λ r. refusal_after (refusals_with digits moment) (phases.listing_claims set revisions pods) r refusal) is
refusal_at_claims _ digits moment claims at reply refusal h is = absurd (true≢false (sym h))

refusal_unheard : (phase : Phase) (refusals : Refusals) (reply : Reply) (refusal : Option PlanError) → is_list reply ≡ false → refusal_after refusals phase reply refusal ≡ refusal
refusal_unheard (phases.listing_claims set revisions pods) refusals (Listed objects at) refusal h = absurd (true≢false h)
refusal_unheard phase refusals reply refusal h = refl

-- the plan for which it had all lists but the last
pub plan_heard : (old new : Controller) (claims : List Object) (at : ℕ) (reply : Reply) → is_planning old.progress ≡ true → reply ≡ Listed claims at
    → StandsAt (acts (or_none (planned_at old.digits old.moment old.progress claims))) (why_not (planned_at old.digits old.moment old.progress claims)) new → Hears reply old new
unfolding phase_of reconciler_of refusals_of
plan_heard old new claims at reply plans is stands = record {
  phase_is = stands.phase_is ∙ sym (claims_heard old.progress old.set old.digits old.moment claims at reply plans is);
  refusal_is = stands.refusal_is ∙ sym (refusal_at_claims old.progress old.digits old.moment claims at reply (refusal_of old) plans is);
}

pub plan_unheard : (old : Controller) (reply : Reply) → is_planning old.progress ≡ true → is_list reply ≡ false → Hears reply old (record old { progress = ReadingSet })
unfolding phase_at phase_of reconciler_of refusal_of refusals_of
plan_unheard old reply plans none = record {
  phase_is = sym (claims_end old.progress (reconciler_of old) reply plans none);
  refusal_is = sym (refusal_unheard (phase_of old) (refusals_of old) reply (refusal_of old) none);
}

pub set_heard : (p : Progress) (c : Reconciler) (reply : Reply) → p ≡ ReadingSet → takes c (phase_at p) reply ≡ from_set reply
unfolding phase_at takes
set_heard p c reply is = ap (λ q. takes c (phase_at q) reply) is

pub refusal_at_set : (p : Progress) (refusals : Refusals) (reply : Reply) (refusal : Option PlanError) → p ≡ ReadingSet → refusal_after refusals (phase_at p) reply refusal ≡ refusal
unfolding phase_at
refusal_at_set p refusals reply refusal is = ap (λ q. refusal_after refusals (phase_at q) reply refusal) is

pub refusal_stays : (p : Progress) (refusals : Refusals) (reply : Reply) (refusal : Option PlanError) → is_listing p ≡ true → refusal_after refusals (phase_at p) reply refusal ≡ refusal
unfolding phase_at
refusal_stays (ListingClaims set revisions pods) refusals reply refusal h = absurd (true≢false (sym h))
refusal_stays p refusals reply refusal h = refl

pub refusal_carried : (p : Progress) (refusals : Refusals) (reply : Reply) (refusal : Option PlanError) → is_carrying p ≡ true → refusal_after refusals (phase_at p) reply refusal ≡ refusal
unfolding phase_at
refusal_carried (ListingClaims set revisions pods) refusals reply refusal h = absurd (true≢false (sym h))
refusal_carried p refusals reply refusal h = refl

-- what is neither read nor listed
pub carries : (p : Progress) → is_listing p ≡ false → (p ≡ ReadingSet → ⊥) → ((set : Object) (revisions pods : List Object) → p ≡ ListingClaims set revisions pods → ⊥) → is_carrying p ≡ true
carries ReadingSet h no_set no_claims = absurd (no_set refl)
carries (ListingClaims set revisions pods) h no_set no_claims = absurd (no_claims set revisions pods refl)
carries (Acting next later) h no_set no_claims = refl
carries (Deleting next later) h no_set no_claims = refl
carries _ h no_set no_claims = absurd (true≢false h)

-- a refusal other than out of memory is that of the plan
pub refused_with : {A : Type 0} (e : PlanError) (planned : Result A PlanError) → (e ≡ errors.Memory → ⊥) → Fails e planned → planned ≡ Err e
refused_with errors.Memory planned other h = absurd (other refl)
refused_with _ planned other h = h
