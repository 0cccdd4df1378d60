-- A controller's phase in its round.
use Rattle.std.specs.Prelude.{ℕ, Bool, true, false, List, [], reverse, Result, Ok}
use Rattle.objects.specs.declared.object.Object.{Object}
use Rattle.requests.specs.declared.request.Request.{Request}
use Rattle.requests.specs.declared.reply.Reply.{Reply}
use Rattle.requests.specs.declared.reply.Reply.TheVariants.{Listed}
use Rattle.set_views.specs.declared.fault.PlanError.{PlanError}
use Rattle.controllers.specs.Planned.{requested}
use Rattle.rounds.specs.Phase as phases
use Rattle.rounds.specs.Phase.{Phase}
use Rattle.controllers.specs.declared.progress.Progress.{Progress}
use Rattle.controllers.specs.declared.progress.Progress.TheVariants.{ReadingSet, ListingRevisions, ListingPods, ListingClaims, Acting, ListingOldClaims, ListingOwnerSets, ListingOwnerPods, ListingOwnerRevisions, ListingOwnerClaims, Deleting}

unfoldable pub phase_at : Progress → Phase
phase_at ReadingSet = phases.reading_set
phase_at (ListingRevisions set) = phases.listing_revisions set
phase_at (ListingPods set revisions) = phases.listing_pods set revisions
phase_at (ListingClaims set revisions pods) = phases.listing_claims set revisions pods
phase_at (Acting next later) = phases.acting next (reverse later.items)
phase_at ListingOldClaims = phases.listing_old_claims
phase_at (ListingOwnerSets claims) = phases.listing_owner_sets claims
phase_at (ListingOwnerPods claims sets at) = phases.listing_owner_pods claims sets at
phase_at (ListingOwnerRevisions claims sets pods at) = phases.listing_owner_revisions claims sets pods at
phase_at (ListingOwnerClaims claims sets pods revisions at) = phases.listing_owner_claims claims sets pods revisions at
phase_at (Deleting next later) = phases.deleting next (reverse later.items)

-- it waits for a list, other than that of the claims for its plan
abbrev pub is_listing : Progress → Bool
is_listing ReadingSet = false
is_listing (ListingClaims set revisions pods) = false
is_listing (Acting next later) = false
is_listing (Deleting next later) = false
is_listing progress = true

-- it waits for the reply to an action or to a delete
abbrev pub is_carrying : Progress → Bool
is_carrying (Acting next later) = true
is_carrying (Deleting next later) = true
is_carrying progress = false

-- it waits for the list of the claims for its plan
abbrev pub is_planning : Progress → Bool
is_planning (ListingClaims set revisions pods) = true
is_planning progress = false

-- what it plans, given the claims that it waits for
abbrev pub planned_at : ℕ → List ℕ → Progress → List Object → Result (List Request) PlanError
planned_at digits moment (ListingClaims set revisions pods) claims = requested set digits moment revisions pods claims
planned_at digits moment progress claims = Ok []

-- the reply has a list
abbrev pub is_list : Reply → Bool
is_list (Listed objects at) = true
is_list reply = false
