-- A controller's round: its phases, the request of each, and the phase that the reply leads to. It reads its set, lists
-- the revisions, the pods and the claims, and carries out its plan. Then it collects: it lists the claims, and all that
-- may own one, and deletes the claims that no longer have an owner. Then it begins again.
use Rattle.std.specs.Prelude.{ℕ, min, Bool, true, false, ◌||◌, List, [], ◌∷◌, if◌then◌else◌}
use Rattle.objects.specs.declared.kind.Kind.{Kind}
use Rattle.objects.specs.declared.kind.Kind.TheVariants.{StatefulSet, Pod, PersistentVolumeClaim, ControllerRevision}
use Rattle.objects.specs.declared.object.Object.{Object}
use Rattle.requests.specs.declared.request.Request.{Request}
use Rattle.requests.specs.declared.request.Request.TheVariants as request
use Rattle.requests.specs.declared.request.Request.TheVariants.{Get}
use Rattle.requests.specs.declared.reply.Reply.{Reply}
use Rattle.requests.specs.declared.reply.Reply.TheVariants.{Found, Listed, Refused}
use Rattle.requests.specs.declared.reply.Reason.TheVariants.{NotFound}
use Rattle.rounds.specs.Accepted.{succeeded}
use Rattle.rounds.specs.Reconciler.{Reconciler}

-- A phase is named for its next request, and has what was read for it.
pub data Phase : Type 0 where
  reading_set : Phase
  listing_revisions : (set : Object) → Phase
  listing_pods : (set : Object) → (revisions : List Object) → Phase
  listing_claims : (set : Object) → (revisions pods : List Object) → Phase
  acting : (next : Request) → (later : List Request) → Phase
  listing_old_claims : Phase
  listing_owner_sets : (claims : List Object) → Phase
  listing_owner_pods : (claims sets : List Object) → (listed_at : ℕ) → Phase
  listing_owner_revisions : (claims sets pods : List Object) → (listed_at : ℕ) → Phase
  listing_owner_claims : (claims sets pods revisions : List Object) → (listed_at : ℕ) → Phase
  deleting : (next : Request) → (later : List Request) → Phase

-- the objects of a kind in the namespace of the set, as they are now
abbrev pub list_of : Reconciler → Kind → Request
list_of c kind = request.List kind c.set.namespace 0

unfoldable pub asks : Reconciler → Phase → Request
asks c reading_set = Get c.set
asks c (listing_revisions set) = list_of c ControllerRevision
asks c (listing_pods set revisions) = list_of c Pod
asks c (listing_claims set revisions pods) = list_of c PersistentVolumeClaim
asks c (acting next later) = next
asks c listing_old_claims = list_of c PersistentVolumeClaim
asks c (listing_owner_sets claims) = list_of c StatefulSet
asks c (listing_owner_pods claims sets at) = list_of c Pod
asks c (listing_owner_revisions claims sets pods at) = list_of c ControllerRevision
asks c (listing_owner_claims claims sets pods revisions at) = list_of c PersistentVolumeClaim
asks c (deleting next later) = next

-- what is left of a plan; after the last request the controller collects
abbrev pub acts : List Request → Phase
acts [] = listing_old_claims
acts (next ∷ later) = acting next later

-- what is left of the deletes; after the last one the round is over
abbrev pub deletes : List Request → Phase
deletes [] = reading_set
deletes (next ∷ later) = deleting next later

abbrev pub is_refusal : Reply → Bool
is_refusal (Refused reason) = true
is_refusal reply = false

-- There is nothing to plan for a set that is not there. Any other reply, which a get never has, ends the round.
abbrev pub from_set : Reply → Phase
from_set (Found set) = listing_revisions set
from_set (Refused NotFound) = listing_old_claims
from_set reply = reading_set

-- a reply that a list never has ends the round
abbrev pub from_list : (List Object → ℕ → Phase) → Reply → Phase
from_list next (Listed objects revision) = next objects revision
from_list next reply = reading_set

-- A refused action ends the round. A refused delete of a claim is ignored.
unfoldable pub takes : Reconciler → Phase → Reply → Phase
takes c reading_set reply = from_set reply
takes c (listing_revisions set) reply = from_list (λ revisions at. listing_pods set revisions) reply
takes c (listing_pods set revisions) reply = from_list (λ pods at. listing_claims set revisions pods) reply
takes c (listing_claims set revisions pods) reply = from_list (λ claims at. acts (c.plan set revisions pods claims)) reply
takes c (acting next later) reply = if succeeded next reply then acts later else reading_set
takes c listing_old_claims reply = from_list (λ claims at. listing_owner_sets claims) reply
takes c (listing_owner_sets claims) reply = from_list (λ sets at. listing_owner_pods claims sets at) reply
takes c (listing_owner_pods claims sets at) reply = from_list (λ pods new. listing_owner_revisions claims sets pods (min at new)) reply
takes c (listing_owner_revisions claims sets pods at) reply = from_list (λ revisions new. listing_owner_claims claims sets pods revisions (min at new)) reply
takes c (listing_owner_claims claims sets pods revisions at) reply =
    from_list (λ others new. deletes (c.collect claims (sets ∷ pods ∷ revisions ∷ others ∷ []) (min at new))) reply
takes c (deleting next later) reply = if succeeded next reply || is_refusal reply then deletes later else reading_set
