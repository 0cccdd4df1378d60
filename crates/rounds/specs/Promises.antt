-- What holds of the requests that one plain store handles for controllers and for any other clients.
use Rattle.std.specs.Prelude.{◌≡◌, ◌⊎◌, ◌≤◌, ℕ, List, ◌∷◌, ◌++◌, Option, Some}
use Rattle.objects.specs.declared.key.Key.{Key}
use Rattle.objects.specs.declared.kind.Kind.TheVariants.{Pod, PersistentVolumeClaim, ControllerRevision}
use Rattle.objects.specs.declared.object.Draft.{Draft}
use Rattle.objects.specs.declared.object.Object.{Object}
use Rattle.objects.specs.Metadata.{owners_of}
use Rattle.requests.specs.declared.request.Request.{Request}
use Rattle.requests.specs.declared.request.Request.TheVariants.{Create, Delete}
use Rattle.requests.specs.declared.reply.Reply.{Reply}
use Rattle.requests.specs.declared.reply.Reply.TheVariants.{Removed}
use Rattle.plain_store.specs.AtKey.{Has}
use Rattle.plain_store.specs.Run.{after}
use Rattle.plain_store.specs.Store.{Store, opening}
use Rattle.plain_store.specs.Taken.{taken}
use Rattle.requests.specs.Lists.{Has as Among}
use Rattle.collector.specs.Collectable.{HasOwner}
use Rattle.rounds.specs.Accepted.{Creates, HasRemoval}
use Rattle.rounds.specs.Incarnation.{Follows}
use Rattle.rounds.specs.Phase.{reading_set}
use Rattle.plain_store.specs.Reached.{most_revisions}
use Rattle.rounds.specs.Planned.{IsCollected, IsPlanned}
use Rattle.rounds.specs.Reconciler.{Reconciler}
use Rattle.rounds.specs.Transcript.{Entry, Exchange, IsRun, Incarnation, exchanges_of, of_incarnation, requests_of}

-- A run of the plain store, whose capacity is from 1 to 1,048,576, in which each incarnation of a controller begins by
-- reading its set and sends the requests that the controller's reconciler determines.
pub record IsTranscript (reconcilers : ℕ → Reconciler) (capacity : ℕ) (entries : List Entry) : Type 0 where
  pub least : 1 ≤ capacity
  pub most : capacity ≤ most_revisions
  pub run : IsRun capacity entries
  pub incarnations : (incarnation : Incarnation) → Follows (reconcilers incarnation.controller) reading_set (of_incarnation incarnation entries)

-- Between two accepted creates of one key is an accepted removal of the UID of the first.
abbrev pub NamesAreFreed : List Exchange → Type 0
NamesAreFreed exchanges =
    (before between later : List Exchange) (first second : Exchange) (o p : Object)
    → exchanges ≡ before ++ (first ∷ (between ++ (second ∷ later))) → Creates first o → Creates second p → o.key ≡ p.key → HasRemoval o between

-- one of the objects has this one's key and UID
pub record HasRead (objects : List Object) (o : Object) : Type 0 where
  pub object : Object
  pub among : Among object objects
  pub key_is : o.key ≡ object.key
  pub uid_is : o.meta.uid ≡ object.meta.uid

-- What an accepted delete of a plan marks or removes has the UID that was listed for the plan.
abbrev pub PlansTakeWhatTheyRead : (ℕ → Reconciler) → List Entry → Type 0
PlansTakeWhatTheyRead reconcilers entries =
    (before later : List Entry) (incarnation : Incarnation) (k : Key) (uid version at : Option (List ℕ)) (reply : Reply) (o : Object)
    → entries ≡ before ++ ((Some incarnation, Delete k uid version at, reply) ∷ later) → taken reply ≡ Some o
    → (plan : IsPlanned (reconcilers incarnation.controller) (of_incarnation incarnation before) (Delete k uid version at)) → HasRead (plan.revisions ++ plan.pods) o

-- Each create that an incarnation sends comes from a plan over the replies that it got in this round.
abbrev pub CreatesArePlanned : (ℕ → Reconciler) → List Entry → Type 0
CreatesArePlanned reconcilers entries =
    (before later : List Entry) (incarnation : Incarnation) (d : Draft) (reply : Reply)
    → entries ≡ before ++ ((Some incarnation, Create d, reply) ∷ later) → IsPlanned (reconcilers incarnation.controller) (of_incarnation incarnation before) (Create d)

-- Each delete that an incarnation sends is of a pod or a revision, and comes from a plan over the replies that it got
-- in this round; or it is of a claim, and comes from a collection over the replies that it got in this round.
abbrev pub DeletesArePlannedOrCollected : (ℕ → Reconciler) → List Entry → Type 0
DeletesArePlannedOrCollected reconcilers entries =
    (before later : List Entry) (incarnation : Incarnation) (k : Key) (uid version at : Option (List ℕ)) (reply : Reply)
    → entries ≡ before ++ ((Some incarnation, Delete k uid version at, reply) ∷ later)
    → (((k.kind ≡ Pod) ⊎ (k.kind ≡ ControllerRevision)) × IsPlanned (reconcilers incarnation.controller) (of_incarnation incarnation before) (Delete k uid version at))
    ⊎ ((k.kind ≡ PersistentVolumeClaim) × IsCollected (reconcilers incarnation.controller) (of_incarnation incarnation before) (Delete k uid version at))

-- an object of the claim's namespace has the UID of an owner of the claim
pub record HasOwnerOf (s : Store) (claim : Object) : Type 0 where
  pub key : Key
  pub object : Object
  pub there : Has s key object
  pub in_namespace : key.namespace ≡ claim.key.namespace
  pub owns : HasOwner object.meta.uid (owners_of claim.body)

-- When a controller's delete removes a claim, no object has the UID of an owner of it, and none ever will, whatever is
-- requested from then on.
abbrev pub OwnersAreGone : ℕ → List Entry → Type 0
OwnersAreGone capacity entries =
    (before later : List Entry) (incarnation : Incarnation) (k : Key) (uid version at : Option (List ℕ)) (claim : Object)
    → entries ≡ before ++ ((Some incarnation, Delete k uid version at, Removed claim) ∷ later) → claim.key.kind ≡ PersistentVolumeClaim
    → (more : List Request) → HasOwnerOf (after (opening capacity) (requests_of before ++ more)) claim → ⊥

-- all five
pub record KeepsPromises (reconcilers : ℕ → Reconciler) (capacity : ℕ) (entries : List Entry) : Type 0 where
  pub names : NamesAreFreed (exchanges_of entries)
  pub deletes : PlansTakeWhatTheyRead reconcilers entries
  pub creates : CreatesArePlanned reconcilers entries
  pub own_deletes : DeletesArePlannedOrCollected reconcilers entries
  pub owners : OwnersAreGone capacity entries
