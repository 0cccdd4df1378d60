-- What a kubelet's turn leaves in a store.
use Rattle.std.specs.Prelude.{◌≡◌, ◌≢◌, ◌+◌, ◌≤◌, ℕ, Bool, true, false, List, length, codes, Option, Some, None, is_some}
use Rattle.std.specs.FinMap as map
use Rattle.objects.specs.declared.key.Key.{Key}
use Rattle.objects.specs.declared.kind.Kind.TheVariants.{Pod}
use Rattle.objects.specs.declared.object.Object.{Object}
use Rattle.objects.specs.Status.{member_of}
use Rattle.set_views.specs.declared.readiness.Readiness.{Readiness}
use Rattle.set_views.specs.declared.readiness.Readiness.TheVariants.{Failed, NotReady, Ready}
use Rattle.set_views.specs.Readiness.{readiness_of}
use Rattle.plain_store.specs.AtKey.{Has}
use Rattle.plain_store.specs.Filed.{AreFiled}
use Rattle.plain_store.specs.StatusWrites.{HasMembers}
use Rattle.plain_store.specs.Store.{Store, collection, is_of}

abbrev pub ready_or_ended : Readiness → Readiness
ready_or_ended Ready = Ready
ready_or_ended NotReady = Ready
ready_or_ended Failed = Failed

-- the pod is ready afterwards unless it has failed; nothing else of it has changed but its resource version
pub record IsMadeReady (before after : Object) : Type 0 where
  pub key : after.key ≡ before.key
  pub uid : after.meta.uid ≡ before.meta.uid
  pub deletion : after.meta.deletion ≡ before.meta.deletion
  pub readiness : readiness_of after.body ≡ ready_or_ended (readiness_of before.body)
  pub members : (name : List ℕ) → name ≢ codes "status" → member_of name after.body ≡ member_of name before.body

-- the same, by whether the pod is marked
abbrev pub TendsBy : Bool → Object → Option Object → Type 0
TendsBy true o after = after ≡ None
TendsBy false o after = (p : Object) × (after ≡ Some p) × IsMadeReady o p

-- what was under a pod's key, and what is there afterwards: a marked pod is removed
abbrev pub TendsTo : Option Object → Option Object → Type 0
TendsTo None after = after ≡ None
TendsTo (Some o) after = TendsBy (is_some o.meta.deletion) o after

-- the pods of the namespace are tended, and all else is as it was
pub record IsTurnOver (namespace : List ℕ) (before after : Store) : Type 0 where
  pub pods : (key : Key) → is_of Pod namespace key ≡ true → TendsTo (map.get before.objects key) (map.get after.objects key)
  pub others : (key : Key) → is_of Pod namespace key ≡ false → map.get after.objects key ≡ map.get before.objects key

-- a store with revisions left for a turn; each object is under its key, and its body is a JSON object
pub record MayTurn (namespace : List ℕ) (s : Store) : Type 0 where
  pub filed : AreFiled s.objects
  pub members : (key : Key) (o : Object) → Has s key o → HasMembers o.body
  pub room : s.counter + length (collection s.objects Pod namespace) ≤ s.capacity
