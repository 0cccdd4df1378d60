-- What a plan and a collection have to satisfy, so that what they write is safe.
use Rattle.std.specs.Prelude.{◌≡◌, ℕ, true, List, ◌++◌, Option, Some, ⊤}
use Rattle.objects.specs.declared.key.Key.{Key}
use Rattle.objects.specs.declared.object.Object.{Object}
use Rattle.objects.specs.Uid.{uid_text}
use Rattle.requests.specs.declared.request.Request.{Request}
use Rattle.requests.specs.declared.request.Request.TheVariants as request
use Rattle.requests.specs.declared.request.Request.TheVariants.{Create, Get, Update, UpdateStatus, Delete, Compact}
use Rattle.requests.specs.Lists.{Has}
use Rattle.collector.specs.Collectable.{deletion, is_collectable, is_listed}
use Rattle.rounds.specs.Reconciler.{Reconciler}

-- one of the objects has this key and this UID
pub record HasNamed (objects : List Object) (key : Key) (uid : Option (List ℕ)) : Type 0 where
  pub object : Object
  pub among : Has object objects
  pub key_is : key ≡ object.key
  pub uid_is : uid ≡ Some (uid_text object.meta.uid)

-- A plan reads nothing and compacts nothing, and what it deletes is one of these objects, by the UID that was read.
abbrev pub IsAction : List Object → Request → Type 0
IsAction objects (Create d) = ⊤
IsAction objects (Get k) = ⊥
IsAction objects (request.List kind namespace exact) = ⊥
IsAction objects (Update d) = ⊤
IsAction objects (UpdateStatus d) = ⊤
IsAction objects (Delete k uid version at) = HasNamed objects k uid
IsAction objects (Compact to) = ⊥

-- the delete of one of the claims, as it was read, that is collectable by these lists of owners
pub record IsCollection (claims : List Object) (owners : List (List Object)) (listed_at : ℕ) (r : Request) : Type 0 where
  pub claim : Object
  pub among : Has claim claims
  pub collectable : is_collectable listed_at (is_listed owners) claim ≡ true
  pub deletes : r ≡ deletion claim

-- A plan deletes no objects but pods and revisions that were listed for it, and a collection no claims but those that
-- are collectable.
pub record IsSound (c : Reconciler) : Type 0 where
  pub plans : (set : Object) (revisions pods claims : List Object) (r : Request)
      → Has r (c.plan set revisions pods claims) → IsAction (revisions ++ pods) r
  pub collects : (claims : List Object) (owners : List (List Object)) (listed_at : ℕ) (r : Request)
      → Has r (c.collect claims owners listed_at) → IsCollection claims owners listed_at r
