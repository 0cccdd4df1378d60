-- What an accepted delete marks or removes.
use Rattle.std.specs.Prelude.{◌≡◌, ℕ, false, List, Option, Some, None}
use Rattle.objects.specs.declared.key.Key.{Key}
use Rattle.objects.specs.declared.object.Object.{Object}
use Rattle.requests.specs.declared.reply.Reply.{Reply}
use Rattle.requests.specs.declared.reply.Reply.TheVariants.{Created, Found, Listed, Updated, Unchanged, Marked, Removed, Compacted, Refused}
use Rattle.requests.specs.Verdict.{conflicts}
use Rattle.plain_store.specs.Store.{Store}
use Rattle.plain_store.specs.AtKey.{Has}

-- the object that the reply says was marked or removed
abbrev pub taken : Reply → Option Object
taken (Marked o) = Some o
taken (Removed o) = Some o
taken (Created o) = None
taken (Found o) = None
taken (Listed os revision) = None
taken (Updated o) = None
taken (Unchanged o) = None
taken (Compacted revision) = None
taken (Refused reason) = None

-- the object that was under the key has the UID and the resource version that were given, and is the one in the reply
pub record Takes (s : Store) (key : Key) (uid version : Option (List ℕ)) (o : Object) : Type 0 where
  pub current : Object
  pub there : Has s key current
  pub fits : conflicts version uid current ≡ false
  pub key_is : o.key ≡ current.key
  pub uid_is : o.meta.uid ≡ current.meta.uid
  pub body_is : o.body ≡ current.body
