-- What the running store says of a reply: it is the plain store's, in the writes that its caller has seen.
use Rattle.std.specs.Prelude.{◌≡◌, ℕ, ◌<◌, ◌≤◌, ◌-◌, ◌==◌, Bool, true, false, length, take, Some}
use mathlib.Core.List.{IsPrefix}
use mathlib.Core.Option.{some}
use lib.ListN.{get_elem?}
use Rattle.objects.specs.declared.key.Key.{Key}
use Rattle.objects.specs.ShardOf.{shard_of}
use Rattle.plain_store.specs.Store.{step}
use Rattle.requests.specs.declared.reply.Reply.{Reply}
use Rattle.requests.specs.declared.request.Request.{Request}
use Rattle.requests.specs.declared.request.Request.TheVariants as request
use Rattle.requests.specs.Keys.{key_named}
use Rattle.requests.specs.Verdict.{is_write}
use Rattle.line.specs.declared.view.Observation.{Observation}
use Rattle.store.specs.declared.writing.Writing.{Writing}
use Rattle.store.specs.Callers.{Caller}
use Rattle.store.specs.History.{IsHistory, store_after}
use Rattle.requests.specs.DrawnRevisions.{drew_revision}

-- it reads the present state: a get, or a list at no past number
abbrev pub reads_now : Request → Bool
reads_now (request.Get key) = true
reads_now (request.List kind namespace exact) = exact == 0
reads_now _ = false

-- from one call to a later one: a caller keeps its name, and has seen and noted no less
pub record Learns (c d : Caller) : Type 0 where
  pub name : d.name ≡ c.name
  pub begins : IsPrefix c.seen d.seen
  pub observations : IsPrefix c.observations d.observations

-- the caller held the lock of the key's shard, of so many
pub record HasHeld (shards : ℕ) (c : Caller) (request : Request) : Type 0 where
  pub key : Key
  pub named : key_named request ≡ Some key
  pub at : ℕ
  pub entry : Observation Writing
  pub there : get_elem? c.observations at ≡ some entry
  pub home : entry.shard ≡ shard_of key shards

-- the caller has seen its write at that number, and the reply is the plain store's to it
pub record IsAccepted (capacity : ℕ) (c : Caller) (request : Request) (reply : Reply) (number : ℕ) : Type 0 where
  pub write : Writing
  pub positive : 0 < number
  pub there : get_elem? c.seen (number - 1) ≡ some write
  pub request_is : write.request ≡ request
  pub by_is : write.by ≡ c.name
  pub reply_is : reply ≡ (step (store_after capacity (take (number - 1) c.seen)) request).1

-- The caller has seen at least so many writes, and these are a history. The reply to an accepted write is the plain
-- store's to the last of them; to any other write, and to a read of now, it is the plain store's after them. For a list
-- of the past and for a compaction it says only that there is a history.
pub record IsAnswered (shards capacity : ℕ) (c : Caller) (request : Request) (reply : Reply) (number : ℕ) : Type 0 where
  pub history : IsHistory capacity (take number c.seen)
  pub long : length (take number c.seen) ≡ number
  pub held : is_write request ≡ true → HasHeld shards c request
  pub accepted : is_write request ≡ true → drew_revision reply ≡ true → IsAccepted capacity c request reply number
  pub other : is_write request ≡ true → drew_revision reply ≡ false → reply ≡ (step (store_after capacity (take number c.seen)) request).1
  pub read : reads_now request ≡ true → reply ≡ (step (store_after capacity (take number c.seen)) request).1

-- a caller sent this request when it had seen what c has, and the reply is no older
pub record HasReply (shards capacity : ℕ) (c d : Caller) (request : Request) (reply : Reply) (number : ℕ) : Type 0 where
  pub learns : Learns c d
  pub later : length c.seen ≤ number
  pub answered : IsAnswered shards capacity d request reply number
