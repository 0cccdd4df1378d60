-- Running histories: lists of writes, which the plain store accepts one after another.
use Rattle.std.specs.Prelude.{◌≡◌, ℕ, ◌+◌, ◌==◌, ◌≤◌, true, List, map, take, length, Option, Some, option_and_then, if◌then◌else◌}
use Rattle.objects.specs.declared.key.Key.{Key}
use Rattle.objects.specs.declared.object.Object.{Object}
use Rattle.objects.specs.ShardOf.{shard_of}
use Rattle.requests.specs.declared.request.Request.{Request}
use Rattle.requests.specs.declared.reply.Reply.{Reply}
use Rattle.requests.specs.declared.reply.Reply.TheVariants.{Refused, Unchanged}
use Rattle.requests.specs.declared.reply.Reason.TheVariants.{StoreFull}
use Rattle.requests.specs.declared.verdict.Verdict.{Verdict}
use Rattle.requests.specs.declared.verdict.Verdict.TheVariants.{Refuse, Same, Write}
use Rattle.requests.specs.Change.{accepted, change_object, stamp, version_of}
use Rattle.requests.specs.Keys.{key_named}
use Rattle.requests.specs.Verdict.{is_write, verdict}
use Rattle.plain_store.specs.Run.{after}
use Rattle.plain_store.specs.Store.{Store, opening}
use Rattle.versions.specs.Records.{Record, last_of}
use Rattle.line.specs.Notes.{notes_of}
use Rattle.store.specs.declared.writing.Writing.{Writing}

abbrev pub request_of : Writing → Request
request_of w = w.request

-- the plain store after a list of writes
abbrev pub store_after : ℕ → List Writing → Store
store_after capacity h = after (opening capacity) (map request_of h)

-- the plain store accepts each write of the list, so that the n-th has the number n
abbrev pub IsHistory : ℕ → List Writing → Type 0
IsHistory capacity h = (n : ℕ) → n ≤ length h → (store_after capacity (take n h)).counter ≡ n

-- the name of a write's caller
abbrev pub by_of : Writing → ℕ
by_of w = w.by

-- ---- writes of one shard, each with its number

-- the key of what a write leaves
abbrev pub key_of : Writing → Key
key_of w = (change_object w.change).key

-- the shard that keeps it
abbrev pub home_of : ℕ → Writing → ℕ
home_of shards w = shard_of (key_of w) shards

-- the record of a write and its number
abbrev pub record_of : ℕ × Writing → Record
record_of p = (p.0, version_of p.1.change p.0)

abbrev pub records_of : List (ℕ × Writing) → List Record
records_of ps = map record_of ps

abbrev pub state_of : Option Record → Option Object
state_of o = option_and_then (λ r. r.1.state) o

-- what a key is after the writes
abbrev pub current_of : List (ℕ × Writing) → Key → Option Object
current_of ps k = state_of (last_of k (records_of ps))

-- a write is accepted after the earlier ones of its shard
abbrev pub Accepts : List (ℕ × Writing) → Writing → Type 0
Accepts ps w = (is_write w.request ≡ true) × (key_named w.request ≡ Some (key_of w)) × (verdict w.request (current_of ps (key_of w)) ≡ Write w.change)

-- all writes of a history, each with its number
abbrev pub numbered : List Writing → List (ℕ × Writing)
numbered h = notes_of (λ _. 0) 0 1 h

-- the reply to a write request by its verdict, when so many numbers are drawn
abbrev pub answered : (capacity counter : ℕ) → Verdict → Reply
answered capacity n (Refuse reason) = Refused reason
answered capacity n (Same o) = Unchanged o
answered capacity n (Write c) = if n == capacity then Refused StoreFull else accepted c (stamp c (n + 1))
