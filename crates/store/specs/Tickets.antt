-- What contracts see of a ticket: what it rests on, and what its reply is.
use Rattle.std.specs.Prelude.{◌≡◌, ◌⊎◌, ℕ, ◌-◌, ◌<◌, ◌≤◌, max, true, false, List, [], ◌∷◌, ◌++◌, length, take, Option, Some, None, IfSome, nat_le, if◌then◌else◌}
use mathlib.Core.List.{IsPrefix}
use mathlib.Core.Option.{some}
use lib.ListN.{get_elem?}
use Rattle.std.specs.FinMap as finite
use Rattle.objects.specs.declared.key.Key.{Key}
use Rattle.objects.specs.declared.object.Object.{Object}
use Rattle.objects.specs.ShardOf.{shard_of}
use Rattle.requests.specs.declared.request.Request.{Request}
use Rattle.requests.specs.declared.reply.Reply.{Reply}
use Rattle.requests.specs.declared.reply.Reply.TheVariants.{Refused}
use Rattle.requests.specs.declared.reply.Reason.TheVariants.{StoreFull}
use Rattle.requests.specs.DrawnRevisions.{drew_revision}
use Rattle.requests.specs.Keys.{key_named}
use Rattle.requests.specs.Verdict.{is_write, verdict}
use Rattle.plain_store.specs.Store.{step}
use Rattle.line.specs.declared.view.Observation.{Observation}
use Rattle.line.specs.Notes.{notes_of, notes_up_to}
use Rattle.store.specs.declared.writing.Writing.{Writing}
use Rattle.store.specs.History.{IsHistory, answered, by_of, current_of, store_after}
use Rattle.store.specs.Callers.{Caller}

-- a write that was submitted: its request, how much its caller had seen then, what it saw, its place, and its reply
-- until that is given
pub record Ticket : Type 0 where
  pub request : Request
  pub since : ℕ
  pub saw : ℕ
  pub place : ℕ
  pub reply : Option Reply

-- what a ticket gives if the frontier is found at f: its reply, once f is at least what it saw
abbrev pub due_reply : Ticket → ℕ → Option Reply
due_reply t f = if nat_le t.saw f then t.reply else None

-- after it was tried there
abbrev pub after_reply : Ticket → ℕ → Ticket
after_reply t f = if nat_le t.saw f then record t { reply = None } else t

-- a write that changed nothing saw the object of its key, at that object's revision
abbrev pub Saw : Option Object → ℕ → Type 0
Saw None saw = Unit {0}
Saw (Some o) saw = (0 < saw) × (saw ≡ o.meta.revision)

-- The reply of a ticket is that of one history: what its caller has seen, up to the ticket's place.
pub record IsReply (capacity : ℕ) (t : Ticket) (reply : Reply) (c : Caller) : Type 0 where
  -- it is a history, as long as the place, which begins with what the caller had seen when it submitted the write
  pub history : IsHistory capacity (take t.place c.seen)
  pub long : length (take t.place c.seen) ≡ t.place
  pub since : t.since ≤ t.place
  -- an accepted write is its last, and has the plain store's reply there
  pub written : drew_revision reply ≡ true → (w : Writing) × (0 < t.place) × (get_elem? c.seen (t.place - 1) ≡ some w) × (w.request ≡ t.request) × (w.by ≡ c.name) × (reply ≡ (step (store_after capacity (take (t.place - 1) c.seen)) t.request).1)
  -- any other reply is the plain store's after it
  pub answered : drew_revision reply ≡ false → reply ≡ (step (store_after capacity (take t.place c.seen)) t.request).1
  -- what the write saw: its number; else the capacity, or the revision of its key's object there
  pub took : drew_revision reply ≡ true → t.saw ≡ t.place
  pub saw : drew_revision reply ≡ false → ((reply ≡ Refused StoreFull) × (t.saw ≡ capacity)) ⊎ ((key : Key) → key_named t.request ≡ Some key → Saw (finite.get (store_after capacity (take t.place c.seen)).objects key) t.saw)
  -- of the caller's own it has just the accepted writes with a number up to its length, each at its number
  pub own_notes : notes_up_to t.place c.own_notes ≡ notes_of by_of c.name 1 (take t.place c.seen)

-- How a write changes its caller's own writes: an accepted one is added, at its place, with a count that none had; any
-- other changes nothing. What was noted of shards stays.
pub record WritesOwn (c : Caller) (t : Ticket) (d : Caller) : Type 0 where
  pub name_is : d.name ≡ c.name
  pub observations_stay : IsPrefix c.observations d.observations
  pub own_is : (IfSome t.reply (λ r. drew_revision r ≡ false) × (d.own_notes ≡ c.own_notes))
      ⊎ (IfSome t.reply (λ r. drew_revision r ≡ true) × ((w : Writing) × (d.own_notes ≡ c.own_notes ++ (t.place, w) ∷ []) × (w.request ≡ t.request) × (w.by ≡ c.name) × (w.count ≡ length c.observations)))

-- ---- what a ticket rests on

-- an accepted write is the last of the notes, and its reply is the plain store's there
pub record IsWritten (capacity : ℕ) (t : Ticket) (key : Key) (name : ℕ) (notes : List (ℕ × Writing)) (reply : Reply) : Type 0 where
  pub write : Writing
  pub earlier : List (ℕ × Writing)
  pub last : notes ≡ earlier ++ (t.place, write) ∷ []
  pub below : notes_up_to (t.place - 1) earlier ≡ earlier
  pub request_is : write.request ≡ t.request
  pub by_is : write.by ≡ name
  pub positive : 0 < t.place
  pub accepted : drew_revision reply ≡ true
  pub saw_is : t.saw ≡ t.place
  pub reply_is : reply ≡ answered capacity (t.place - 1) (verdict t.request (current_of earlier key))

-- any other has the plain store's reply after all notes up to its place
pub record IsAnswered (capacity : ℕ) (t : Ticket) (key : Key) (notes : List (ℕ × Writing)) (reply : Reply) : Type 0 where
  pub other : drew_revision reply ≡ false
  pub reply_is : reply ≡ answered capacity t.place (verdict t.request (current_of (notes_up_to t.place notes) key))
  pub sees : ((reply ≡ Refused StoreFull) × (t.saw ≡ capacity)) ⊎ Saw (current_of (notes_up_to t.place notes) key) t.saw

-- the ticket is one of this caller's: what the caller noted of the key's shard, when the ticket was made, says why the
-- reply is due
pub record IsTicketOf (shards capacity : ℕ) (t : Ticket) (c : Caller) : Type 0 where
  pub key : Key
  pub write : is_write t.request ≡ true
  pub named : key_named t.request ≡ Some key
  pub at : ℕ
  pub entry : Observation Writing
  pub there : get_elem? c.observations at ≡ some entry
  pub home : entry.shard ≡ shard_of key shards
  pub covers : t.place ≤ entry.drawn
  pub since : t.since ≤ t.place
  pub loaded : ℕ
  pub place_is : t.place ≡ max t.saw loaded
  pub known : loaded ≤ length c.seen
  pub due : (reply : Reply) → t.reply ≡ Some reply → IsWritten capacity t key c.name entry.notes reply ⊎ IsAnswered capacity t key entry.notes reply
