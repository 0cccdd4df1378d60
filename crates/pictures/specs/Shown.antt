-- What a picture shows of a run: all of it, or only the writes, which are creates, updates, status requests and
-- deletes.
use Rattle.std.specs.Prelude.{ℕ, Bool, true, false, ◌||◌, cond, Option, Some, None}
use Rattle.requests.specs.Verdict.{is_write}
use Rattle.requests.specs.declared.request.Request.{Request}
use Rattle.requests.specs.declared.reply.Reason.{Reason}
use Rattle.requests.specs.declared.reply.Reason.TheVariants.{NotFound, AlreadyExists, Conflict, Invalid, StoreFull, Expired, TooLarge}
use Rattle.requests.specs.declared.reply.Reply.{Reply}
use Rattle.requests.specs.declared.reply.Reply.TheVariants.{Created, Found, Listed, Updated, Unchanged, Marked, Removed, Compacted, Refused}
use Rattle.interleavings.specs.declared.event.Event.{Event}
use Rattle.interleavings.specs.declared.event.Event.TheVariants as event
use Rattle.interleavings.specs.Callers.{named_by}
use Rattle.history.specs.declared.caller_phase.CallerPhase.{CallerPhase}
use Rattle.history.specs.declared.caller_phase.CallerPhase.TheVariants.{Idle, Waiting}
use Rattle.pictures.specs.declared.shown.Shown.{Shown}
use Rattle.pictures.specs.declared.shown.Shown.TheVariants.{All, Writes}

-- whether a write can be refused for this reason: the other two are about a requested version
abbrev pub refuses_write : Reason → Bool
refuses_write NotFound = true
refuses_write AlreadyExists = true
refuses_write Conflict = true
refuses_write Invalid = true
refuses_write StoreFull = true
refuses_write Expired = false
refuses_write TooLarge = false

abbrev pub answers_write : Reply → Bool
answers_write (Created o) = true
answers_write (Found o) = false
answers_write (Listed os revision) = false
answers_write (Updated o) = true
answers_write (Unchanged o) = true
answers_write (Marked o) = true
answers_write (Removed o) = true
answers_write (Compacted revision) = false
answers_write (Refused reason) = refuses_write reason

-- The same, by its caller's state before it: a get that finds nothing is refused as a write may be, but while it reads.
abbrev pub is_reply_to_write : (before : CallerPhase) → Option Reply → Bool
is_reply_to_write (Waiting saw) (Some reply) = answers_write reply
is_reply_to_write _ _ = false

-- whether an event is a step of a write, or a crash, by its caller's state before it and by the reply that it gives
abbrev pub is_of_write : Event → (before : CallerPhase) → (delivered : Option Reply) → Bool
is_of_write (event.Call c r) before delivered = is_write r
is_of_write (event.Check c) before delivered = true
is_of_write (event.Reserve c) before delivered = true
is_of_write (event.Publish c) before delivered = true
is_of_write event.Raise before delivered = true
is_of_write (event.Read c) before delivered = false
is_of_write (event.ReadAt c) before delivered = false
is_of_write (event.Compact c) before delivered = false
is_of_write (event.Part c) before delivered = false
is_of_write (event.Reply c) before delivered = is_reply_to_write before delivered
is_of_write (event.Crash c) before delivered = true

abbrev pub is_all : Shown → Bool
is_all All = true
is_all Writes = false

-- whether the lines of the event are shown
abbrev pub shows : Shown → Event → (before : CallerPhase) → (delivered : Option Reply) → Bool
shows shown e before delivered = is_all shown || is_of_write e before delivered

-- ---- the participants
-- the caller, if it is idle and the request is a write: then it calls one
abbrev pub writer_of : (caller : ℕ) → Request → (before : CallerPhase) → Option ℕ
writer_of c r Idle = cond (is_write r) (Some c) None
writer_of c r _ = None

-- the caller that calls a write or crashes, if the event is that
abbrev pub writer_by : Event → (before : CallerPhase) → Option ℕ
writer_by (event.Call c r) before = writer_of c r before
writer_by (event.Check c) before = None
writer_by (event.Reserve c) before = None
writer_by (event.Publish c) before = None
writer_by event.Raise before = None
writer_by (event.Read c) before = None
writer_by (event.ReadAt c) before = None
writer_by (event.Compact c) before = None
writer_by (event.Part c) before = None
writer_by (event.Reply c) before = None
writer_by (event.Crash c) before = Some c

-- who takes part by the event: if all is shown, the caller that it names; if only writes are, the one that calls one or
-- crashes
abbrev pub participant : Shown → Event → (before : CallerPhase) → Option ℕ
participant All e before = named_by e
participant Writes e before = writer_by e before
