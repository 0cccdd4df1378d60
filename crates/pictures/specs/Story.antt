-- The writes of a run: a line for each reply to a write, as
-- `856: web, controller 0, caller 2: delete Pod/default/web-2: Removed, version 20`, and one for each crash of a caller
-- whose write has no reply yet, as `12: caller 1: create Pod/default/a: crash`. It names the caller, the request and the
-- reply as a picture of the run does.
use Rattle.std.specs.Prelude.{ℕ, suc, Bool, true, false, ◌&&◌, List, [], ◌∷◌, ◌++◌, Option, Some, None, codes, decimal, if◌then◌else◌, ◌==◌}
use Rattle.requests.specs.declared.request.Request.{Request}
use Rattle.requests.specs.declared.reply.Reply.{Reply}
use Rattle.requests.specs.Verdict.{is_write}
use Rattle.interleavings.specs.declared.event.Event.{Event}
use Rattle.interleavings.specs.declared.event.Event.TheVariants as event
use Rattle.interleavings.specs.Callers.{named_by}
use Rattle.interleavings.specs.Step.{step}
use Rattle.interleavings.specs.World.{Size, World, opening}
use Rattle.history.specs.declared.caller_phase.CallerPhase.{CallerPhase}
use Rattle.history.specs.declared.caller_phase.CallerPhase.TheVariants.{Idle, Gone, Left}
use Rattle.pictures.specs.Labels.{reply_words, request_words}
use Rattle.pictures.specs.Picture.{caller_phase_by, delivered}

-- ---- each caller's last request
abbrev pub LastAsked : Type 0
LastAsked = ℕ → Option Request

abbrev pub none_asked : LastAsked
none_asked caller = None

-- a caller that is not idle calls nothing
abbrev pub asked_by : LastAsked → (caller : ℕ) → Request → (before : CallerPhase) → LastAsked
asked_by asked caller request Idle = λ c. if caller == c then Some request else asked c
asked_by asked caller request _ = asked

abbrev pub asked_after : LastAsked → Event → (before : CallerPhase) → LastAsked
asked_after asked (event.Call c r) before = asked_by asked c r before
asked_after asked (event.Check c) before = asked
asked_after asked (event.Reserve c) before = asked
asked_after asked (event.Publish c) before = asked
asked_after asked event.Raise before = asked
asked_after asked (event.Read c) before = asked
asked_after asked (event.ReadAt c) before = asked
asked_after asked (event.Compact c) before = asked
asked_after asked (event.Part c) before = asked
asked_after asked (event.Reply c) before = asked
asked_after asked (event.Crash c) before = asked

-- ---- the line of a write at its end, which is its reply or a crash; a read has none. `role` gives the words before a
-- caller's number
abbrev pub asker : (role : ℕ → List ℕ) → (place caller : ℕ) → List ℕ
asker role place caller = decimal place ++ (codes ": " ++ (role caller ++ (codes "caller " ++ (decimal caller ++ codes ": "))))

abbrev pub write_line : (role : ℕ → List ℕ) → (place caller : ℕ) → Request → (ending : List ℕ) → List ℕ
write_line role place caller request ending =
    asker role place caller ++ (request_words request ++ (codes ": " ++ (ending ++ codes "\n")))

abbrev pub reply_line : (role : ℕ → List ℕ) → (place caller : ℕ) → Option Request → (delivered : Option Reply) → List ℕ
reply_line role place caller None delivered = []
reply_line role place caller (Some request) None = []
reply_line role place caller (Some request) (Some reply) = if is_write request then write_line role place caller request (reply_words reply) else []

-- a caller has a request without a reply
abbrev pub is_open : (before : CallerPhase) → Bool
is_open Idle = false
is_open Gone = false
is_open (Left number shard) = false
is_open _ = true

abbrev pub crash_line : (role : ℕ → List ℕ) → (place caller : ℕ) → Option Request → (before : CallerPhase) → List ℕ
crash_line role place caller None before = []
crash_line role place caller (Some request) before = if is_write request && is_open before then write_line role place caller request (codes "crash") else []

-- by its caller's state before the event, and by the reply that it gives
abbrev pub event_line : (role : ℕ → List ℕ) → LastAsked → (place : ℕ) → Event → (before : CallerPhase) → (delivered : Option Reply) → List ℕ
event_line role asked place (event.Call c r) before delivered = []
event_line role asked place (event.Check c) before delivered = []
event_line role asked place (event.Reserve c) before delivered = []
event_line role asked place (event.Publish c) before delivered = []
event_line role asked place event.Raise before delivered = []
event_line role asked place (event.Read c) before delivered = []
event_line role asked place (event.ReadAt c) before delivered = []
event_line role asked place (event.Compact c) before delivered = []
event_line role asked place (event.Part c) before delivered = []
event_line role asked place (event.Reply c) before delivered = reply_line role place c (asked c) delivered
event_line role asked place (event.Crash c) before delivered = crash_line role place c (asked c) before

abbrev pub line_between : (role : ℕ → List ℕ) → LastAsked → Size → (place : ℕ) → Event → (before after : World) → List ℕ
line_between role asked z place e before after =
    event_line role asked place e (caller_phase_by z before (named_by e)) (delivered before after)

-- ---- the lines of a run, after these requests. The first event has this index
abbrev pub lines_of : (role : ℕ → List ℕ) → LastAsked → Size → (place : ℕ) → World → List Event → List ℕ
lines_of role asked z place w [] = []
lines_of role asked z place w (e ∷ es) =
    line_between role asked z place e w (step z w e)
    ++ lines_of role (asked_after asked e (caller_phase_by z w (named_by e))) z (suc place) (step z w e) es

abbrev pub story_text : (role : ℕ → List ℕ) → Size → List Event → List ℕ
story_text role z events = lines_of role none_asked z 0 opening events
