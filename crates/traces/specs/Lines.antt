-- The line of an event: its index, who, what, that it was not enabled or that its caller gets nothing but a reply, if so,
-- and the state of its caller after it.
use Rattle.std.specs.Prelude.{ℕ, Bool, true, false, List, [], ◌++◌, Option, Some, None, codes, decimal}
use Rattle.requests.specs.declared.reply.Reply.{Reply}
use Rattle.interleavings.specs.declared.event.Event.{Event}
use Rattle.interleavings.specs.declared.event.Event.TheVariants as event
use Rattle.interleavings.specs.Callers.{named_by}
use Rattle.history.specs.declared.caller_phase.CallerPhase.{CallerPhase}
use Rattle.history.specs.declared.caller_phase.CallerPhase.TheVariants.{Waiting}
use Rattle.pictures.specs.Labels.{reply_words, request_words}
use Rattle.traces.specs.Enabled.{is_enabled}
use Rattle.traces.specs.Places.{place_words}
use Rattle.traces.specs.declared.run_state.RunState.{RunState}

-- `7: web, controller 0, caller 2: `, with `role` for the words before a caller's number. A Raise names no caller
abbrev pub caller_words : (role : ℕ → List ℕ) → (caller : Option ℕ) → List ℕ
caller_words role None = []
caller_words role (Some c) = role c ++ (codes "caller " ++ (decimal c ++ codes ": "))

abbrev pub head : (role : ℕ → List ℕ) → (place : ℕ) → (caller : Option ℕ) → List ℕ
head role place caller = decimal place ++ (codes ": " ++ caller_words role caller)

-- `reply Created, version 2`; if a Reply gives none, `reply`
abbrev pub given_words : (delivered : Option Reply) → List ℕ
given_words None = codes "reply"
given_words (Some reply) = codes "reply " ++ reply_words reply

-- what the event is: for a Call its request, for any other its name in scripts
abbrev pub event_words : Event → (delivered : Option Reply) → List ℕ
event_words (event.Call c r) delivered = request_words r
event_words (event.Check c) delivered = codes "check"
event_words (event.Reserve c) delivered = codes "reserve"
event_words (event.Publish c) delivered = codes "publish"
event_words event.Raise delivered = codes "raise"
event_words (event.Read c) delivered = codes "read"
event_words (event.ReadAt c) delivered = codes "readat"
event_words (event.Compact c) delivered = codes "compact"
event_words (event.Part c) delivered = codes "part"
event_words (event.Reply c) delivered = given_words delivered
event_words (event.Crash c) delivered = codes "crash"

-- A step after which its caller waits for its reply: a write that is not accepted is refused or changes nothing, there is
-- no number for one that is, or a list at a version is denied.
abbrev pub denied_words : Event → List ℕ
denied_words (event.Call c r) = []
denied_words (event.Check c) = codes "not accepted, "
denied_words (event.Reserve c) = codes "no number is left, "
denied_words (event.Publish c) = []
denied_words event.Raise = []
denied_words (event.Read c) = []
denied_words (event.ReadAt c) = codes "denied, "
denied_words (event.Compact c) = []
denied_words (event.Part c) = []
denied_words (event.Reply c) = []
denied_words (event.Crash c) = []

abbrev pub outcome_words : Event → (after : CallerPhase) → List ℕ
outcome_words e (Waiting saw) = denied_words e
outcome_words e _ = []

abbrev pub verdict_words : Event → (enabled : Bool) → (after : CallerPhase) → List ℕ
verdict_words e true after = codes ": " ++ outcome_words e after
verdict_words e false after = codes ": not enabled: "

-- by the run_state before the event and the one after it, and by the reply that its caller gets
abbrev pub event_line : (role : ℕ → List ℕ) → (place : ℕ) → Event → (before after : RunState) → (delivered : Option Reply) → List ℕ
event_line role place e before after delivered =
    head role place (named_by e) ++ (event_words e delivered ++ (verdict_words e (is_enabled e before) after.standing ++ (place_words (named_by e) (is_enabled e before) after ++ codes "\n")))
