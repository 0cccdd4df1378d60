-- The picture of a run: a Mermaid `sequenceDiagram` of its events.
use Rattle.std.specs.Prelude.{ℕ, suc, cond, List, [], ◌∷◌, ◌++◌, drop, length, Option, Some, None}
use Rattle.requests.specs.declared.reply.Reply.{Reply}
use Rattle.interleavings.specs.declared.event.Event.{Event}
use Rattle.interleavings.specs.declared.event.Event.TheVariants as event
use Rattle.interleavings.specs.Step.{step}
use Rattle.interleavings.specs.Trace.{reply_in}
use Rattle.interleavings.specs.World.{Size, World, opening}
use Rattle.history.specs.Named.{with_named}
use Rattle.history.specs.NextStep.{can_rise}
use Rattle.interleavings.specs.Callers.{named_by}
use Rattle.history.specs.CallerPhase.{caller_phase_of}
use Rattle.history.specs.declared.caller_phase.CallerPhase.{CallerPhase}
use Rattle.history.specs.declared.caller_phase.CallerPhase.TheVariants as standing
use Rattle.pictures.specs.Heading.{heading}
use Rattle.pictures.specs.Lines.{call_line, check_line, compact_line, crash_line, part_line, publish_lines, raise_line, read_at_line, read_line, reply_line, reserve_line}
use Rattle.pictures.specs.Shown.{participant, shows}
use Rattle.pictures.specs.declared.snapshot.Snapshot.{Snapshot}
use Rattle.pictures.specs.declared.shown.Shown.{Shown}

-- ---- what lines show of the world before an event, and after it
abbrev pub caller_phase_by : Size → World → Option ℕ → CallerPhase
caller_phase_by z w None = standing.Idle
caller_phase_by z w (Some c) = caller_phase_of z.shards (w.phase c)

-- the state of the event's caller, the frontier, and whether the next number is filled
abbrev pub snapshot_of : Size → World → Option ℕ → Snapshot
snapshot_of z w caller = record { standing = caller_phase_by z w caller; can_rise = can_rise w; frontier = w.frontier }

-- the reply that an event gives, if any: what it adds to the trace
abbrev pub delivered : (before after : World) → Option Reply
delivered before after = reply_in (drop (length before.trace) after.trace)

-- ---- the lines of one event
abbrev pub event_lines : (shards place : ℕ) → Event → (before after : Snapshot) → (delivered : Option Reply) → List ℕ
event_lines shards place (event.Call c r) before after delivered = call_line place c r before.standing
event_lines shards place (event.Check c) before after delivered = check_line place c before.standing after.standing
event_lines shards place (event.Reserve c) before after delivered = reserve_line place c before.standing after.standing
event_lines shards place (event.Publish c) before after delivered = publish_lines place c before.standing after.can_rise after.frontier
event_lines shards place event.Raise before after delivered = raise_line place before.can_rise after.frontier
event_lines shards place (event.Read c) before after delivered = read_line place c before.standing after.standing
event_lines shards place (event.ReadAt c) before after delivered = read_at_line place c before.standing after.standing
event_lines shards place (event.Compact c) before after delivered = compact_line place c before.standing
event_lines shards place (event.Part c) before after delivered = part_line shards place c before.standing
event_lines shards place (event.Reply c) before after delivered = reply_line place c delivered
event_lines shards place (event.Crash c) before after delivered = crash_line place c before.standing

-- those of the picture: none of an event that is not shown
abbrev pub shown_lines : Shown → (shards place : ℕ) → Event → (before after : Snapshot) → (delivered : Option Reply) → List ℕ
shown_lines shown shards place e before after delivered =
    cond (shows shown e before.standing delivered) (event_lines shards place e before after delivered) []

abbrev pub lines_between : Shown → Size → (place : ℕ) → Event → (before after : World) → List ℕ
lines_between shown z place e before after =
    shown_lines shown z.shards place e (snapshot_of z before (named_by e)) (snapshot_of z after (named_by e)) (delivered before after)

-- ---- the lines of a run
-- the first event has this index
abbrev pub lines_of : Shown → Size → (place : ℕ) → World → List Event → List ℕ
lines_of shown z place w [] = []
lines_of shown z place w (e ∷ es) = lines_between shown z place e w (step z w e) ++ lines_of shown z (suc place) (step z w e) es

-- ---- the callers that take part: these, and those of the events
abbrev pub participants : Shown → Size → (names : List ℕ) → World → List Event → List ℕ
participants shown z names w [] = names
participants shown z names w (e ∷ es) =
    participants shown z (with_named names (participant shown e (caller_phase_by z w (named_by e)))) (step z w e) es

abbrev pub picture_text : Shown → Size → (role : ℕ → List ℕ) → List Event → List ℕ
picture_text shown z role events = heading z.shards role (participants shown z [] opening events) ++ lines_of shown z 0 opening events
