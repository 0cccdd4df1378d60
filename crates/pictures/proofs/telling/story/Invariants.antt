use Rattle.std.proofs.Common.{◌≡◌, ◌++◌, drop, take, string_bytes}
use Rattle.history.specs.After.{IsAfter}
use Rattle.interleavings.specs.Trace.{after}
use Rattle.interleavings.specs.World.{Size, opening}
use Rattle.pictures.specs.Asked.{asked_in}
use Rattle.pictures.specs.Story.{lines_of, story_text}
use Rattle.pictures.proofs.telling.story.Given as goal

-- what was appended, and the lines of the events that are left, are all of the text
abbrev pub invariant-loop-event : goal.invariant-loop-event
invariant-loop-event g l =
    let z : Size = record { capacity = l.capacity; shards = l.shards } in
    let role = g.R.Roles.role l.roles in
    record {
      reached : IsAfter z (take l.event-index l.events) l.replay;
      told :
          string_bytes l.text ++ lines_of role (asked_in l.asked) z l.event-index (after z opening (take l.event-index l.events)) (drop l.event-index l.events)
          ≡ story_text role z l.events;
    }
