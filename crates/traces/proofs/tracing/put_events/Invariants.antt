use Rattle.std.proofs.Common.{◌≡◌, ◌+◌, ◌++◌, List, length, string_bytes, take}
use Rattle.std.specs.List.{concat}
use Rattle.history.specs.After.{IsAfter, taken}
use Rattle.interleavings.specs.declared.event.Event.{Event}
use Rattle.interleavings.specs.Trace.{after}
use Rattle.interleavings.specs.World.{Size, opening}
use Rattle.traces.specs.Traced.{texts_of}
use Rattle.traces.proofs.tracing.put_events.Given as goal

abbrev pub invariant-loop-event : goal.invariant-loop-event
invariant-loop-event g l =
    record {
      count : taken l.replay ≡ taken l.fn.replay + l.event-index;
      done : (size : Size) (before : List Event) → IsAfter size before l.fn.replay → IsAfter size (before ++ take l.event-index l.events) l.replay;
      put : (size : Size) (before : List Event) → IsAfter size before l.fn.replay
          → string_bytes l.out ≡ string_bytes l.fn.out
          ++ concat (texts_of (g.R.Roles.role l.roles) (g.N.Notes.note l.notes) size (length before) (after size opening before) (take l.event-index l.events));
    }
