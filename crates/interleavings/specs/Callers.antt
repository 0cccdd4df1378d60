-- The caller that an event names.
use Rattle.std.specs.Prelude.{ℕ, Option, Some, None}
use Rattle.interleavings.specs.declared.event.Event.{Event}
use Rattle.interleavings.specs.declared.event.Event.TheVariants as event

abbrev pub named_by : Event → Option ℕ
named_by (event.Call c r) = Some c
named_by (event.Check c) = Some c
named_by (event.Reserve c) = Some c
named_by (event.Publish c) = Some c
named_by event.Raise = None
named_by (event.Read c) = Some c
named_by (event.ReadAt c) = Some c
named_by (event.Compact c) = Some c
named_by (event.Part c) = Some c
named_by (event.Reply c) = Some c
named_by (event.Crash c) = Some c
