-- The headline: whatever callers do, and however their steps are mixed, one plain store explains the replies that they
-- get.
use Rattle.std.specs.Prelude.{ℕ, List}
use Rattle.interleavings.specs.declared.event.Event.{Event}
use Rattle.interleavings.specs.World.{Size}
use Rattle.interleavings.specs.Trace.{trace}
use Rattle.interleavings.specs.Linearization.{IsHistory, IsLegal}

-- the trace of the events is a history, and has a legal order
pub record IsLinearizable (z : Size) (events : List Event) : Type 0 where
  pub history : IsHistory (trace z events)
  pub order : List ℕ
  pub legal : IsLegal z.capacity (trace z events) order
