use Rattle.std.proofs.Common.{◌≡◌, ◌⊎◌, [], ℕ, length, take}
use Rattle.plain_store.specs.Reached.{IsReached}
use Rattle.rounds.specs.Reconciler.{Reconciler}
use Rattle.rounds.specs.Shown.{IsIdle, Shows}
use Rattle.rounds.specs.World.{World, run}
use Rattle.rounds.proofs.whole.run_whole.Given as goal

abbrev pub invariant-loop-event : goal.invariant-loop-event
invariant-loop-event g l = (length l.controllers ≡ length l.fn.controllers)
    × (IsIdle (g.A.Api.store l.fn.api) (g.A.Api.store l.api) [] l.taken.items ⊎ IsReached (g.A.Api.store l.fn.api))
    × ((reconcilers : ℕ → Reconciler) (w : World)
    → Shows g.C.ControlLoop.reconciler g.C.ControlLoop.phase reconcilers (g.A.Api.store l.fn.api) l.fn.controllers [] w
    → Shows g.C.ControlLoop.reconciler g.C.ControlLoop.phase reconcilers (g.A.Api.store l.api) l.controllers l.taken.items
    (run (length l.fn.controllers) reconcilers w (take l.event-index l.events)))
