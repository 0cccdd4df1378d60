use Rattle.std.proofs.Common.{◌≡◌, ℕ, length, take}
use Rattle.rounds.specs.Reconciler.{Reconciler}
use Rattle.rounds.specs.World.{AreMadeOf}
use Rattle.cluster_runs.specs.Cluster.{run, start}
use Rattle.cluster_runs.specs.Shown.{Follows, Shows}
use Rattle.cluster_runs.proofs.run.run_cluster.Given as goal

abbrev pub invariant-loop-event : goal.invariant-loop-event
invariant-loop-event g l = (length l.controllers ≡ length l.fn.controllers) × (length l.controllers ≡ length l.cluster.callers.present.items) × Follows l.cluster
    × ((reconcilers : ℕ → Reconciler) → AreMadeOf g.C.ControlLoop.reconciler l.fn.controllers reconcilers
    → Shows g.C.ControlLoop.reconciler g.C.ControlLoop.phase g.C.ControlLoop.is_waiting (record { capacity = l.capacity; shards = l.shards }) reconcilers
    (run (record { capacity = l.capacity; shards = l.shards }) (length l.fn.controllers) reconcilers (start (length l.fn.controllers)) (take l.event-index l.events)) l.cluster l.controllers)
