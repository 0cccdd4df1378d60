use Rattle.std.proofs.Common.{◌≡◌, length}
use Rattle.cluster_runs.specs.Shown.{Follows}
use Rattle.cluster_runs.proofs.Going.{Gone}
use Rattle.cluster_runs.proofs.cluster.Cluster.apply_turns.Given as goal

abbrev pub invariant-loop-turn : goal.invariant-loop-turn
invariant-loop-turn g l = record {
  many : length l.controllers ≡ length l.fn.controllers;
  present : length l.controllers ≡ length l.self.callers.present.items;
  follows : Follows l.self;
  gone : Gone g.C.ControlLoop.reconciler g.C.ControlLoop.phase g.C.ControlLoop.is_waiting l.namespaces l.turns l.turn-index l.kubelet l.ends.items l.fn.self l.self l.fn.controllers l.controllers;
}
