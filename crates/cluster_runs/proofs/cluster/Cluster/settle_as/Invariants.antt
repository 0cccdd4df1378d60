use Rattle.std.proofs.Common.{◌≡◌, length}
use Rattle.cluster_runs.specs.Shown.{Follows}
use Rattle.cluster_runs.specs.Turns.{settled_as}
use Rattle.cluster_runs.proofs.Leading.{GoneFar}
use Rattle.cluster_runs.proofs.cluster.Cluster.settle_as.Given as goal

abbrev pub invariant-loop : goal.invariant-loop
invariant-loop g l = record {
  many : length l.controllers ≡ length l.fn.controllers;
  present : length l.controllers ≡ length l.self.callers.present.items;
  follows : Follows l.self;
  leads : GoneFar g.C.ControlLoop.reconciler g.C.ControlLoop.phase g.C.ControlLoop.is_waiting (settled_as l.rounds l.kubelet l.namespaces) (λ rounds. settled_as rounds l.kubelet l.namespaces) l.rounds l.counter l.fn.self l.self l.fn.controllers l.controllers;
}
