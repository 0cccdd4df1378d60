use Rattle.std.proofs.Common.{◌≡◌, length}
use Rattle.cluster_runs.specs.Leading.{is_meant}
use Rattle.cluster_runs.specs.Shown.{Follows}
use Rattle.cluster_runs.specs.Turns.{asked_while, most_requests}
use Rattle.cluster_runs.proofs.Leading.{GoneFar}
use Rattle.cluster_runs.proofs.cluster.Cluster.ask_while.Given as goal

abbrev pub invariant-loop : goal.invariant-loop
invariant-loop g l = record {
  many : length l.controllers ≡ length l.fn.controllers;
  present : length l.controllers ≡ length l.self.callers.present.items;
  follows : Follows l.self;
  leads : GoneFar g.C.ControlLoop.reconciler g.C.ControlLoop.phase g.C.ControlLoop.is_waiting (asked_while (is_meant l.meant) most_requests l.number) (λ requests. asked_while (is_meant l.meant) requests l.number) most_requests l.counter l.fn.self l.self l.fn.controllers l.controllers;
}
