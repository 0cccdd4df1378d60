use Rattle.std.proofs.Common.{◌≡◌, length}
use Rattle.cluster_runs.specs.Shown.{Follows}
use Rattle.cluster_runs.specs.Turns.{carried, carried_in, most_steps}
use Rattle.cluster_runs.proofs.Leading.{GoneFar}
use Rattle.cluster_runs.proofs.cluster.Cluster.carry.Given as goal

abbrev pub invariant-loop : goal.invariant-loop
invariant-loop g l = record {
  many : length l.controllers ≡ length l.initial.controllers;
  present : length l.controllers ≡ length l.self.callers.present.items;
  follows : Follows l.self;
  leads : GoneFar g.C.ControlLoop.reconciler g.C.ControlLoop.phase g.C.ControlLoop.is_waiting (carried l.caller) (λ steps. carried_in steps l.caller) most_steps l.counter l.initial.self l.self l.initial.controllers l.controllers;
}
