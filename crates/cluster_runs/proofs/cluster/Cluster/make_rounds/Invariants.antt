use Rattle.std.proofs.Common.{◌≡◌, length}
use Rattle.std.specs.List.{range_with_len}
use Rattle.cluster_runs.specs.Shown.{Follows}
use Rattle.cluster_runs.specs.Turns.{rounds_of}
use Rattle.cluster_runs.proofs.Parts.{Rounded}
use Rattle.cluster_runs.proofs.cluster.Cluster.make_rounds.Given as goal

abbrev pub invariant-loop-number : goal.invariant-loop-number
invariant-loop-number g l = record {
  many : length l.controllers ≡ length l.fn.controllers;
  present : length l.controllers ≡ length l.self.callers.present.items;
  follows : Follows l.self;
  leads : Rounded g.C.ControlLoop.reconciler g.C.ControlLoop.phase g.C.ControlLoop.is_waiting (rounds_of (range_with_len 0 (length l.fn.controllers))) (length l.fn.controllers) l.number l.fn.self l.self l.fn.controllers l.controllers;
}
