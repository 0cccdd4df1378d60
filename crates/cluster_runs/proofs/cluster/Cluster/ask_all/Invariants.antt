use Rattle.std.proofs.Common.{◌≡◌, length, refl}
use Rattle.cluster_runs.specs.Shown.{Follows}
use Rattle.cluster_runs.specs.Turns.{asked_all, asked_as}
use Rattle.cluster_runs.proofs.Parts.{Walked}
use Rattle.cluster_runs.proofs.cluster.Cluster.ask_all.Given as goal

abbrev pub invariant-loop-request : goal.invariant-loop-request
invariant-loop-request g l = record {
  many : length l.controllers ≡ length l.fn.controllers;
  present : length l.controllers ≡ length l.self.callers.present.items;
  follows : Follows l.self;
  leads : Walked g.C.ControlLoop.reconciler g.C.ControlLoop.phase g.C.ControlLoop.is_waiting (λ xs. asked_all l.caller xs) (λ x. asked_as l.caller x) refl (λ x xs. refl) (asked_all l.caller l.requests) l.requests l.request-index l.fn.self l.self l.fn.controllers l.controllers;
}
