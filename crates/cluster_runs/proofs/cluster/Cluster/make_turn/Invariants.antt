use Rattle.std.proofs.Common.{◌≡◌, length, refl}
use Rattle.cluster_runs.specs.Shown.{Follows}
use Rattle.cluster_runs.specs.Turns.{kubelet_turn, tended, tended_all}
use Rattle.cluster_runs.proofs.Parts.{Walked}
use Rattle.cluster_runs.proofs.cluster.Cluster.make_turn.Given as goal

abbrev pub invariant-loop-namespace : goal.invariant-loop-namespace
invariant-loop-namespace g l = record {
  many : length l.controllers ≡ length l.fn.controllers;
  present : length l.controllers ≡ length l.self.callers.present.items;
  follows : Follows l.self;
  leads : Walked g.C.ControlLoop.reconciler g.C.ControlLoop.phase g.C.ControlLoop.is_waiting (λ xs. tended_all l.caller xs) (λ x. tended l.caller x) refl (λ x xs. refl) (kubelet_turn l.caller l.namespaces) l.namespaces l.namespace-index l.fn.self l.self l.fn.controllers l.controllers;
}
