use Rattle.std.proofs.Common.{subst, sym, rules}
use Rattle.cluster_runs.specs.Leading.{Leads, GoesAlong}
use Rattle.cluster_runs.specs.Turns.{nothing, settled}
use Rattle.cluster_runs.proofs.Leading.{self_leads}
use Rattle.cluster_runs.proofs.cluster.Cluster.settle.Goals as goal

pub returns-in-Some : goal.returns-in-Some
returns-in-Some g c =
    subst (λ n. GoesAlong g.C.ControlLoop.reconciler g.C.ControlLoop.phase g.C.ControlLoop.is_waiting (settled n c.args.rounds c.args.namespaces.now) (λ done. nothing) c.args.self.now c.settle_as.new.self c.args.controllers.now c.settle_as.new.controllers c.settle_as.result) (sym c.in-Some.is) c.settle_as.ensures

pub returns-in-None : goal.returns-in-None
returns-in-None g c = record {
  consistent = search rules;
  leads = subst (λ n. Leads g.C.ControlLoop.reconciler g.C.ControlLoop.phase g.C.ControlLoop.is_waiting (settled n c.args.rounds c.args.namespaces.now) nothing c.args.self.now c.args.self.now c.args.controllers.now c.args.controllers.now) (sym c.in-None.is) (self_leads g.C.ControlLoop.reconciler g.C.ControlLoop.phase g.C.ControlLoop.is_waiting nothing c.args.self.now c.args.controllers.now);
  halts = search rules;
}
