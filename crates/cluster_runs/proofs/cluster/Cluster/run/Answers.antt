use Rattle.std.proofs.Common.{length, ap, cond, [], None, rules}
use Rattle.history.proofs.Stepping.{lt_false}
use Rattle.cluster_runs.specs.Turns.{carried, nothing, run_of}
use Rattle.cluster_runs.proofs.Leading.{ends_as, runs_carried, goes_as}
use Rattle.cluster_runs.proofs.cluster.Cluster.run.Goals as goal

pub returns-then-number-controllers : goal.returns-then-number-controllers
returns-then-number-controllers g c =
    goes_as g.C.ControlLoop.reconciler g.C.ControlLoop.phase g.C.ControlLoop.is_waiting (run_of c.args.number) (runs_carried g.C.ControlLoop.reconciler g.C.ControlLoop.phase g.C.ControlLoop.is_waiting c.args.number c.index-caller.result.now c.args.self.now c.args.controllers.now c.if-number-controllers.true c.index-caller.ensures) c.carry.ensures

pub returns : goal.returns
returns g c = record {
  consistent = search rules;
  leads = ends_as g.C.ControlLoop.reconciler g.C.ControlLoop.phase g.C.ControlLoop.is_waiting (run_of c.args.number) nothing c.args.self.now c.args.controllers.now
      (λ z reconcilers k shows. ap (λ b. cond b (carried (k.callers c.args.number) z (length c.args.controllers.now) reconcilers k) ([], None)) (lt_false c.args.number (length c.args.controllers.now) c.if-number-controllers.false));
  halts = search rules;
}
