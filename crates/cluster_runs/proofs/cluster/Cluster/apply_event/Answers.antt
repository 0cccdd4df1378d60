use Rattle.std.proofs.Common.{subst, sym}
use Rattle.cluster_runs.specs.Shown.{Applies}
use Rattle.cluster_runs.proofs.cluster.Cluster.apply_event.Goals as goal

pub returns-in-Outside : goal.returns-in-Outside
returns-in-Outside g c =
    subst (λ e. Applies g.C.ControlLoop.reconciler g.C.ControlLoop.phase g.C.ControlLoop.is_waiting e c.args.self.now c.outside.new.self c.args.controllers.now c.outside.new.controllers c.outside.result) (sym c.in-Outside.is) c.outside.ensures

pub returns-then-number-controllers-2 : goal.returns-then-number-controllers-2
returns-then-number-controllers-2 g c =
    subst (λ e. Applies g.C.ControlLoop.reconciler g.C.ControlLoop.phase g.C.ControlLoop.is_waiting e c.args.self.now c.crash.new.self c.args.controllers.now c.crash.new.controllers c.crash.result) (sym c.in-Crash.is) c.crash.ensures
