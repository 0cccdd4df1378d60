use Rattle.std.proofs.Common.{rules}
use Rattle.history.proofs.Stepping.{lt_false}
use Rattle.cluster_runs.specs.Turns.{round, round_of, nothing}
use Rattle.cluster_runs.proofs.Leading.{ends_as, goes_as}
use Rattle.cluster_runs.proofs.Parts.{is_absent, is_there}
use Rattle.cluster_runs.proofs.cluster.Cluster.round.Goals as goal

pub returns-then-number-controllers : goal.returns-then-number-controllers
returns-then-number-controllers g c =
    goes_as g.C.ControlLoop.reconciler g.C.ControlLoop.phase g.C.ControlLoop.is_waiting (round_of c.args.number) (is_there g.C.ControlLoop.reconciler g.C.ControlLoop.phase g.C.ControlLoop.is_waiting c.args.number (round c.args.number) c.args.self.now c.args.controllers.now c.if-number-controllers.true) c.make_round.ensures

pub returns : goal.returns
returns g c = record {
  consistent = search rules;
  leads = ends_as g.C.ControlLoop.reconciler g.C.ControlLoop.phase g.C.ControlLoop.is_waiting (round_of c.args.number) nothing c.args.self.now c.args.controllers.now
      (is_absent g.C.ControlLoop.reconciler g.C.ControlLoop.phase g.C.ControlLoop.is_waiting c.args.number (round c.args.number) c.args.self.now c.args.controllers.now (lt_false c.args.number _ c.if-number-controllers.false));
  halts = search rules;
}
