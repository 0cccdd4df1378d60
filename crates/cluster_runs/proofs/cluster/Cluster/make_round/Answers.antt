use Rattle.std.proofs.Common.{subst, sym}
use Rattle.cluster_runs.specs.Turns.{nothing}
use Rattle.cluster_runs.proofs.Parts.{round_is}
use Rattle.cluster_runs.specs.Leading.{GoesAlong}
use Rattle.cluster_runs.proofs.cluster.Cluster.make_round.Goals as goal

pub returns : goal.returns
returns g c =
    subst (λ a. GoesAlong g.C.ControlLoop.reconciler g.C.ControlLoop.phase g.C.ControlLoop.is_waiting a (λ done. nothing) c.args.self.now c.ask_while.new.self c.args.controllers.now c.ask_while.new.controllers c.ask_while.result) (sym (round_is c.args.number)) c.ask_while.ensures
