use Rattle.std.proofs.Common.{refl}
use Rattle.interleavings.specs.World.{changed}
use Rattle.plain_store.specs.Route.{route}
use Rattle.cluster_runs.specs.Cluster.{delivered}
use Rattle.cluster_runs.specs.Turns.{carried_in}
use Rattle.quiet_runs.proofs.examples.a_quiet_list.Goals as goal

pub returns : goal.returns
unfolding carried_in changed delivered route
returns c = record { few = λ reconcilers. refl; enough = λ reconcilers. refl }
