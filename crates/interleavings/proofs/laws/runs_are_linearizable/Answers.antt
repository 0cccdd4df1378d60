use Rattle.interleavings.proofs.Runs.{runs_are_linearizable}
use Rattle.interleavings.proofs.laws.runs_are_linearizable.Goals as goal

pub returns : goal.returns
returns c = runs_are_linearizable
