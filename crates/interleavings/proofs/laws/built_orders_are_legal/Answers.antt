use Rattle.interleavings.proofs.Runs.{orders_are_legal}
use Rattle.interleavings.proofs.laws.built_orders_are_legal.Goals as goal

pub returns : goal.returns
returns c = orders_are_legal
