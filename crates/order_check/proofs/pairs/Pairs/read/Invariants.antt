use Rattle.std.proofs.Common.{take}
use Rattle.order_check.specs.Pairing.{seen}
use Rattle.order_check.proofs.Paired.{IsPaired}
use Rattle.order_check.proofs.pairs.Pairs.read.Given as goal

abbrev pub invariant-loop-index : goal.invariant-loop-index
invariant-loop-index l = IsPaired l.items (take l.index l.items) (seen l.self)
