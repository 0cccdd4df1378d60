use Rattle.std.proofs.Common.{◌-◌, length}
use Rattle.packed.specs.Written.{IsWrittenTo}
use Rattle.packed.proofs.difference.write_stretches.Given as goal

abbrev pub invariant-stretches : goal.invariant-stretches
invariant-stretches l = IsWrittenTo l.base l.text l.out.items l.place

abbrev pub decreases-stretches : goal.decreases-stretches
decreases-stretches l = length l.text - l.place.text
