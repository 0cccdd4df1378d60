use Rattle.std.proofs.Common.{length}
use Rattle.compact.proofs.Search.{Searches}
use Rattle.compact.proofs.place.slot_of.Given as goal

abbrev pub invariant-slots : goal.invariant-slots
invariant-slots l = record { searches : Searches l.fn.text l.fn.entries l.fn.at l.fn.key l.index l.start l.left }

abbrev pub decreases-slots : goal.decreases-slots
decreases-slots l = length l.left
