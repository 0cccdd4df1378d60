use Rattle.std.proofs.Common.{◌≡◌, length}
use Rattle.race_scripts.specs.Gone.{same_all}
use Rattle.race_scripts.proofs.gone.same_all.Given as goal

abbrev pub invariant-told : goal.invariant-told
invariant-told l = same_all l.left l.right ≡ same_all l.left_rest l.right_rest

abbrev pub decreases-told : goal.decreases-told
decreases-told l = length l.left_rest
