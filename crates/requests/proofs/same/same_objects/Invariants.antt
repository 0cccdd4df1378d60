use Rattle.std.proofs.Common.{◌≡◌, drop}
use Rattle.requests.specs.Same.{same_objects}
use Rattle.requests.proofs.same.same_objects.Given as goal

-- the objects so far are the same, so what is left decides
abbrev pub invariant-loop-i : goal.invariant-loop-i
invariant-loop-i l = same_objects (drop l.i l.left) (drop l.i l.right) ≡ same_objects l.left l.right
