use Rattle.std.proofs.Common.{◌≡◌, ◌↔◌, drop, map}
use Rattle.order_check.proofs.same.are_objects.Given as goal

-- the objects so far are equal, so what is left decides
abbrev pub invariant-loop-i : goal.invariant-loop-i
invariant-loop-i l = (drop l.i l.recorded ≡ map (λ o. o.now) (drop l.i l.stored)) ↔ (l.recorded ≡ map (λ o. o.now) l.stored)
