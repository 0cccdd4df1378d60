use Rattle.std.proofs.Common.{◌≡◌, ◌++◌, map, drop}
use Rattle.first_rounds.proofs.listing.copies.Given as goal

-- what was copied and what is left to copy make the whole
abbrev pub invariant-loop-object : goal.invariant-loop-object
invariant-loop-object l = l.copies.items ++ map (λ o. o.now) (drop l.object-index l.objects) ≡ map (λ o. o.now) l.objects
