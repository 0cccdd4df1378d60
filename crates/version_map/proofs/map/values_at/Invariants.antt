use Rattle.std.proofs.Common.{◌≡◌, map}
use Rattle.version_map.specs.Consistent.{values_in}
use Rattle.version_map.proofs.map.values_at.Given as goal

-- what the slots so far say is found
abbrev pub invariant-loop-slot : goal.invariant-loop-slot
invariant-loop-slot g l = map (λ v. v.now) l.found.items ≡ values_in l.number l.chains l.yielded
