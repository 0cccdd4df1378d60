use Rattle.std.proofs.Common.{◌≡◌, ◌++◌, map}
use Rattle.std.specs.FinMap as finite
use Rattle.versions.proofs.gathered.Gathered.into_objects.Given as goal

-- what is returned, and what is left, are all objects
abbrev pub invariant-loop-object : goal.invariant-loop-object
invariant-loop-object l = l.found.items ++ map (λ p. p.1) l.object-iterator ≡ finite.values l.fn.self
