use Rattle.std.proofs.Common.{◌≡◌, ℕ, List, ◌++◌}
use Rattle.std.specs.Iterator.Adapters.{rev_source}
use Rattle.std.specs.Slice.Iter.{iter_rest}
use Rattle.objects.specs.declared.object.Object.{Object}
use Rattle.set_views.specs.Set.{set_parts}
use Rattle.claims.specs.Listed.{found_in, listed_claim}
use Rattle.claims.proofs.listed.by_name.Given as goal

abbrev pub invariant-loop-object : goal.invariant-loop-object
invariant-loop-object l = (done : List Object) × (iter_rest (rev_source l.object-iterator) ++ done ≡ l.objects) × ((name : List ℕ) → found_in l.claims name ≡ listed_claim (set_parts l.set) done name)
