use Rattle.std.proofs.Common.{◌≡◌, ◌++◌, drop, map}
use Rattle.std.specs.Prelude.{option_map}
use Rattle.objects.specs.Tree.{items_of}
use Rattle.scripts.specs.Sets.{set_parts, sets_of}
use Rattle.scripts.proofs.set.sets_of.Given as goal

abbrev pub invariant-loop-item : goal.invariant-loop-item
invariant-loop-item l = sets_of (items_of l.items) ≡ option_map (λ more. map set_parts l.sets.items ++ more) (sets_of (items_of (drop l.item-index l.items)))
