use Rattle.std.proofs.Common.{◌≡◌, ◌++◌, drop}
use Rattle.std.specs.Prelude.{option_map}
use Rattle.objects.specs.Tree.{items_of}
use Rattle.set_views.specs.Claims.{claims_of}
use Rattle.set_views.proofs.claims.claims_of.Given as goal

abbrev pub invariant-loop-item : goal.invariant-loop-item
invariant-loop-item l = claims_of (items_of l.items) ≡ option_map (λ rest. l.claims.items ++ rest) (claims_of (items_of (drop l.item-index l.items)))
