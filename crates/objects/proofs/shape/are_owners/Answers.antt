use Rattle.std.proofs.Common.{◌≡◌, List, [], ◌∷◌, ◌&&◌, refl, ap, ◌∙◌, rules, tests}
use Rattle.std.specs.List.{list_all}
use Rattle.std.proofs.lemmas.Iterator.{YieldsList-from_slice}
use Rattle.std.proofs.lemmas.Iterator.Search.{all_from_yields_List}
use Rattle.trees.specs.declared.tree.Tree.{Tree}
use Rattle.trees.specs.Tree.{data_of, items_of}
use Rattle.objects.specs.MetadataShape.{is_owner, are_owners}
use Rattle.objects.proofs.shape.are_owners.Goals as goal

owners_of : (ts : List Tree) → list_all (λ t. is_owner (data_of t)) ts ≡ are_owners (items_of ts)
owners_of [] = refl
owners_of (t ∷ ts) = ap (λ b. is_owner (data_of t) && b) (owners_of ts)

pub returns : goal.returns
returns c = all_from_yields_List (λ t. is_owner (data_of t)) _ _ _ c.all.ensures.ran (YieldsList-from_slice c.args.items.now cc) (λ x b q k. search (rules, tests)) ∙ owners_of c.args.items.now
