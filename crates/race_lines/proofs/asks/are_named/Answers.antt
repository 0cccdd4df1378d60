use Rattle.std.proofs.Common.{◌≡◌, ℕ, List, [], ◌∷◌, ◌&&◌, map, refl, ap, ◌∙◌, rules, tests}
use Rattle.std.specs.List.{list_all}
use Rattle.std.proofs.lemmas.Iterator.{YieldsList-from_slice}
use Rattle.std.proofs.lemmas.Iterator.Search.{all_from_yields_List}
use Rattle.trees.specs.declared.tree.Tree.{Tree}
use Rattle.trees.specs.Tree.{members_of}
use Rattle.race_lines.specs.Asks.{are_named, is_among}
use Rattle.race_lines.proofs.asks.are_named.Goals as goal

by_members : (names : List (List ℕ)) (es : List (List ℕ × Tree)) → list_all (λ e. is_among names e.0) es ≡ are_named names (members_of es)
by_members names [] = refl
by_members names (e ∷ es) = ap (λ b. is_among names e.0 && b) (by_members names es)

pub returns : goal.returns
returns c =
    let names = map (λ s. s.now) c.args.names.now in
    all_from_yields_List (λ e. is_among names e.0) _ _ _ c.all.ensures.ran (YieldsList-from_slice c.entries.result.now cc) (λ x b q k. search (rules, tests))
    ∙ (by_members names c.entries.result.now ∙ ap (are_named names) c.entries.ensures.all)
