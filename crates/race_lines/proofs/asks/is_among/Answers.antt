use Rattle.std.proofs.Common.{◌≡◌, Bor, ℕ, List, [], ◌∷◌, ◌||◌, bytes_eq, map, refl, ap, ◌∙◌, rules, tests}
use Rattle.std.specs.List.{list_any}
use Rattle.std.proofs.lemmas.Iterator.{YieldsList-from_slice}
use Rattle.std.proofs.lemmas.Iterator.Search.{any_from_yields_List}
use Rattle.race_lines.proofs.asks.is_among.Goals as goal

by_texts : (name : List ℕ) (names : List (Bor (List ℕ))) → list_any (λ s. bytes_eq name s.now) names ≡ list_any (bytes_eq name) (map (λ s. s.now) names)
by_texts name [] = refl
by_texts name (n ∷ names) = ap (λ b. bytes_eq name n.now || b) (by_texts name names)

pub returns : goal.returns
returns c =
    any_from_yields_List (λ s. bytes_eq c.args.name.now s.now) _ _ _ c.any.ensures.ran (YieldsList-from_slice c.args.names.now cc) (λ x b q k. search (rules, tests))
    ∙ by_texts c.args.name.now c.args.names.now
