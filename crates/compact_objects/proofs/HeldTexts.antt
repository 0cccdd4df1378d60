-- A member that the store sets, as it is written.
use Rattle.std.proofs.Common.{◌≡◌, ℕ, List, [], ◌∷◌, ◌++◌, ap, ◌∙◌, append_assoc, append-nil}
use Rattle.json.specs.Token.{Token, key, string as string_token}
use Rattle.json.specs.Print.{print, print_from, quoted}

joined : (k v : List ℕ) → (quoted k ++ 58 ∷ []) ++ (v ++ []) ≡ quoted k ++ 58 ∷ v
joined k v = append_assoc (quoted k) (58 ∷ []) (v ++ []) ∙ ap (λ t. quoted k ++ 58 ∷ t) (append-nil v)

printed : (k s : List ℕ) → print (key k ∷ string_token s ∷ []) ≡ quoted k ++ 58 ∷ quoted s
unfolding print_from
printed k s = joined k (quoted s)

-- as a writer writes it
pub text_written : (k s old begun before new : List ℕ) (none keyed ts : List Token) → begun ≡ old ++ 44 ∷ [] → before ≡ begun → none ≡ [] → keyed ≡ none ++ key k ∷ [] → ts ≡ keyed ++ string_token s ∷ [] → new ≡ before ++ print ts
    → new ≡ old ++ 44 ∷ (quoted k ++ 58 ∷ quoted s)
text_written k s old begun before new none keyed ts a b c d e f =
    f ∙ ap (λ t. t ++ print ts) (b ∙ a) ∙ append_assoc old (44 ∷ []) (print ts)
    ∙ ap (λ t. old ++ 44 ∷ print t) (e ∙ ap (λ t. t ++ string_token s ∷ []) (d ∙ ap (λ t. t ++ key k ∷ []) c))
    ∙ ap (λ t. old ++ 44 ∷ t) (printed k s)
