-- Lists that are held from the last to the first.
use Rattle.std.proofs.Common.{◌≡◌, List, [], ◌∷◌, ◌++◌, reverse, ap, ◌∙◌, Option, Some, None}
use Rattle.std.specs.Prelude.{option_to_list}
use Rattle.std.proofs.lemmas.List.{append-nil, reverse-append}

pub popped_some : {X : Type 0} (xs ys : List X) (x : X) (o : Option X) → xs ≡ ys ++ option_to_list o → o ≡ Some x → reverse xs ≡ x ∷ reverse ys
popped_some xs ys x o is some = ap reverse (is ∙ ap (λ p. ys ++ option_to_list p) some) ∙ reverse-append ys (x ∷ [])

pub popped_none : {X : Type 0} (xs ys : List X) (o : Option X) → xs ≡ ys ++ option_to_list o → o ≡ None → ys ≡ [] → reverse xs ≡ []
popped_none xs ys o is none empty = ap reverse (is ∙ ap (λ p. ys ++ option_to_list p) none ∙ append-nil ys ∙ empty)
