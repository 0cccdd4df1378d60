-- The first that passes a test, item by item.
use Rattle.std.proofs.Common.{◌≡◌, ℕ, suc, ◌+◌, ◌<◌, Bool, true, false, List, ◌∷◌, length, get_or, drop, Option, Some, refl, sym, ap, ◌∙◌, add-one, drop-cons}
use Rattle.std.specs.Prelude.{find}

pub at_drop : {A : Type 0} (xs : List A) (at : ℕ) (x : A) → at < length xs → x ≡ get_or xs at x → drop at xs ≡ x ∷ drop (at + 1) xs
at_drop xs at x inside is = rw add-one (drop-cons xs at x inside ∙ ap (λ y. y ∷ drop (suc at) xs) (sym is))

first : {A : Type 0} (p : A → Bool) (x : A) (xs : List A) → p x ≡ true → find p (x ∷ xs) ≡ Some x
first p x xs passes = rw passes refl

other : {A : Type 0} (p : A → Bool) (x : A) (xs : List A) → p x ≡ false → find p (x ∷ xs) ≡ find p xs
other p x xs fails = rw fails refl

pub find-here : {A : Type 0} (p : A → Bool) (xs : List A) (at : ℕ) (x : A) (found : Option A) → at < length xs → x ≡ get_or xs at x
    → find p (drop at xs) ≡ found → p x ≡ true → Some x ≡ found
find-here p xs at x found inside is left passes = sym (first p x (drop (at + 1) xs) passes) ∙ ap (find p) (sym (at_drop xs at x inside is)) ∙ left

pub find-later : {A : Type 0} (p : A → Bool) (xs : List A) (at : ℕ) (x : A) (found : Option A) → at < length xs → x ≡ get_or xs at x
    → find p (drop at xs) ≡ found → p x ≡ false → find p (drop (at + 1) xs) ≡ found
find-later p xs at x found inside is left fails = sym (other p x (drop (at + 1) xs) fails) ∙ ap (find p) (sym (at_drop xs at x inside is)) ∙ left
