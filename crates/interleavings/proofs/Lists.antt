-- What is in a list.
use Rattle.std.proofs.Common.{◌≡◌, ℕ, zero, suc, ◌+◌, ◌<◌, ◌≤◌, ◌⊎◌, List, [], ◌∷◌, ◌++◌, Some, inl, inr, arith}
use Rattle.std.specs.List.{range_with_len, slice_get}
use Rattle.interleavings.specs.Linearization.{Has}
use Rattle.interleavings.proofs.Basics.{Compared, same, other, compare}

pub has_front : {A : Type 0} (x : A) (xs ys : List A) → Has x xs → Has x (xs ++ ys)
has_front x [] ys h = absurd h
has_front x (y ∷ xs) ys (inl e) = inl e
has_front x (y ∷ xs) ys (inr h) = inr (has_front x xs ys h)

pub has_back : {A : Type 0} (x : A) (xs ys : List A) → Has x ys → Has x (xs ++ ys)
has_back x [] ys h = h
has_back x (y ∷ xs) ys h = inr (has_back x xs ys h)

pub has_cases : {A : Type 0} (x : A) (xs ys : List A) → Has x (xs ++ ys) → Has x xs ⊎ Has x ys
has_cases x [] ys h = inr h
has_cases x (y ∷ xs) ys (inl e) = inl (inl e)
has_cases x (y ∷ xs) ys (inr h) = go (has_cases x xs ys h)
  where
    go : Has x xs ⊎ Has x ys → ((x ≡ y) ⊎ Has x xs) ⊎ Has x ys
    go (inl a) = inl (inr a)
    go (inr b) = inr b

-- with one more at the end
pub has_last : {A : Type 0} (x y : A) (xs : List A) → Has x (xs ++ y ∷ []) → Has x xs ⊎ (x ≡ y)
has_last x y xs h = go (has_cases x xs (y ∷ []) h)
  where
    go : Has x xs ⊎ ((x ≡ y) ⊎ ⊥) → Has x xs ⊎ (x ≡ y)
    go (inl m) = inl m
    go (inr (inl e)) = inr e
    go (inr (inr e)) = absurd e

pub has_at : {A : Type 0} (xs : List A) (i : ℕ) (x : A) → slice_get xs i ≡ Some x → Has x xs
has_at [] i x e = absurd cc
has_at (y ∷ ys) zero x e = inl cc
has_at (y ∷ ys) (suc i) x e = inr (has_at ys i x e)

pub has_range : (a n m : ℕ) → a ≤ m → m < a + n → Has m (range_with_len a n)
has_range a zero m low high = absurd (omega arith)
has_range a (suc n) m low high = go (compare m a) (has_range (a + 1) n m)
  where
    go : Compared m a → (a + 1 ≤ m → m < a + 1 + n → Has m (range_with_len (a + 1) n)) → (m ≡ a) ⊎ Has m (range_with_len (a + 1) n)
    go (same e b) ih = inl e
    go (other ne b) ih = inr (ih (omega arith) (omega arith))
