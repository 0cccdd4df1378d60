-- What is in a list.
use Rattle.std.proofs.Common.{◌≡◌, ◌⊎◌, ◌<◌, inl, inr, ℕ, zero, suc, Bool, true, false, List, [], ◌∷◌, ◌++◌, length, refl, sym, ap, subst, ◌∙◌, arith}
use Rattle.std.specs.Prelude.{◌||◌, ◌==◌, drop, slice_index_or}
use Rattle.std.proofs.lemmas.Bool.Decides.{nat_tests}
use Rattle.std.specs.List.{Contains, list_any}
use Rattle.std.proofs.lemmas.List.Elements.{Contains-append_left, Contains-append_right, Contains-push}
use Rattle.objects.specs.declared.object.Object.{Object}
use Rattle.requests.specs.Lists.{Has}
use Rattle.collector.specs.Collectable.{is_listed}

or_true : (b : Bool) → (b || true) ≡ true
or_true true = refl
or_true false = refl

module _ {X : Type 0} where
  pub among_left : (x : X) (xs ys : List X) → Has x xs → Has x (xs ++ ys)
  among_left x [] ys at = absurd at
  among_left x (z ∷ xs) ys (inl is) = inl is
  among_left x (z ∷ xs) ys (inr at) = inr (among_left x xs ys at)

  pub among_right : (x : X) (xs ys : List X) → Has x ys → Has x (xs ++ ys)
  among_right x [] ys at = at
  among_right x (z ∷ xs) ys at = inr (among_right x xs ys at)

  pub among_either : (x : X) (xs ys : List X) → Has x (xs ++ ys) → Has x xs ⊎ Has x ys
  among_either x [] ys at = inr at
  among_either x (z ∷ xs) ys (inl is) = inl (inl is)
  among_either x (z ∷ xs) ys (inr at) = elim (among_either x xs ys at) [ inl a ↦ inl (inr a) | inr b ↦ inr b ]

  among_at : (xs : List X) (x d : X) (k : ℕ) → k < length xs → slice_index_or xs k d ≡ x → Has x xs
  among_at [] x d k low is = absurd (omega (arith, low))
  among_at (y ∷ ys) x d zero low is = inl (sym is)
  among_at (y ∷ ys) x d (suc k) low is = inr (among_at ys x d k (omega (arith, low)) is)

  pub among_contained : (xs : List X) (x : X) → Contains xs x → Has x xs
  among_contained xs x at = among_at xs x x at.0 at.1 at.2

  pub contains_among : (x : X) (xs : List X) → Has x xs → Contains xs x
  contains_among x [] at = absurd at
  contains_among x (y ∷ ys) (inl is) = subst (Contains (y ∷ ys)) (sym is) (Contains-append_left (y ∷ []) ys y (Contains-push [] y))
  contains_among x (y ∷ ys) (inr at) = Contains-append_right (y ∷ []) ys x (contains_among x ys at)

  any_among : (test : X → Bool) (x : X) (xs : List X) → Has x xs → test x ≡ true → list_any test xs ≡ true
  any_among test x [] at holds = absurd at
  any_among test x (y ∷ ys) (inl is) holds = ap (λ b. b || list_any test ys) (ap test (sym is) ∙ holds)
  any_among test x (y ∷ ys) (inr at) holds = ap (λ b. test y || b) (any_among test x ys at holds) ∙ or_true (test y)

  first_or : X → List X → X
  first_or x [] = x
  first_or x (y ∷ ys) = y

  pub same_first : (x y : X) (xs ys : List X) → x ∷ xs ≡ y ∷ ys → x ≡ y
  unfolding first_or
  same_first x y xs ys is = ap (first_or x) is

  pub same_rest : (x y : X) (xs ys : List X) → x ∷ xs ≡ y ∷ ys → xs ≡ ys
  same_rest x y xs ys is = ap (drop 1) is

-- an object of one of the lists has its UID listed
pub listed_among : (lists : List (List Object)) (objects : List Object) (o : Object) (n : ℕ) → Has objects lists → Has o objects → o.meta.uid ≡ n → is_listed lists n ≡ true
listed_among lists objects o n in' at is =
    any_among (λ (os : List Object). list_any (λ (x : Object). x.meta.uid == n) os) objects lists in'
    (any_among (λ (x : Object). x.meta.uid == n) o objects at (grind (arith, nat_tests, is)))
