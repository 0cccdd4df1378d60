-- The first of a range that passes a test is the least, and from the back the greatest.
use Rattle.std.proofs.Common.{◌≡◌, ℕ, zero, suc, ◌+◌, ◌≤◌, ◌<◌, Bool, true, false, cond, [], ◌∷◌, Some, None, find, reverse, arith, refl, sym, ap, ◌∙◌, ◌⊎◌, inl, inr}
use Rattle.std.proofs.lemmas.Bool.{cases_lt}
use Rattle.std.proofs.lemmas.List.{reverse-append}
use Rattle.std.specs.List.{range_with_len}
use Rattle.pod_steps.proofs.Walks.{split_range}

pub cases_eq : (a b : ℕ) → a ≤ b → (a ≡ b) ⊎ (a < b)
cases_eq a b l = elim (cases_lt a b) [ inl h ↦ inr h | inr h ↦ inl (omega arith) ]

-- what the first is
pub found_from : (p : ℕ → Bool) (a n i : ℕ) → find p (range_with_len a n) ≡ Some i → a ≤ i
found_from p a zero i e = absurd (cc)
found_from p a (suc n) i e =
    elim (p a) as (λ b. cond b (Some a) (find p (range_with_len (a + 1) n)) ≡ Some i → a ≤ i) [
      | true ↦ λ h. let same : a ≡ i = cc in omega arith
      | false ↦ λ h. let later : a + 1 ≤ i = found_from p (a + 1) n i h in omega arith
    ] e

-- the least that passes is found
pub find_least : (p : ℕ → Bool) (a n i : ℕ) → a ≤ i → i < a + n → p i ≡ true → ((j : ℕ) → a ≤ j → j < i → p j ≡ false) → find p (range_with_len a n) ≡ Some i
find_least p a zero i from to passes below = absurd (omega arith)
find_least p a (suc n) i from to passes below =
    elim (cases_eq a i from) [
      | inl e ↦ ap (λ b. cond b (Some a) (find p (range_with_len (a + 1) n))) (ap p e ∙ passes) ∙ ap Some e
      | inr l ↦ ap (λ b. cond b (Some a) (find p (range_with_len (a + 1) n))) (below a (omega arith) l)
          ∙ find_least p (a + 1) n i (omega arith) (omega arith) passes (λ j f t. below j (omega arith) t)
    ]

-- none is found if none passes
pub find_none : (p : ℕ → Bool) (a n : ℕ) → ((j : ℕ) → a ≤ j → j < a + n → p j ≡ false) → find p (range_with_len a n) ≡ None
find_none p a zero none = refl
find_none p a (suc n) none =
    ap (λ b. cond b (Some a) (find p (range_with_len (a + 1) n))) (none a (omega arith) (omega arith))
    ∙ find_none p (a + 1) n (λ j f t. none j (omega arith) (omega arith))

pub last_range : (a n : ℕ) → reverse (range_with_len a (suc n)) ≡ (a + n) ∷ reverse (range_with_len a n)
last_range a n =
    let e : suc n ≡ n + 1 = omega arith in
    ap (λ m. reverse (range_with_len a m)) e ∙ (ap reverse (split_range a n 1) ∙ reverse-append (range_with_len a n) ((a + n) ∷ []))

-- the greatest that passes is found from the back
pub find_greatest : (p : ℕ → Bool) (a n i : ℕ) → a ≤ i → i < a + n → p i ≡ true → ((j : ℕ) → i < j → j < a + n → p j ≡ false) → find p (reverse (range_with_len a n)) ≡ Some i
find_greatest p a zero i from to passes above = absurd (omega arith)
find_greatest p a (suc n) i from to passes above =
    ap (find p) (last_range a n)
    ∙ elim (cases_eq i (a + n) (omega arith)) [
      | inl e ↦ ap (λ b. cond b (Some (a + n)) (find p (reverse (range_with_len a n)))) (ap p (sym e) ∙ passes) ∙ ap Some (sym e)
      | inr l ↦ ap (λ b. cond b (Some (a + n)) (find p (reverse (range_with_len a n)))) (above (a + n) l (omega arith))
          ∙ find_greatest p a n i from (omega arith) passes (λ j f t. above j f (omega arith))
    ]

pub find_none_back : (p : ℕ → Bool) (a n : ℕ) → ((j : ℕ) → a ≤ j → j < a + n → p j ≡ false) → find p (reverse (range_with_len a n)) ≡ None
find_none_back p a zero none = refl
find_none_back p a (suc n) none =
    ap (find p) (last_range a n)
    ∙ (ap (λ b. cond b (Some (a + n)) (find p (reverse (range_with_len a n)))) (none (a + n) (omega arith) (omega arith))
    ∙ find_none_back p a n (λ j f t. none j f (omega arith)))

-- none before the first passes
pub found_below : (p : ℕ → Bool) (a n i j : ℕ) → find p (range_with_len a n) ≡ Some i → a ≤ j → j < i → p j ≡ false
found_below p a zero i j e from to = absurd (cc)
found_below p a (suc n) i j e from to =
    elim (p a) as (λ b. p a ≡ b → cond b (Some a) (find p (range_with_len (a + 1) n)) ≡ Some i → p j ≡ false) [
      | true ↦ λ t h. let same : a ≡ i = cc in absurd (omega arith)
      | false ↦ λ t h. elim (cases_eq a j from) [
        | inl s ↦ ap p (sym s) ∙ t
        | inr l ↦ found_below p (a + 1) n i j h (omega arith) to
      ]
    ] refl e
