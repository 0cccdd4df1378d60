-- Sums over a range.
use Rattle.std.proofs.Common.{◌≡◌, ◌≢◌, ℕ, zero, suc, ◌+◌, ◌*◌, ◌≤◌, ◌<◌, arith, refl, sym, ap, ◌∙◌, inl, inr}
use Rattle.std.proofs.lemmas.List.Sums.{sum_by-cons}
use Rattle.std.specs.List.{range_with_len, sum_by}
use Rattle.pod_steps.proofs.Found.{cases_eq}

pub sum_same : (f g : ℕ → ℕ) (a n : ℕ) → ((j : ℕ) → a ≤ j → j < a + n → f j ≡ g j) → sum_by f (range_with_len a n) ≡ sum_by g (range_with_len a n)
sum_same f g a zero same = refl
sum_same f g a (suc n) same =
    let here : f a ≡ g a = same a (omega arith) (omega arith) in
    let later : sum_by f (range_with_len (a + 1) n) ≡ sum_by g (range_with_len (a + 1) n) = sum_same f g (a + 1) n (λ j from to. same j (omega arith) (omega arith)) in
    sum_by-cons f a (range_with_len (a + 1) n) ∙ ((λ k. here k + later k) ∙ sym (sum_by-cons g a (range_with_len (a + 1) n)))

-- all alike, but one less at one place
pub sum_less : (f g : ℕ → ℕ) (a n i : ℕ) → a ≤ i → i < a + n → f i ≡ g i + 1 → ((j : ℕ) → a ≤ j → j < a + n → j ≢ i → f j ≡ g j)
    → sum_by f (range_with_len a n) ≡ sum_by g (range_with_len a n) + 1
sum_less f g a zero i from to one same = absurd (omega arith)
sum_less f g a (suc n) i from to one same =
    let left : sum_by f (range_with_len a (suc n)) ≡ f a + sum_by f (range_with_len (a + 1) n) = sum_by-cons f a (range_with_len (a + 1) n) in
    let right : sum_by g (range_with_len a (suc n)) ≡ g a + sum_by g (range_with_len (a + 1) n) = sum_by-cons g a (range_with_len (a + 1) n) in
    elim (cases_eq a i from) [
      | inl e ↦
          let here : f a ≡ g a + 1 = ap f e ∙ (one ∙ ap (λ x. g x + 1) (sym e)) in
          let later : sum_by f (range_with_len (a + 1) n) ≡ sum_by g (range_with_len (a + 1) n) = sum_same f g (a + 1) n (λ j low high. same j (omega arith) (omega arith) (λ s. absurd (omega arith))) in
          omega arith
      | inr l ↦
          let here : f a ≡ g a = same a (omega arith) (omega arith) (λ s. absurd (omega arith)) in
          let later : sum_by f (range_with_len (a + 1) n) ≡ sum_by g (range_with_len (a + 1) n) + 1 = sum_less f g (a + 1) n i (omega arith) (omega arith) one (λ j low high. same j (omega arith) (omega arith)) in
          omega arith
    ]

pub sum_most : (f : ℕ → ℕ) (a n : ℕ) → ((j : ℕ) → f j ≤ 2) → sum_by f (range_with_len a n) ≤ 2 * n
sum_most f a zero most = omega arith
sum_most f a (suc n) most =
    let whole : sum_by f (range_with_len a (suc n)) ≡ f a + sum_by f (range_with_len (a + 1) n) = sum_by-cons f a (range_with_len (a + 1) n) in
    let here : f a ≤ 2 = most a in
    let later : sum_by f (range_with_len (a + 1) n) ≤ 2 * n = sum_most f (a + 1) n most in
    omega arith

pub sum_zero : (f : ℕ → ℕ) (a n : ℕ) → ((j : ℕ) → a ≤ j → j < a + n → f j ≡ 0) → sum_by f (range_with_len a n) ≡ 0
sum_zero f a zero none = refl
sum_zero f a (suc n) none =
    let whole : sum_by f (range_with_len a (suc n)) ≡ f a + sum_by f (range_with_len (a + 1) n) = sum_by-cons f a (range_with_len (a + 1) n) in
    let here : f a ≡ 0 = none a (omega arith) (omega arith) in
    let later : sum_by f (range_with_len (a + 1) n) ≡ 0 = sum_zero f (a + 1) n (λ j from to. none j (omega arith) (omega arith)) in
    omega arith

pub sum_part : (f : ℕ → ℕ) (a n i : ℕ) → a ≤ i → i < a + n → f i ≤ sum_by f (range_with_len a n)
sum_part f a zero i from to = absurd (omega arith)
sum_part f a (suc n) i from to =
    let whole : sum_by f (range_with_len a (suc n)) ≡ f a + sum_by f (range_with_len (a + 1) n) = sum_by-cons f a (range_with_len (a + 1) n) in
    elim (cases_eq a i from) [
      | inl e ↦ let here : f i ≡ f a = ap f (sym e) in omega arith
      | inr l ↦ let later : f i ≤ sum_by f (range_with_len (a + 1) n) = sum_part f (a + 1) n i (omega arith) (omega arith) in omega arith
    ]

pub sum_below : (f g : ℕ → ℕ) (a n : ℕ) → ((j : ℕ) → a ≤ j → j < a + n → g j ≤ f j) → sum_by g (range_with_len a n) ≤ sum_by f (range_with_len a n)
sum_below f g a zero low = omega arith
sum_below f g a (suc n) low =
    let left : sum_by f (range_with_len a (suc n)) ≡ f a + sum_by f (range_with_len (a + 1) n) = sum_by-cons f a (range_with_len (a + 1) n) in
    let right : sum_by g (range_with_len a (suc n)) ≡ g a + sum_by g (range_with_len (a + 1) n) = sum_by-cons g a (range_with_len (a + 1) n) in
    let here : g a ≤ f a = low a (omega arith) (omega arith) in
    let later : sum_by g (range_with_len (a + 1) n) ≤ sum_by f (range_with_len (a + 1) n) = sum_below f g (a + 1) n (λ j from to. low j (omega arith) (omega arith)) in
    omega arith

pub sum_under : (f g : ℕ → ℕ) (a n i : ℕ) → a ≤ i → i < a + n → g i < f i → ((j : ℕ) → a ≤ j → j < a + n → g j ≤ f j) → sum_by g (range_with_len a n) < sum_by f (range_with_len a n)
sum_under f g a zero i from to one low = absurd (omega arith)
sum_under f g a (suc n) i from to one low =
    let left : sum_by f (range_with_len a (suc n)) ≡ f a + sum_by f (range_with_len (a + 1) n) = sum_by-cons f a (range_with_len (a + 1) n) in
    let right : sum_by g (range_with_len a (suc n)) ≡ g a + sum_by g (range_with_len (a + 1) n) = sum_by-cons g a (range_with_len (a + 1) n) in
    elim (cases_eq a i from) [
      | inl e ↦
          let f_is : f a ≡ f i = ap f e in
          let g_is : g a ≡ g i = ap g e in
          let later : sum_by g (range_with_len (a + 1) n) ≤ sum_by f (range_with_len (a + 1) n) = sum_below f g (a + 1) n (λ j low_j high. low j (omega arith) (omega arith)) in
          omega arith
      | inr l ↦
          let here : g a ≤ f a = low a (omega arith) (omega arith) in
          let later : sum_by g (range_with_len (a + 1) n) < sum_by f (range_with_len (a + 1) n) = sum_under f g (a + 1) n i (omega arith) (omega arith) one (λ j low_j high. low j (omega arith) (omega arith)) in
          omega arith
    ]
