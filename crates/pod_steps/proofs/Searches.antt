-- What a search over a range, or over pods, has found.
use Rattle.std.proofs.Common.{◌≡◌, ◌≢◌, ◌==◌, ℕ, zero, suc, ◌+◌, ◌≤◌, ◌<◌, Bool, true, false, cond, List, [], ◌∷◌, Some, None, find, reverse, arith, refl, sym, ap, ◌∙◌, subst, inl, inr}
use Rattle.std.proofs.lemmas.Bool.{eq-eqb, eqb-true}
use Rattle.std.proofs.lemmas.Map.Keys.{sorted_head, sorted_tail}
use Rattle.std.specs.BTreeMap.{is_at}
use Rattle.std.specs.List.{range_with_len}
use Rattle.std.specs.Map.{keys_of}
use Rattle.std.specs.Option.{option_or}
use Rattle.std.specs.Ordering.{nat_cmp}
use Rattle.pod_steps.specs.declared.replica.Replica.{Replica}
use Rattle.pod_steps.specs.Replicas.{AreInOrder, Pods, pod_at}
use Rattle.pod_steps.proofs.Entries.{above, at_head, at_same, at_tail, from_back}
use Rattle.pod_steps.proofs.Found.{cases_eq, last_range}

-- ---- a range
pub found_in : (p : ℕ → Bool) (a n i : ℕ) → find p (range_with_len a n) ≡ Some i → (a ≤ i) × (i < a + n)
found_in p a zero i e = absurd (cc)
found_in p a (suc n) i e =
    elim (p a) as (λ b. cond b (Some a) (find p (range_with_len (a + 1) n)) ≡ Some i → (a ≤ i) × (i < a + suc n)) [
      | true ↦ λ h. let same : a ≡ i = cc in (omega arith, omega arith)
      | false ↦ λ h. let r = found_in p (a + 1) n i h in (omega (arith, r.0), omega (arith, r.1))
    ] e

pub none_found : (p : ℕ → Bool) (a n j : ℕ) → find p (range_with_len a n) ≡ None → a ≤ j → j < a + n → p j ≡ false
none_found p a zero j e from to = absurd (omega arith)
none_found p a (suc n) j e from to =
    elim (p a) as (λ b. p a ≡ b → cond b (Some a) (find p (range_with_len (a + 1) n)) ≡ None → p j ≡ false) [
      | true ↦ λ t h. absurd (cc)
      | false ↦ λ t h. elim (a == j) as (λ b. a == j ≡ b → p j ≡ false) [
        | true ↦ λ s. ap p (sym (eqb-true a j s)) ∙ t
        | false ↦ λ s. let apart : a ≢ j = λ same. (let u : a == j ≡ true = eq-eqb a j same in absurd (cc)) in none_found p (a + 1) n j h (omega arith) (omega arith)
      ] refl
    ] refl e

pub passes_in : {X : Type 0} (p : X → Bool) (xs : List X) (x : X) → find p xs ≡ Some x → p x ≡ true
passes_in p [] x e = absurd (cc)
passes_in p (y ∷ xs) x e =
    elim (p y) as (λ b. p y ≡ b → cond b (Some y) (find p xs) ≡ Some x → p x ≡ true) [
      | true ↦ λ t h. let same : y ≡ x = cc in ap p (sym same) ∙ t
      | false ↦ λ t h. passes_in p xs x h
    ] refl e

-- from the back nothing above what is found passes
pub found_above : (p : ℕ → Bool) (a n i j : ℕ) → find p (reverse (range_with_len a n)) ≡ Some i → i < j → j < a + n → p j ≡ false
found_above p a zero i j e from to = absurd (cc)
found_above p a (suc n) i j e from to =
    let top : cond (p (a + n)) (Some (a + n)) (find p (reverse (range_with_len a n))) ≡ Some i = sym (ap (find p) (last_range a n)) ∙ e in
    elim (p (a + n)) as (λ b. p (a + n) ≡ b → cond b (Some (a + n)) (find p (reverse (range_with_len a n))) ≡ Some i → p j ≡ false) [
      | true ↦ λ t h. let same : a + n ≡ i = cc in absurd (omega arith)
      | false ↦ λ t h. elim (a + n == j) as (λ b. a + n == j ≡ b → p j ≡ false) [
        | true ↦ λ s. ap p (sym (eqb-true (a + n) j s)) ∙ t
        | false ↦ λ s. let apart : a + n ≢ j = λ same. (let u : a + n == j ≡ true = eq-eqb (a + n) j same in absurd (cc)) in found_above p a n i j h from (omega arith)
      ] refl
    ] refl top

pub found_in_back : (p : ℕ → Bool) (a n i : ℕ) → find p (reverse (range_with_len a n)) ≡ Some i → (a ≤ i) × (i < a + n)
found_in_back p a zero i e = absurd (cc)
found_in_back p a (suc n) i e =
    let top : cond (p (a + n)) (Some (a + n)) (find p (reverse (range_with_len a n))) ≡ Some i = sym (ap (find p) (last_range a n)) ∙ e in
    elim (p (a + n)) as (λ b. cond b (Some (a + n)) (find p (reverse (range_with_len a n))) ≡ Some i → (a ≤ i) × (i < a + suc n)) [
      | true ↦ λ h. let same : a + n ≡ i = cc in (omega arith, omega arith)
      | false ↦ λ h. let r = found_in_back p a n i h in (r.0, omega (arith, r.1))
    ] top

pub none_found_back : (p : ℕ → Bool) (a n j : ℕ) → find p (reverse (range_with_len a n)) ≡ None → a ≤ j → j < a + n → p j ≡ false
none_found_back p a zero j e from to = absurd (omega arith)
none_found_back p a (suc n) j e from to =
    let top : cond (p (a + n)) (Some (a + n)) (find p (reverse (range_with_len a n))) ≡ None = sym (ap (find p) (last_range a n)) ∙ e in
    elim (p (a + n)) as (λ b. p (a + n) ≡ b → cond b (Some (a + n)) (find p (reverse (range_with_len a n))) ≡ None → p j ≡ false) [
      | true ↦ λ t h. absurd (cc)
      | false ↦ λ t h. elim (cases_eq j (a + n) (omega arith)) [
        | inl s ↦ ap p s ∙ t
        | inr l ↦ none_found_back p a n j h from l
      ]
    ] refl top

-- ---- pods
-- an entry that is found from the back is at its ordinal
pub entry_is_there : (q : ℕ × Replica → Bool) (es : Pods) (e : ℕ × Replica) → AreInOrder es → find q (reverse es) ≡ Some e → pod_at es e.0 ≡ Some e.1
entry_is_there q [] e sorted found = absurd (cc)
entry_is_there q (x ∷ es) e sorted found =
    let parts : option_or (find q (reverse es)) (find q (x ∷ [])) ≡ Some e = sym (from_back q x es) ∙ found in
    elim (find q (reverse es)) as (λ o. find q (reverse es) ≡ o → option_or o (find q (x ∷ [])) ≡ Some e → pod_at (x ∷ es) e.0 ≡ Some e.1) [
      | Some y ↦ λ h k.
          let same : y ≡ e = cc in
          at_tail x es e.0 e.1 sorted (entry_is_there q es e (sorted_tail nat_cmp x.0 (keys_of es) sorted) (h ∙ ap Some same))
      | None ↦ λ h k. elim (q x) as (λ b. cond b (Some x) None ≡ Some e → pod_at (x ∷ es) e.0 ≡ Some e.1) [
        | true ↦ λ m.
            let same : x ≡ e = cc in
            let P : ℕ × Replica → Type 0 = λ z. pod_at (x ∷ es) z.0 ≡ Some z.1 in
            subst P same (at_head x es)
        | false ↦ λ m. absurd (cc)
      ] k
    ] refl parts

-- one that passes is found from the back
pub back_finds : (q : ℕ × Replica → Bool) (es : Pods) (j : ℕ) (y : Replica) → pod_at es j ≡ Some y → q (j, y) ≡ true → find q (reverse es) ≡ None → ⊥
back_finds q [] j y here passes none = absurd (cc)
back_finds q (x ∷ es) j y here passes none =
    let parts : option_or (find q (reverse es)) (find q (x ∷ [])) ≡ None = sym (from_back q x es) ∙ none in
    elim (find q (reverse es)) as (λ o. find q (reverse es) ≡ o → option_or o (find q (x ∷ [])) ≡ None → ⊥) [
      | Some z ↦ λ h k. absurd (cc)
      | None ↦ λ h k. elim (is_at (nat_cmp j) x.0) as (λ b. is_at (nat_cmp j) x.0 ≡ b → cond b (Some x.1) (pod_at es j) ≡ Some y → ⊥) [
        | true ↦ λ t m.
            let same : j ≡ x.0 = at_same j x.0 t in
            let it : y ≡ x.1 = cc in
            let at_x : q x ≡ true = sym (ap q (λ i. (same i, it i))) ∙ passes in
            let clash : Some x ≡ None = sym (ap (λ b. cond b (Some x) None) at_x) ∙ k in
            absurd (cc)
        | false ↦ λ t m. back_finds q es j y m passes h
      ] refl here
    ] refl parts

-- none that passes is above what is found from the back
pub highest_is : (q : ℕ × Replica → Bool) (es : Pods) (e : ℕ × Replica) (j : ℕ) (y : Replica) → AreInOrder es → find q (reverse es) ≡ Some e → pod_at es j ≡ Some y → q (j, y) ≡ true → j ≤ e.0
highest_is q [] e j y sorted found here passes = absurd (cc)
highest_is q (x ∷ es) e j y sorted found here passes =
    let parts : option_or (find q (reverse es)) (find q (x ∷ [])) ≡ Some e = sym (from_back q x es) ∙ found in
    let tail = sorted_tail nat_cmp x.0 (keys_of es) sorted in
    elim (is_at (nat_cmp j) x.0) as (λ b. is_at (nat_cmp j) x.0 ≡ b → cond b (Some x.1) (pod_at es j) ≡ Some y → j ≤ e.0) [
      | true ↦ λ t m.
          let same : j ≡ x.0 = at_same j x.0 t in
          elim (find q (reverse es)) as (λ o. find q (reverse es) ≡ o → option_or o (find q (x ∷ [])) ≡ Some e → j ≤ e.0) [
            | Some z ↦ λ h k.
                let z_is : z ≡ e = cc in
                let up : x.0 < e.0 = above x.0 e.0 es e.1 (sorted_head nat_cmp x.0 (keys_of es) sorted) (entry_is_there q es e tail (h ∙ ap Some z_is)) in
                omega arith
            | None ↦ λ h k. elim (q x) as (λ b. cond b (Some x) None ≡ Some e → j ≤ e.0) [
              | true ↦ λ n. let x_is : x ≡ e = cc in let keys : x.0 ≡ e.0 = ap (λ z. z.0) x_is in omega arith
              | false ↦ λ n. absurd (cc)
            ] k
          ] refl parts
      | false ↦ λ t m.
          elim (find q (reverse es)) as (λ o. find q (reverse es) ≡ o → option_or o (find q (x ∷ [])) ≡ Some e → j ≤ e.0) [
            | Some z ↦ λ h k. let z_is : z ≡ e = cc in highest_is q es e j y tail (h ∙ ap Some z_is) m passes
            | None ↦ λ h k. absurd (back_finds q es j y m passes h)
          ] refl parts
    ] refl here
