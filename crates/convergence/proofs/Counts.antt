-- How many pods of a list pass a test of their ordinals.
use Rattle.std.proofs.Common.{◌≡◌, ◌≢◌, ℕ, ◌+◌, ◌≤◌, ◌<◌, Bool, true, false, not, cond, ◌&&◌, [], ◌∷◌, Option, Some, None, filter, length, arith, refl, sym, ap, ◌∙◌, inl, inr}
use Rattle.std.proofs.lemmas.Bool.{cases_lt}
use Rattle.std.proofs.lemmas.Map.Keys.{sorted_tail}
use Rattle.std.specs.BTreeMap.{is_at}
use Rattle.std.specs.Map.{keys_of}
use Rattle.std.specs.Ordering.{nat_cmp}
use Rattle.pod_steps.specs.declared.replica.Replica.{Replica}
use Rattle.pod_steps.specs.Replicas.{AreInOrder, Pods, pod_at}
use Rattle.pod_steps.proofs.Entries.{at_head, at_same, at_self}
use Rattle.pod_steps.proofs.Same.{from_head, head_is_once, same_pods}
use Rattle.pod_steps.proofs.Firsts.{filtered_in_order}
use Rattle.pod_steps.proofs.Found.{cases_eq}

-- ---- the first of a list
-- below the first there is none
not_there : (f : ℕ × Replica) (fs : Pods) (j : ℕ) → AreInOrder (f ∷ fs) → j < f.0 → pod_at (f ∷ fs) j ≡ None
not_there f fs j t below =
    elim (pod_at (f ∷ fs) j) as (λ o. pod_at (f ∷ fs) j ≡ o → o ≡ None) [
      | None ↦ λ h. refl
      | Some y ↦ λ h. let low : f.0 ≤ j = from_head f fs j y t h in absurd (omega arith)
    ] refl

below_head : (e : ℕ × Replica) (es : Pods) (f : ℕ × Replica) (fs : Pods) → AreInOrder (e ∷ es) → ((j : ℕ) → pod_at (e ∷ es) j ≡ None → pod_at (f ∷ fs) j ≡ None) → f.0 < e.0 → ⊥
below_head e es f fs s none l =
    let clash : Some f.1 ≡ None = sym (at_head f fs) ∙ none f.0 (not_there e es f.0 s l) in absurd (cc)

-- ---- those that pass
abbrev by_key : (ℕ → Bool) → ℕ × Replica → Bool
by_key q e = q e.0

at_filtered : (q : ℕ → Bool) (es : Pods) (j : ℕ) → pod_at (filter (by_key q) es) j ≡ cond (q j) (pod_at es j) None
at_filtered q [] j = elim (q j) as (λ b. ◌≡◌ {A = Option Replica} None (cond b None None)) [ true ↦ refl | false ↦ refl ]
at_filtered q (e ∷ es) j =
    elim (q e.0) as (λ b. q e.0 ≡ b → pod_at (cond b (e ∷ filter (by_key q) es) (filter (by_key q) es)) j ≡ cond (q j) (pod_at (e ∷ es) j) None) [
      | true ↦ λ t. elim (is_at (nat_cmp j) e.0) as (λ b. is_at (nat_cmp j) e.0 ≡ b → cond b (Some e.1) (pod_at (filter (by_key q) es) j) ≡ cond (q j) (cond b (Some e.1) (pod_at es j)) None) [
        | true ↦ λ u. sym (ap (λ b. cond b (Some e.1) None) (ap q (at_same j e.0 u) ∙ t))
        | false ↦ λ u. at_filtered q es j
      ] refl
      | false ↦ λ t. elim (is_at (nat_cmp j) e.0) as (λ b. is_at (nat_cmp j) e.0 ≡ b → pod_at (filter (by_key q) es) j ≡ cond (q j) (cond b (Some e.1) (pod_at es j)) None) [
        | true ↦ λ u.
            let out : q j ≡ false = ap q (at_same j e.0 u) ∙ t in
            at_filtered q es j ∙ (ap (λ b. cond b (pod_at es j) None) out ∙ sym (ap (λ b. cond b (Some e.1) None) out))
        | false ↦ λ u. at_filtered q es j
      ] refl
    ] refl

same_where : (b : Bool) (x y : Option Replica) → (b ≡ true → x ≡ y) → cond b x None ≡ cond b y None
same_where true x y same = same refl
same_where false x y same = refl

-- equally many, where the same pods stand at all ordinals that pass
pub count_same : (q : ℕ → Bool) (es fs : Pods) → AreInOrder es → AreInOrder fs → ((j : ℕ) → q j ≡ true → pod_at es j ≡ pod_at fs j)
    → length (filter (λ (e : ℕ × Replica). q e.0) es) ≡ length (filter (λ (e : ℕ × Replica). q e.0) fs)
count_same q es fs s t same =
    ap length (same_pods (filter (by_key q) es) (filter (by_key q) fs) (filtered_in_order (by_key q) es s) (filtered_in_order (by_key q) fs t)
    (λ j. at_filtered q es j ∙ (same_where (q j) (pod_at es j) (pod_at fs j) (same j) ∙ sym (at_filtered q fs j))))

-- the test, but for one ordinal
abbrev but : (ℕ → Bool) → ℕ → ℕ → Bool
but q h j = q j && not (is_at (nat_cmp h) j)

pub count_one : (q : ℕ → Bool) (es : Pods) (h : ℕ) (x : Replica) → AreInOrder es → q h ≡ true → pod_at es h ≡ Some x
    → length (filter (by_key q) es) ≡ length (filter (by_key (but q h)) es) + 1
count_one q [] h x s passes here = absurd (cc)
count_one q (e ∷ es) h x s passes here =
    let tail = sorted_tail nat_cmp e.0 (keys_of es) s in
    elim (is_at (nat_cmp h) e.0) as (λ b. is_at (nat_cmp h) e.0 ≡ b → cond b (Some e.1) (pod_at es h) ≡ Some x
    → length (cond (q e.0) (e ∷ filter (by_key q) es) (filter (by_key q) es)) ≡ length (cond (q e.0 && not b) (e ∷ filter (by_key (but q h)) es) (filter (by_key (but q h)) es)) + 1) [
      | true ↦ λ t m.
          let at : h ≡ e.0 = at_same h e.0 t in
          let in_q : q e.0 ≡ true = ap q (sym at) ∙ passes in
          let gone : pod_at es h ≡ None = ap (pod_at es) at ∙ head_is_once e es s in
          let others : filter (by_key q) es ≡ filter (by_key (but q h)) es = same_pods (filter (by_key q) es) (filter (by_key (but q h)) es) (filtered_in_order (by_key q) es tail) (filtered_in_order (by_key (but q h)) es tail) (λ j.
          at_filtered q es j
          ∙ (elim (is_at (nat_cmp h) j) as (λ b. is_at (nat_cmp h) j ≡ b → cond (q j) (pod_at es j) None ≡ cond (q j && not b) (pod_at es j) None) [
            | true ↦ λ u.
                let none : pod_at es j ≡ None = ap (pod_at es) (sym (at_same h j u)) ∙ gone in
                elim (q j) as (λ b. cond b (pod_at es j) None ≡ cond (b && false) (pod_at es j) None) [ true ↦ none | false ↦ refl ]
            | false ↦ λ u. elim (q j) as (λ b. cond b (pod_at es j) None ≡ cond (b && true) (pod_at es j) None) [ true ↦ refl | false ↦ refl ]
          ] refl ∙ sym (at_filtered (but q h) es j))) in
          let counts : length (filter (by_key q) es) ≡ length (filter (by_key (but q h)) es) = ap length others in
          elim (q e.0) as (λ b. q e.0 ≡ b → length (cond b (e ∷ filter (by_key q) es) (filter (by_key q) es)) ≡ length (cond (b && false) (e ∷ filter (by_key (but q h)) es) (filter (by_key (but q h)) es)) + 1) [
            | true ↦ λ u. omega arith
            | false ↦ λ u. absurd (cc)
          ] refl
      | false ↦ λ t m.
          let later : length (filter (by_key q) es) ≡ length (filter (by_key (but q h)) es) + 1 = count_one q es h x tail passes m in
          elim (q e.0) as (λ b. length (cond b (e ∷ filter (by_key q) es) (filter (by_key q) es)) ≡ length (cond (b && true) (e ∷ filter (by_key (but q h)) es) (filter (by_key (but q h)) es)) + 1) [
            | true ↦ omega arith
            | false ↦ later
          ]
    ] refl here

-- one less, where one pod is gone
pub count_less : (q : ℕ → Bool) (es fs : Pods) (h : ℕ) (x : Replica) → AreInOrder es → AreInOrder fs → q h ≡ true → pod_at es h ≡ Some x → pod_at fs h ≡ None
    → ((j : ℕ) → q j ≡ true → j ≢ h → pod_at es j ≡ pod_at fs j)
    → length (filter (λ (e : ℕ × Replica). q e.0) es) ≡ length (filter (λ (e : ℕ × Replica). q e.0) fs) + 1
count_less q es fs h x s t passes here gone same =
    count_one q es h x s passes here
    ∙ ap (λ (n : ℕ). n + 1) (ap length (same_pods (filter (by_key (but q h)) es) (filter (by_key q) fs) (filtered_in_order (by_key (but q h)) es s) (filtered_in_order (by_key q) fs t) (λ j.
    at_filtered (but q h) es j
    ∙ (elim (is_at (nat_cmp h) j) as (λ b. is_at (nat_cmp h) j ≡ b → cond (q j && not b) (pod_at es j) None ≡ cond (q j) (pod_at fs j) None) [
      | true ↦ λ u.
          let none : pod_at fs j ≡ None = ap (pod_at fs) (sym (at_same h j u)) ∙ gone in
          elim (q j) as (λ b. cond (b && false) (pod_at es j) None ≡ cond b (pod_at fs j) None) [ true ↦ sym none | false ↦ refl ]
      | false ↦ λ u.
          let apart : j ≢ h = λ e. (let v : is_at (nat_cmp h) j ≡ true = ap (is_at (nat_cmp h)) e ∙ at_self h in absurd (cc)) in
          elim (q j) as (λ b. q j ≡ b → cond (b && true) (pod_at es j) None ≡ cond b (pod_at fs j) None) [ true ↦ λ v. same j v apart | false ↦ λ v. refl ] refl
    ] refl ∙ sym (at_filtered q fs j)))))

-- no more, where each pod of the one stands in the other
shorter : (es fs : Pods) → AreInOrder es → AreInOrder fs → ((j : ℕ) → pod_at es j ≡ None → pod_at fs j ≡ None) → length fs ≤ length es
shorter es [] s t none = omega arith
shorter [] (f ∷ fs) s t none = let clash : Some f.1 ≡ None = sym (at_head f fs) ∙ none f.0 refl in absurd (cc)
shorter (e ∷ es) (f ∷ fs) s t none =
    let s_tail = sorted_tail nat_cmp e.0 (keys_of es) s in
    let t_tail = sorted_tail nat_cmp f.0 (keys_of fs) t in
    elim (cases_lt f.0 e.0) [
      | inl l ↦ absurd (below_head e es f fs s none l)
      | inr l ↦ elim (cases_eq e.0 f.0 l) [
        | inl same ↦
            let later : length fs ≤ length es = shorter es fs s_tail t_tail (λ j h.
            elim (is_at (nat_cmp j) e.0) as (λ b. is_at (nat_cmp j) e.0 ≡ b → pod_at fs j ≡ None) [
              | true ↦ λ u. ap (pod_at fs) (at_same j e.0 u ∙ same) ∙ head_is_once f fs t
              | false ↦ λ u.
                  let out : pod_at (f ∷ fs) j ≡ None = none j (ap (λ b. cond b (Some e.1) (pod_at es j)) u ∙ h) in
                  sym (ap (λ b. cond b (Some f.1) (pod_at fs j)) (ap (is_at (nat_cmp j)) (sym same) ∙ u)) ∙ out
            ] refl) in
            omega arith
        | inr up ↦
            let later : length (f ∷ fs) ≤ length es = shorter es (f ∷ fs) s_tail t (λ j h.
            elim (is_at (nat_cmp j) e.0) as (λ b. is_at (nat_cmp j) e.0 ≡ b → pod_at (f ∷ fs) j ≡ None) [
              | true ↦ λ u. ap (pod_at (f ∷ fs)) (at_same j e.0 u) ∙ not_there f fs e.0 t up
              | false ↦ λ u. none j (ap (λ b. cond b (Some e.1) (pod_at es j)) u ∙ h)
            ] refl) in
            omega arith
      ]
    ]

pub count_most : (q : ℕ → Bool) (es fs : Pods) → AreInOrder es → AreInOrder fs → ((j : ℕ) → q j ≡ true → pod_at es j ≡ None → pod_at fs j ≡ None)
    → length (filter (λ (e : ℕ × Replica). q e.0) fs) ≤ length (filter (λ (e : ℕ × Replica). q e.0) es)
count_most q es fs s t none =
    shorter (filter (by_key q) es) (filter (by_key q) fs) (filtered_in_order (by_key q) es s) (filtered_in_order (by_key q) fs t) (λ j h.
    elim (q j) as (λ b. q j ≡ b → pod_at (filter (by_key q) fs) j ≡ None) [
      | true ↦ λ u. at_filtered q fs j ∙ (ap (λ b. cond b (pod_at fs j) None) u ∙ none j u (sym (at_filtered q es j ∙ ap (λ b. cond b (pod_at es j) None) u) ∙ h))
      | false ↦ λ u. at_filtered q fs j ∙ ap (λ b. cond b (pod_at fs j) None) u
    ] refl)
