-- The pods of a set as pairs in order: what a search from either end finds.
use Rattle.std.proofs.Common.{◌≡◌, ◌≢◌, ℕ, ◌≤◌, ◌<◌, Bool, true, false, cond, [], ◌∷◌, Some, None, find, reverse, arith, refl, sym, ap, ◌∙◌}
use Rattle.std.proofs.lemmas.List.{reverse-append}
use Rattle.std.proofs.lemmas.List.Folds.{find-append}
use Rattle.std.proofs.lemmas.Map.Keys.{sorted_head, sorted_tail}
use Rattle.std.specs.BTreeMap.{is_at}
use Rattle.std.specs.Cmp.{nat_cmp_is, ranked}
use Rattle.std.specs.List.{AllByRecursion}
use Rattle.std.specs.Map.{keys_of}
use Rattle.std.specs.Option.{option_or}
use Rattle.std.specs.Ordering.{is_eq, nat_cmp}
use Rattle.std.specs.declared.cmp.Ordering.TheVariants.{Less, Equal, Greater}
use Rattle.pod_steps.specs.declared.replica.Replica.{Replica}
use Rattle.pod_steps.specs.Replicas.{AreInOrder, Pods, pod_at}

pub at_self : (k : ℕ) → is_at (nat_cmp k) k ≡ true
at_self k = ap is_eq (sym (nat_cmp_is k k Equal refl))

pub at_same : (i k : ℕ) → is_at (nat_cmp i) k ≡ true → i ≡ k
at_same i k h =
    elim (nat_cmp i k) as (λ r. r ≡ nat_cmp i k → is_eq r ≡ true → i ≡ k) [
      | Less ↦ λ e t. absurd (cc)
      | Equal ↦ λ e t. ranked i k Equal e
      | Greater ↦ λ e t. absurd (cc)
    ] refl h

pub at_other : (i k : ℕ) → i ≢ k → is_at (nat_cmp i) k ≡ false
at_other i k apart =
    elim (is_at (nat_cmp i) k) as (λ b. is_at (nat_cmp i) k ≡ b → b ≡ false) [
      | true ↦ λ e. absurd (apart (at_same i k e))
      | false ↦ λ e. refl
    ] refl

-- what is after a key is above it
pub above : (k j : ℕ) (es : Pods) (y : Replica) → AllByRecursion (λ z. nat_cmp k z ≡ Less) (keys_of es) → pod_at es j ≡ Some y → k < j
above k j [] y all here = absurd (cc)
above k j (e ∷ es) y all here =
    elim (is_at (nat_cmp j) e.0) as (λ b. is_at (nat_cmp j) e.0 ≡ b → cond b (Some e.1) (pod_at es j) ≡ Some y → k < j) [
      | true ↦ λ t h. let same : j ≡ e.0 = at_same j e.0 t in let l : k < e.0 = ranked k e.0 Less (sym all.0) in omega arith
      | false ↦ λ t h. above k j es y all.1 h
    ] refl here

pub at_head : (e : ℕ × Replica) (es : Pods) → pod_at (e ∷ es) e.0 ≡ Some e.1
at_head e es = ap (λ b. cond b (Some e.1) (pod_at es e.0)) (at_self e.0)

pub at_tail : (e : ℕ × Replica) (es : Pods) (j : ℕ) (y : Replica) → AreInOrder (e ∷ es) → pod_at es j ≡ Some y → pod_at (e ∷ es) j ≡ Some y
at_tail e es j y sorted here =
    let l : e.0 < j = above e.0 j es y (sorted_head nat_cmp e.0 (keys_of es) sorted) here in
    ap (λ b. cond b (Some e.1) (pod_at es j)) (at_other j e.0 (omega arith)) ∙ here

-- none is found if no pod passes
pub none_passes : (q : ℕ × Replica → Bool) (es : Pods) → AreInOrder es → ((j : ℕ) (y : Replica) → pod_at es j ≡ Some y → q (j, y) ≡ false) → find q es ≡ None
none_passes q [] sorted none = refl
none_passes q (e ∷ es) sorted none =
    ap (λ b. cond b (Some e) (find q es)) (none e.0 e.1 (at_head e es))
    ∙ none_passes q es (sorted_tail nat_cmp e.0 (keys_of es) sorted) (λ j y h. none j y (at_tail e es j y sorted h))

-- if none is found, no pod passes
pub none_passed : (q : ℕ × Replica → Bool) (es : Pods) (j : ℕ) (y : Replica) → find q es ≡ None → pod_at es j ≡ Some y → q (j, y) ≡ false
none_passed q [] j y none here = absurd (cc)
none_passed q (e ∷ es) j y none here =
    elim (q e) as (λ b. q e ≡ b → cond b (Some e) (find q es) ≡ None → q (j, y) ≡ false) [
      | true ↦ λ t h. absurd (cc)
      | false ↦ λ t h.
          elim (is_at (nat_cmp j) e.0) as (λ b. is_at (nat_cmp j) e.0 ≡ b → cond b (Some e.1) (pod_at es j) ≡ Some y → q (j, y) ≡ false) [
            | true ↦ λ u k. let same : j ≡ e.0 = at_same j e.0 u in let it : y ≡ e.1 = cc in ap q (λ i. (same i, it i)) ∙ t
            | false ↦ λ u k. none_passed q es j y h k
          ] refl here
    ] refl none

pub from_back : (q : ℕ × Replica → Bool) (e : ℕ × Replica) (es : Pods) → find q (reverse (e ∷ es)) ≡ option_or (find q (reverse es)) (find q (e ∷ []))
from_back q e es = ap (find q) (reverse-append (e ∷ []) es) ∙ find-append q (reverse es) (e ∷ [])

pub none_back : (q : ℕ × Replica → Bool) (es : Pods) → find q es ≡ None → find q (reverse es) ≡ None
none_back q [] none = none
none_back q (e ∷ es) none =
    elim (q e) as (λ b. q e ≡ b → cond b (Some e) (find q es) ≡ None → find q (reverse (e ∷ es)) ≡ None) [
      | true ↦ λ t h. absurd (cc)
      | false ↦ λ t h. from_back q e es ∙ (ap (λ o. option_or o (find q (e ∷ []))) (none_back q es h) ∙ ap (λ b. cond b (Some e) None) t)
    ] refl none

pub not_true : (b : Bool) → (b ≡ true → ⊥) → b ≡ false
not_true true h = absurd (h refl)
not_true false h = refl

-- the highest pod that passes is found from the back
pub last_entry : (q : ℕ × Replica → Bool) (es : Pods) (i : ℕ) (x : Replica) → AreInOrder es → pod_at es i ≡ Some x → q (i, x) ≡ true → ((j : ℕ) (y : Replica) → pod_at es j ≡ Some y → q (j, y) ≡ true → j ≤ i) → find q (reverse es) ≡ Some (i, x)
last_entry q [] i x sorted here passes highest = absurd (cc)
last_entry q (e ∷ es) i x sorted here passes highest =
    elim (is_at (nat_cmp i) e.0) as (λ b. is_at (nat_cmp i) e.0 ≡ b → cond b (Some e.1) (pod_at es i) ≡ Some x → find q (reverse (e ∷ es)) ≡ Some (i, x)) [
      | true ↦ λ t h.
          let same : i ≡ e.0 = at_same i e.0 t in
          let it : x ≡ e.1 = cc in
          let is_e : ◌≡◌ {A = ℕ × Replica} (i, x) e = λ k. (same k, it k) in
          let none_later : find q es ≡ None = none_passes q es (sorted_tail nat_cmp e.0 (keys_of es) sorted) (λ j y g. not_true (q (j, y)) (λ p.
          let up : e.0 < j = above e.0 j es y (sorted_head nat_cmp e.0 (keys_of es) sorted) g in
          let down : j ≤ i = highest j y (at_tail e es j y sorted g) p in
          absurd (omega arith))) in
          from_back q e es ∙ (ap (λ o. option_or o (find q (e ∷ []))) (none_back q es none_later) ∙ (ap (λ b. cond b (Some e) None) (ap q (sym is_e) ∙ passes) ∙ ap Some (sym is_e)))
      | false ↦ λ t h.
          from_back q e es ∙ ap (λ o. option_or o (find q (e ∷ []))) (last_entry q es i x (sorted_tail nat_cmp e.0 (keys_of es) sorted) h passes (λ j y g p. highest j y (at_tail e es j y sorted g) p))
    ] refl here

-- the least pod that passes is found from the front
pub first_entry : (q : ℕ × Replica → Bool) (es : Pods) (i : ℕ) (x : Replica) → AreInOrder es → pod_at es i ≡ Some x → q (i, x) ≡ true → ((j : ℕ) (y : Replica) → pod_at es j ≡ Some y → q (j, y) ≡ true → i ≤ j) → find q es ≡ Some (i, x)
first_entry q [] i x sorted here passes least = absurd (cc)
first_entry q (e ∷ es) i x sorted here passes least =
    elim (is_at (nat_cmp i) e.0) as (λ b. is_at (nat_cmp i) e.0 ≡ b → cond b (Some e.1) (pod_at es i) ≡ Some x → find q (e ∷ es) ≡ Some (i, x)) [
      | true ↦ λ t h.
          let same : i ≡ e.0 = at_same i e.0 t in
          let it : x ≡ e.1 = cc in
          let is_e : ◌≡◌ {A = ℕ × Replica} (i, x) e = λ k. (same k, it k) in
          ap (λ b. cond b (Some e) (find q es)) (ap q (sym is_e) ∙ passes) ∙ ap Some (sym is_e)
      | false ↦ λ t h.
          let up : e.0 < i = above e.0 i es x (sorted_head nat_cmp e.0 (keys_of es) sorted) h in
          let not_first : q e ≡ false = not_true (q e) (λ p.
          let down : i ≤ e.0 = least e.0 e.1 (at_head e es) p in
          absurd (omega arith)) in
          ap (λ b. cond b (Some e) (find q es)) not_first
          ∙ first_entry q es i x (sorted_tail nat_cmp e.0 (keys_of es) sorted) h passes (λ j y g p. least j y (at_tail e es j y sorted g) p)
    ] refl here
