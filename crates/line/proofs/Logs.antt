-- Logs of notes: what they have, what their prefixes have, and what they have after one more note. These lemmas name no
-- table.
use Rattle.std.proofs.Common.{◌≡◌, ◌≢◌, ◌⊎◌, ℕ, zero, suc, ◌+◌, ◌<◌, ◌≤◌, List, [], ◌∷◌, ◌++◌, length, take, drop, set, Bool, true, false, true≢false, eqb, leb, Option, Some, None, refl, sym, ap, ◌∙◌, subst, ⊎_elim, inl, inr, arith, length-append, add-zero, eq-eqb, ne_eqb}
use Rattle.std.specs.Prelude.{is_some}
use Rattle.std.proofs.lemmas.List.{append-nil, take-append-drop, length-take-le, take-append-le}
use Rattle.std.proofs.lemmas.Bool.{leb-true, le-leb}
use mathlib.Core.Option.{some, none, some-injective, some-ne-none}
use lib.ListN.{get_elem?}
use Rattle.std.proofs.Math.Seq.{take-append_seam}
use Rattle.atomic_table.proofs.Lists.{at_set, at_longer}
use Rattle.line.specs.declared.view.Observation.{Observation}
use Rattle.line.specs.declared.view.NotedView.{NotedView}
use Rattle.line.specs.Notes.{keep, notes_of, notes_up_to, IsLegal}
use Rattle.line.specs.NotedRule.{IsApart, IsTrueObservation}

leb_no : (a b : ℕ) → b < a → leb a b ≡ false
leb_no a b l = by_case (leb a b) refl
  where
    by_case : (t : Bool) → leb a b ≡ t → leb a b ≡ false
    by_case true e = absurd (let k = leb-true a b e in omega arith)
    by_case false e = e

pub some_ne : {A : Type 0} (a : A) → none ≡ some a → ⊥
some_ne a e = some-ne-none a (sym e)

pub no_some : (i : ℕ) → None ≡ Some i → ⊥
no_some i e = absurd (cc e)

pub some_same : (a b : ℕ) → Some a ≡ Some b → a ≡ b
some_same a b e = cc e

pub some_of : (o : Option ℕ) → is_some o ≡ true → (m : ℕ) × (o ≡ Some m)
some_of None e = absurd (true≢false (sym e))
some_of (Some m) e = (m, refl)

pub at_end : {A : Type 0} (l : List A) (a b : A) (j : ℕ) → get_elem? (l ++ a ∷ []) j ≡ some b → (get_elem? l j ≡ some b) ⊎ ((j ≡ length l) × (a ≡ b))
at_end [] a b zero e = inr (refl, some-injective a b e)
at_end [] a b (suc j) e = absurd (some-ne-none b (sym e))
at_end (x ∷ xs) a b zero e = inl e
at_end (x ∷ xs) a b (suc j) e = ⊎_elim (λ t. inl t) (λ t. inr (ap suc t.0, t.1)) (at_end xs a b j e)

pub at_less : {A : Type 0} (l : List A) (j : ℕ) (b : A) → get_elem? l j ≡ some b → j < length l
at_less [] j b e = absurd (some-ne-none b (sym e))
at_less (x ∷ xs) zero b e = omega arith
at_less (x ∷ xs) (suc j) b e = let i = at_less xs j b e in omega arith

module _ {E : Type 0} where
  module _ (f : E → ℕ) (i : ℕ) where
    pub notes_of-append : (n : ℕ) (xs ys : List E) → notes_of f i n (xs ++ ys) ≡ notes_of f i n xs ++ notes_of f i (n + length xs) ys
    notes_of-append n [] ys = ap (λ k. notes_of f i k ys) (sym (add-zero n))
    notes_of-append n (x ∷ xs) ys = at_head (eqb (f x) i) _ _ _ (notes_of-append (suc n) xs ys ∙ ap (λ k. notes_of f i (suc n) xs ++ notes_of f i k ys) (let e : suc n + length xs ≡ n + suc (length xs) = omega arith in e))
      where
        at_head : (b : Bool) (as_ bs cs : List (ℕ × E)) → as_ ≡ bs ++ cs → keep b (n, x) as_ ≡ keep b (n, x) bs ++ cs
        at_head true as_ bs cs e = ap (λ l. (n, x) ∷ l) e
        at_head false as_ bs cs e = e

    pub notes_of_here : (n : ℕ) (xs : List E) (e : E) → f e ≡ i → notes_of f i n (xs ++ e ∷ []) ≡ notes_of f i n xs ++ (n + length xs, e) ∷ []
    notes_of_here n xs e is = notes_of-append n xs (e ∷ []) ∙ ap (λ b. notes_of f i n xs ++ keep b (n + length xs, e) []) (eq-eqb (f e) i is)

    pub notes_of_else : (n : ℕ) (xs : List E) (e : E) → f e ≢ i → notes_of f i n (xs ++ e ∷ []) ≡ notes_of f i n xs
    notes_of_else n xs e not = notes_of-append n xs (e ∷ []) ∙ (ap (λ b. notes_of f i n xs ++ keep b (n + length xs, e) []) (ne_eqb (f e) i not) ∙ append-nil (notes_of f i n xs))

    -- none of the log's notes is of i
    pub notes_of_none : (n : ℕ) (log : List E) → ((k : ℕ) (e : E) → get_elem? log k ≡ some e → f e ≢ i) → notes_of f i n log ≡ []
    notes_of_none n [] low = refl
    notes_of_none n (e ∷ es) low = ap (λ b. keep b (n, e) (notes_of f i (suc n) es)) (ne_eqb (f e) i (low 0 e refl)) ∙ notes_of_none (suc n) es (λ k x q. low (suc k) x q)

  keep_under : (m n : ℕ) (x : E) (b : Bool) (as_ bs : List (ℕ × E)) → leb n m ≡ true → notes_up_to m as_ ≡ bs → notes_up_to m (keep b (n, x) as_) ≡ keep b (n, x) bs
  keep_under m n x true as_ bs t e = ap (λ c. keep c (n, x) (notes_up_to m as_)) t ∙ ap (λ l. (n, x) ∷ l) e
  keep_under m n x false as_ bs t e = e

  drop_over : (m n : ℕ) (x : E) (b : Bool) (as_ : List (ℕ × E)) → leb n m ≡ false → notes_up_to m as_ ≡ [] → notes_up_to m (keep b (n, x) as_) ≡ []
  drop_over m n x true as_ t e = ap (λ c. keep c (n, x) (notes_up_to m as_)) t ∙ e
  drop_over m n x false as_ t e = e

  module _ (f : E → ℕ) (i : ℕ) where
    notes_up_to_none : (m n : ℕ) (xs : List E) → m < n → notes_up_to m (notes_of f i n xs) ≡ []
    notes_up_to_none m n [] l = refl
    notes_up_to_none m n (x ∷ xs) l = drop_over m n x (eqb (f x) i) (notes_of f i (suc n) xs) (leb_no n m l) (notes_up_to_none m (suc n) xs (omega arith))

    -- what a prefix has is what the whole has, up to its length
    pub notes_up_to_front : (m n : ℕ) (xs ys : List E) → n + length xs ≡ m + 1 → notes_up_to m (notes_of f i n (xs ++ ys)) ≡ notes_of f i n xs
    notes_up_to_front m n [] ys e = notes_up_to_none m n ys (omega arith)
    notes_up_to_front m n (x ∷ xs) ys e = keep_under m n x (eqb (f x) i) (notes_of f i (suc n) (xs ++ ys)) (notes_of f i (suc n) xs) (le-leb n m (omega arith)) (notes_up_to_front m (suc n) xs ys (omega arith))

    -- all that a log has has a number up to its length
    pub notes_up_to_whole : (xs : List E) → notes_up_to (length xs) (notes_of f i 1 xs) ≡ notes_of f i 1 xs
    notes_up_to_whole xs = ap (λ l. notes_up_to (length xs) (notes_of f i 1 l)) (sym (append-nil xs)) ∙ notes_up_to_front (length xs) 1 xs [] (omega arith)

  module _ (home : E → ℕ) where
    -- an observation stays right as the log grows
    pub right_on : (log : List E) (e : E) (c : Observation E) → IsTrueObservation home log c → IsTrueObservation home (log ++ e ∷ []) c
    right_on log e c h = let l = h.0 in (omega (arith, length-append log (e ∷ [])), h.1 ∙ ap (notes_of home c.shard 1) (sym (take-append-le c.drawn log (e ∷ []) h.0)))

    -- what a right observation says of each prefix of the log
    pub observation_reads : (log s rest : List E) → s ++ rest ≡ log → (c : Observation E) → IsTrueObservation home log c → (m : ℕ) → m ≤ c.drawn → m ≤ length s → notes_up_to m c.notes ≡ notes_of home c.shard 1 (take m s)
    observation_reads log s rest whole c h m l l' =
        let d : ℕ = c.drawn in
        let le = h.0 in
        let more = length-append s rest in
        let size = ap length whole in
        let front : take m log ≡ take m s = ap (take m) (sym whole) ∙ take-append-le m s rest l' in
        let inner : take m (take d log) ≡ take m log = sym (take-append-le m (take d log) (drop d log) (let a = length-take-le d log le in omega arith)) ∙ ap (take m) (take-append-drop d log) in
        let cut : take m (take d log) ++ drop m (take d log) ≡ take d log = take-append-drop m (take d log) in
        let short : length (take m (take d log)) ≡ m = length-take-le m (take d log) (let a = length-take-le d log le in omega arith) in
        ap (notes_up_to m) (h.1 ∙ ap (notes_of home c.shard 1) (sym cut)) ∙ (notes_up_to_front home c.shard m 1 (take m (take d log)) (drop m (take d log)) (omega arith) ∙ ap (notes_of home c.shard 1) (inner ∙ front))

    module _ (accepts : List (ℕ × E) → E → Type 0) where
      -- the log with an accepted note is legal, and so is each prefix of a legal log
      pub legal_on : (log : List E) (e : E) → IsLegal home accepts log → accepts (notes_of home (home e) 1 log) e → IsLegal home accepts (log ++ e ∷ [])
      legal_on log e legal ok n x at = ⊎_elim
          (λ (t : get_elem? log n ≡ some x). let l = at_less log n x t in subst (λ k. accepts (notes_of home (home x) 1 k) x) (sym (take-append-le n log (e ∷ []) (omega arith))) (legal n x t))
          (λ (t : (n ≡ length log) × (e ≡ x)). subst (λ (z : ℕ × E). accepts (notes_of home (home z.1) 1 (take z.0 (log ++ e ∷ []))) z.1) (λ i. (sym t.0 i, t.1 i))
          (subst (λ k. accepts (notes_of home (home e) 1 k) e) (sym (take-append_seam log (e ∷ []))) ok))
          (at_end log e x n at)

      pub legal_front : (s rest log : List E) → s ++ rest ≡ log → IsLegal home accepts log → IsLegal home accepts s
      legal_front s rest log whole legal n x at =
          let l = at_less s n x at in
          let there : get_elem? log n ≡ some x = subst (λ k. get_elem? k n ≡ some x) whole (at_longer s rest n x at) in
          subst (λ k. accepts (notes_of home (home x) 1 k) x) (ap (take n) (sym whole) ∙ take-append-le n s rest (omega arith)) (legal n x there)

  -- if a seat changes and keeps its part, no two have the same
  pub apart_set : (g : NotedView E → Option ℕ) (vs : List (NotedView E)) (id : ℕ) (v w : NotedView E) → get_elem? vs id ≡ some v → ((i : ℕ) → g w ≡ Some i → g v ≡ Some i) → IsApart g vs → IsApart g (set vs id w)
  apart_set g vs id v w at same apart j k i x y ex ey gx gy =
      let p = was j x i ex gx in let q = was k y i ey gy in apart j k i p.0 q.0 p.1 q.1 p.2 q.2
    where
      was : (j : ℕ) (x : NotedView E) (i : ℕ) → get_elem? (set vs id w) j ≡ some x → g x ≡ Some i → (z : NotedView E) × (get_elem? vs j ≡ some z) × (g z ≡ Some i)
      was j x i e is = ⊎_elim
          (λ (t : (j ≡ id) × (w ≡ x)). (v, subst (λ a. get_elem? vs a ≡ some v) (sym t.0) at, same i (ap g t.1 ∙ is)))
          (λ (t : (j ≢ id) × (get_elem? vs j ≡ some x)). (x, t.1, is))
          (at_set vs id j w x e)

  -- if a seat is added whose part no other has, no two have the same
  pub apart_snoc : (g : NotedView E → Option ℕ) (vs : List (NotedView E)) (w : NotedView E) → ((i j : ℕ) (x : NotedView E) → g w ≡ Some i → get_elem? vs j ≡ some x → g x ≡ Some i → ⊥) → IsApart g vs → IsApart g (vs ++ w ∷ [])
  apart_snoc g vs w new apart j k i x y ex ey gx gy = ⊎_elim
      (λ (t : get_elem? vs j ≡ some x). ⊎_elim
      (λ (u : get_elem? vs k ≡ some y). apart j k i x y t u gx gy)
      (λ (u : (k ≡ length vs) × (w ≡ y)). absurd (new i j x (ap g u.1 ∙ gy) t gx))
      (at_end vs w y k ey))
      (λ (t : (j ≡ length vs) × (w ≡ x)). ⊎_elim
      (λ (u : get_elem? vs k ≡ some y). absurd (new i k y (ap g t.1 ∙ gx) u gy))
      (λ (u : (k ≡ length vs) × (w ≡ y)). t.0 ∙ sym u.0)
      (at_end vs w y k ey))
      (at_end vs w x j ex)
