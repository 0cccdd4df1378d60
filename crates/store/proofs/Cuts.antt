-- Lists of notes, cut at a number.
use Rattle.std.proofs.Common.{◌≡◌, ℕ, zero, suc, ◌-◌, ◌<◌, ◌≤◌, Bool, true, false, List, [], ◌∷◌, ◌++◌, length, take, drop, refl, sym, ap, ◌∙◌, subst, eqb, arith}
use Rattle.std.specs.Prelude.{leb}
use Rattle.std.proofs.lemmas.Bool.{leb-true, le-leb}
use Rattle.std.proofs.lemmas.List.{length-take-le, take-append-drop}
use mathlib.Core.Option.{some, some-injective, some-ne-none}
use lib.ListN.{get_elem?}
use Rattle.line.specs.Notes.{keep, notes_of, notes_up_to}
use Rattle.line.proofs.Logs.{notes_up_to_front}

leb_no : (a b : ℕ) → b < a → leb a b ≡ false
leb_no a b l = by_case (leb a b) refl
  where
    by_case : (t : Bool) → leb a b ≡ t → leb a b ≡ false
    by_case true e = absurd (let k = leb-true a b e in omega arith)
    by_case false e = e

pub at_last : {A : Type 0} (l : List A) (a : A) (n : ℕ) → length l ≡ n → get_elem? (l ++ a ∷ []) n ≡ some a
at_last [] a zero e = refl
at_last [] a (suc n) e = absurd (omega arith)
at_last (x ∷ xs) a zero e = absurd (omega arith)
at_last (x ∷ xs) a (suc n) e = at_last xs a n (omega arith)

module _ {E : Type 0} where
  pub notes_up_to-append : (m : ℕ) (xs ys : List (ℕ × E)) → notes_up_to m (xs ++ ys) ≡ notes_up_to m xs ++ notes_up_to m ys
  notes_up_to-append m [] ys = refl
  notes_up_to-append m (x ∷ xs) ys = by (leb x.0 m) (notes_up_to-append m xs ys)
    where
      by : (b : Bool) → notes_up_to m (xs ++ ys) ≡ notes_up_to m xs ++ notes_up_to m ys → keep b x (notes_up_to m (xs ++ ys)) ≡ keep b x (notes_up_to m xs) ++ notes_up_to m ys
      by true e = ap (λ l. x ∷ l) e
      by false e = e

  pub upto_one : (m n : ℕ) (e : E) → n ≤ m → notes_up_to m ((n, e) ∷ []) ≡ (n, e) ∷ []
  upto_one m n e le = ap (λ b. keep b (n, e) []) (le-leb n m le)

  pub upto_over : (m n : ℕ) (e : E) → m < n → notes_up_to m ((n, e) ∷ []) ≡ []
  upto_over m n e lt = ap (λ b. keep b (n, e) []) (leb_no n m lt)

  upto_short : (d : ℕ) (ps : List (ℕ × E)) → length (notes_up_to d ps) ≤ length ps
  upto_short d [] = omega arith
  upto_short d (p ∷ ps) = by (leb p.0 d) (upto_short d ps)
    where
      by : (b : Bool) → length (notes_up_to d ps) ≤ length ps → length (keep b p (notes_up_to d ps)) ≤ suc (length ps)
      by true le = omega arith
      by false le = omega arith

  pub all_first : (d : ℕ) (p : ℕ × E) (ps : List (ℕ × E)) → notes_up_to d (p ∷ ps) ≡ p ∷ ps → (p.0 ≤ d) × (notes_up_to d ps ≡ ps)
  all_first d p ps e = by (leb p.0 d) refl e
    where
      by : (b : Bool) → leb p.0 d ≡ b → keep b p (notes_up_to d ps) ≡ p ∷ ps → (p.0 ≤ d) × (notes_up_to d ps ≡ ps)
      by true q is = (leb-true p.0 d q, cc is)
      by false q is = absurd (let l = upto_short d ps in let s = ap length is in omega arith)

  -- notes that are all up to a number are all up to a greater one
  pub upto_more : (d n : ℕ) (ps : List (ℕ × E)) → notes_up_to d ps ≡ ps → d ≤ n → notes_up_to n ps ≡ ps
  upto_more d n [] e le = refl
  upto_more d n (p ∷ ps) e le = let a = all_first d p ps e in let first = a.0 in ap (λ b. keep b p (notes_up_to n ps)) (le-leb p.0 n (omega arith)) ∙ ap (λ l. p ∷ l) (upto_more d n ps a.1 le)

  -- and the last of it is up to that number
  pub last_upto : (d n : ℕ) (ps : List (ℕ × E)) (e : E) → notes_up_to d (ps ++ (n, e) ∷ []) ≡ ps ++ (n, e) ∷ [] → n ≤ d
  last_upto d n [] e is = (all_first d (n, e) [] is).0
  last_upto d n (p ∷ ps) e is = last_upto d n ps e (all_first d p (ps ++ (n, e) ∷ []) is).1

  pub upto_twice : (m n : ℕ) (ps : List (ℕ × E)) → m ≤ n → notes_up_to m (notes_up_to n ps) ≡ notes_up_to m ps
  upto_twice m n [] le = refl
  upto_twice m n (p ∷ ps) le = by (leb p.0 n) refl (leb p.0 m) refl (upto_twice m n ps le)
    where
      by : (b : Bool) → leb p.0 n ≡ b → (c : Bool) → leb p.0 m ≡ c → notes_up_to m (notes_up_to n ps) ≡ notes_up_to m ps → notes_up_to m (keep b p (notes_up_to n ps)) ≡ keep c p (notes_up_to m ps)
      by true q c r e = ap (λ d. keep d p (notes_up_to m (notes_up_to n ps))) r ∙ ap (keep c p) e
      by false q true r e = absurd (let a = leb-true p.0 m r in let f = ap (λ (b : Bool). b) (sym q ∙ le-leb p.0 n (omega arith)) in no f)
        where
          no : false ≡ true → ⊥
          no x = cc x
      by false q false r e = e

  -- a note of a log is at its number
  pub stood_at : (f : E → ℕ) (i s : ℕ) (xs : List E) (j n : ℕ) (e : E) → get_elem? (notes_of f i s xs) j ≡ some (n, e) → (s ≤ n) × (get_elem? xs (n - s) ≡ some e)
  stood_at f i s [] j n e at = absurd (some-ne-none (n, e) (sym at))
  stood_at f i s (x ∷ xs) j n e at = by (eqb (f x) i) j at (λ k h. stood_at f i (suc s) xs k n e h)
    where
      Later : Type 0
      Later = (j : ℕ) → get_elem? (notes_of f i (suc s) xs) j ≡ some (n, e) → (suc s ≤ n) × (get_elem? xs (n - suc s) ≡ some e)

      later : Later → (j : ℕ) → get_elem? (notes_of f i (suc s) xs) j ≡ some (n, e) → (s ≤ n) × (get_elem? (x ∷ xs) (n - s) ≡ some e)
      later ih j at' = let t = ih j at' in let le = t.0 in (omega arith, subst (λ k. get_elem? (x ∷ xs) k ≡ some e) (let q : suc (n - suc s) ≡ n - s = omega arith in q) t.1)

      by : (b : Bool) (j : ℕ) → get_elem? (keep b (s, x) (notes_of f i (suc s) xs)) j ≡ some (n, e) → Later → (s ≤ n) × (get_elem? (x ∷ xs) (n - s) ≡ some e)
      by true zero at' ih = let p = some-injective _ _ at' in let num : s ≡ n = ap (λ (q : ℕ × E). q.0) p in (omega arith, subst (λ k. get_elem? (x ∷ xs) k ≡ some e) (let z : 0 ≡ n - s = omega arith in z) (ap some (ap (λ (q : ℕ × E). q.1) p)))
      by true (suc j) at' ih = later ih j at'
      by false j at' ih = later ih j at'

  -- what is in a prefix of what is in a log
  pub stood_take : (f : E → ℕ) (i m : ℕ) (h : List E) (ps : List (ℕ × E)) → m ≤ length h → notes_up_to (length h) ps ≡ notes_of f i 1 h → notes_up_to m ps ≡ notes_of f i 1 (take m h)
  stood_take f i m h ps le is =
      sym (upto_twice m (length h) ps le) ∙ (ap (notes_up_to m) is ∙ (ap (λ l. notes_up_to m (notes_of f i 1 l)) (sym (take-append-drop m h))
      ∙ notes_up_to_front f i m 1 (take m h) (drop m h) (let l = length-take-le m h le in omega arith)))
