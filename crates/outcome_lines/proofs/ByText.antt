-- Numbers by texts: what is counted, and the lowest.
use Rattle.std.proofs.Common.{◌++◌, ◌+◌, ◌<◌, ◌∙◌, ◌∷◌, ◌≡◌, ◌≤◌, ℕ, [], Bool, List, None, Option, Some, add-one, ap, append_assoc, cond, drop, false, get_or, length, refl, suc, sym, true, zero, arith}
use Rattle.std.specs.Prelude.{bytes_eq, nat_lt, unwrap_or, if◌then◌else◌}
use Rattle.std.specs.Cmp.Lexicographic.{bytes_decides, nat_list_eq_equiv}
use Rattle.std.specs.Global.{Vec}
use Rattle.std.proofs.Math.Seq.{drop-cons}
use Rattle.indexmap.specs.IndexMap.{insert_entry}
use Rattle.outcome_lines.specs.ObjectWords.{is_lower, lower, number_in, uid_if}
use Rattle.outcome_lines.proofs.Stored.{same_as}

inserted : (entries : List (Vec ℕ × ℕ)) (k : Vec ℕ) (n : ℕ) (t : List ℕ)
    → number_in (insert_entry same_as entries k n) t ≡ (if bytes_eq k.items t then Some n else number_in entries t)
inserted [] k n t = ap (λ b. cond b (Some n) None) (nat_list_eq_equiv.symm t k.items)
inserted (e ∷ es) k n t = go (inserted es k n t) (bytes_eq k.items e.0.items) refl
  where
    here : (b : Bool) → bytes_eq t e.0.items ≡ b → bytes_eq k.items t ≡ b
        → cond b (Some n) (number_in es t) ≡ (if bytes_eq k.items t then Some n else cond b (Some e.1) (number_in es t))
    here true is same = ap (λ b. if b then Some n else cond true (Some e.1) (number_in es t)) (sym same)
    here false is same = ap (λ b. if b then Some n else cond false (Some e.1) (number_in es t)) (sym same)

    there : (b c : Bool) → bytes_eq t e.0.items ≡ b → bytes_eq k.items t ≡ c → bytes_eq k.items e.0.items ≡ false
        → cond b (Some e.1) (if c then Some n else number_in es t) ≡ (if c then Some n else cond b (Some e.1) (number_in es t))
    there true true is same apart =
        let equal : bytes_eq k.items e.0.items ≡ true = ap (λ x. bytes_eq x e.0.items) ((bytes_decides k.items t).0 same) ∙ is in
        absurd cc
    there true false is same apart = refl
    there false true is same apart = refl
    there false false is same apart = refl

    go : number_in (insert_entry same_as es k n) t ≡ (if bytes_eq k.items t then Some n else number_in es t)
        → (b : Bool) → bytes_eq k.items e.0.items ≡ b
        → number_in (if b then (e.0, n) ∷ es else e ∷ insert_entry same_as es k n) t ≡ (if bytes_eq k.items t then Some n else cond (bytes_eq t e.0.items) (Some e.1) (number_in es t))
    go rest true same =
        let key = (bytes_decides k.items e.0.items).0 same in
        here (bytes_eq t e.0.items) refl (ap (λ x. bytes_eq x t) key ∙ nat_list_eq_equiv.symm e.0.items t)
    go rest false apart =
        ap (λ o. cond (bytes_eq t e.0.items) (Some e.1) o) rest
        ∙ there (bytes_eq t e.0.items) (bytes_eq k.items t) refl refl apart

pub number_set : (entries after : List (Vec ℕ × ℕ)) (k : Vec ℕ) (x : List ℕ) (n : ℕ) → after ≡ insert_entry same_as entries k n → k.items ≡ x
    → (t : List ℕ) → number_in after t ≡ (if bytes_eq x t then Some n else number_in entries t)
number_set entries after k x n e same t =
    ap (λ es. number_in es t) e ∙ inserted entries k n t ∙ ap (λ y. if bytes_eq y t then Some n else number_in entries t) same

-- a text that is counted once more
pub counted_once : (old new : List ℕ → Option ℕ) (x : List ℕ) (more : ℕ) → more ≡ unwrap_or (old x) 0 + 1
    → ((t : List ℕ) → new t ≡ (if bytes_eq x t then Some more else old t))
    → (t : List ℕ) → unwrap_or (new t) 0 ≡ (if bytes_eq x t then 1 else 0) + unwrap_or (old t) 0
counted_once old new x more is sets t = ap (λ o. unwrap_or o 0) (sets t) ∙ go (bytes_eq x t) refl
  where
    go : (b : Bool) → bytes_eq x t ≡ b → unwrap_or (if b then Some more else old t) 0 ≡ (if b then 1 else 0) + unwrap_or (old t) 0
    go true same =
        let here : unwrap_or (old x) 0 ≡ unwrap_or (old t) 0 = ap (λ y. unwrap_or (old y) 0) ((bytes_decides x t).0 same) in
        omega (arith, is, here)
    go false differs = omega arith

pub lower_none : (x : Option ℕ) → lower x None ≡ x
lower_none None = refl
lower_none (Some m) = refl

-- a lower number is noted
pub lowered : (old new : List ℕ → Option ℕ) (x : List ℕ) (n : ℕ) → is_lower n (old x) ≡ true
    → ((t : List ℕ) → new t ≡ (if bytes_eq x t then Some n else old t)) → (t : List ℕ) → new t ≡ lower (old t) (uid_if (bytes_eq x t) n)
lowered old new x n less sets t = sets t ∙ go (bytes_eq x t) refl
  where
    by : (o : Option ℕ) → is_lower n o ≡ true → Some n ≡ lower o (Some n)
    by None e = refl
    by (Some m) e = ap (λ b. if b then Some n else Some m) (sym e)

    go : (b : Bool) → bytes_eq x t ≡ b → (if b then Some n else old t) ≡ lower (old t) (uid_if b n)
    go true same = by (old t) (ap (λ y. is_lower n (old y)) (sym ((bytes_decides x t).0 same)) ∙ less)
    go false differs = sym (lower_none (old t))

-- another is not
pub kept : (old new : List ℕ → Option ℕ) (x : List ℕ) (n : ℕ) → is_lower n (old x) ≡ false
    → ((t : List ℕ) → new t ≡ old t) → (t : List ℕ) → new t ≡ lower (old t) (uid_if (bytes_eq x t) n)
kept old new x n not_less stays t = stays t ∙ go (bytes_eq x t) refl
  where
    by : (o : Option ℕ) → is_lower n o ≡ false → o ≡ lower o (Some n)
    by None e = absurd cc
    by (Some m) e = ap (λ b. if b then Some n else Some m) (sym e)

    go : (b : Bool) → bytes_eq x t ≡ b → old t ≡ lower (old t) (uid_if b n)
    go true same = by (old t) (ap (λ y. is_lower n (old y)) (sym ((bytes_decides x t).0 same)) ∙ not_less)
    go false differs = sym (lower_none (old t))

less_next : (l m n : ℕ) (b c : Bool) → nat_lt m l ≡ b → nat_lt n m ≡ c → lower (if b then Some m else Some l) (Some n) ≡ lower (Some l) (if c then Some n else Some m)
less_next l m n true true f g = grind (arith, f, g)
less_next l m n true false f g = grind (arith, f, g)
less_next l m n false true f g = grind (arith, f, g)
less_next l m n false false f g = grind (arith, f, g)

pub lower_turns : (x y z : Option ℕ) → lower (lower x y) z ≡ lower x (lower y z)
lower_turns None y z = refl
lower_turns (Some l) None z = refl
lower_turns (Some l) (Some m) None = lower_none (lower (Some l) (Some m))
lower_turns (Some l) (Some m) (Some n) = less_next l m n (nat_lt m l) (nat_lt n m) refl refl

-- ---- loops: what is added, counted or noted, and what is left

pub dropped : {X : Type 0} (xs : List X) (at : ℕ) (x : X) → at < length xs → x ≡ get_or xs at x → drop at xs ≡ x ∷ drop (at + 1) xs
dropped xs at x inside is = drop-cons xs at x inside ∙ ap (λ y. y ∷ drop (suc at) xs) (sym is) ∙ ap (λ n. x ∷ drop n xs) (sym (add-one at))

drop_none : {X : Type 0} (xs : List X) (at : ℕ) → length xs ≤ at → drop at xs ≡ []
drop_none [] zero over = refl
drop_none [] (suc n) over = refl
drop_none (x ∷ xs) zero over = absurd (omega (arith, over))
drop_none (x ∷ xs) (suc n) over = drop_none xs n (omega (arith, over))

module _ {X Y : Type 0} (part : X → List Y) (rest : List X → List Y) (xs : List X) (at : ℕ) where
  pub adds_on : ((x : X) (ys : List X) → rest (x ∷ ys) ≡ part x ++ rest ys) → (x : X) → at < length xs → x ≡ get_or xs at x
      → (before after whole : List Y) → after ≡ before ++ part x → before ++ rest (drop at xs) ≡ whole → after ++ rest (drop (at + 1) xs) ≡ whole
  adds_on cons x inside is before after whole adds h =
      ap (λ l. l ++ rest (drop (at + 1) xs)) adds
      ∙ append_assoc before (part x) (rest (drop (at + 1) xs))
      ∙ ap (λ l. before ++ l) (sym (cons x (drop (at + 1) xs)))
      ∙ ap (λ ys. before ++ rest ys) (sym (dropped xs at x inside is))
      ∙ h

module _ {X : Type 0} (part : X → List ℕ → ℕ) (rest : List X → List ℕ → ℕ) (xs : List X) (at : ℕ) where
  pub counts_on : ((x : X) (ys : List X) (t : List ℕ) → rest (x ∷ ys) t ≡ part x t + rest ys t) → (x : X) → at < length xs → x ≡ get_or xs at x
      → (before after whole : List ℕ → ℕ) → ((t : List ℕ) → after t ≡ part x t + before t) → ((t : List ℕ) → rest (drop at xs) t + before t ≡ whole t)
      → (t : List ℕ) → rest (drop (at + 1) xs) t + after t ≡ whole t
  counts_on cons x inside is before after whole notes h t =
      let here : rest (drop at xs) t ≡ rest (x ∷ drop (at + 1) xs) t = ap (λ ys. rest ys t) (dropped xs at x inside is) in
      omega (arith, here, cons x (drop (at + 1) xs) t, notes t, h t)

  pub counts_end : ((t : List ℕ) → rest [] t ≡ 0) → length xs ≤ at → (after whole : List ℕ → ℕ) → ((t : List ℕ) → rest (drop at xs) t + after t ≡ whole t)
      → (t : List ℕ) → after t ≡ whole t
  counts_end none over after whole h t =
      let here : rest (drop at xs) t ≡ rest [] t = ap (λ ys. rest ys t) (drop_none xs at over) in
      omega (arith, here, none t, h t)

module _ {X : Type 0} (part : X → List ℕ → Option ℕ) (rest : List X → List ℕ → Option ℕ) (xs : List X) (at : ℕ) where
  pub firsts_on : ((x : X) (ys : List X) (t : List ℕ) → rest (x ∷ ys) t ≡ lower (part x t) (rest ys t)) → (x : X) → at < length xs → x ≡ get_or xs at x
      → (before after whole : List ℕ → Option ℕ) → ((t : List ℕ) → after t ≡ lower (before t) (part x t)) → ((t : List ℕ) → lower (before t) (rest (drop at xs) t) ≡ whole t)
      → (t : List ℕ) → lower (after t) (rest (drop (at + 1) xs) t) ≡ whole t
  firsts_on cons x inside is before after whole notes h t =
      ap (λ y. lower y (rest (drop (at + 1) xs) t)) (notes t)
      ∙ lower_turns (before t) (part x t) (rest (drop (at + 1) xs) t)
      ∙ ap (lower (before t)) (sym (cons x (drop (at + 1) xs) t))
      ∙ ap (λ ys. lower (before t) (rest ys t)) (sym (dropped xs at x inside is))
      ∙ h t

  pub firsts_end : ((t : List ℕ) → rest [] t ≡ None) → length xs ≤ at → (after whole : List ℕ → Option ℕ) → ((t : List ℕ) → lower (after t) (rest (drop at xs) t) ≡ whole t)
      → (t : List ℕ) → after t ≡ whole t
  firsts_end none over after whole h t =
      sym (lower_none (after t)) ∙ ap (lower (after t)) (sym (ap (λ ys. rest ys t) (drop_none xs at over) ∙ none t)) ∙ h t
