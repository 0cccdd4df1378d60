-- Lists of texts, and which keys are there.
use Rattle.std.proofs.Common.{◌++◌, ◌||◌, ◌∙◌, ◌∷◌, ◌≡◌, ℕ, [], Bool, List, ap, codes, decimal, false, refl, sym, true}
use Rattle.std.specs.Prelude.{bytes_eq, if◌then◌else◌}
use Rattle.std.specs.Cmp.Lexicographic.{bytes_decides}
use Rattle.std.specs.Global.{Vec}
use Rattle.std.specs.List.{list_any}
use Rattle.json.specs.Token.{Token, key, number}
use Rattle.outcome_lines.specs.Brief.{is_among}
use Rattle.outcome_lines.specs.ObjectWords.{lists_in}

pub of_revision : (before : List Token) (n m : ℕ) → n ≡ m
    → before ++ key (codes "revision") ∷ number (decimal n) ∷ [] ≡ before ++ key (codes "revision") ∷ number (decimal m) ∷ []
of_revision before n m e = ap (λ v. before ++ key (codes "revision") ∷ number (decimal v) ∷ []) e

abbrev pub same_as : Vec ℕ → Vec ℕ → Bool
same_as k l = bytes_eq k.items l.items

pub any_same : (keys : List (Vec ℕ)) (k : Vec ℕ) → list_any (same_as k) keys ≡ is_among (lists_in keys) k.items
any_same [] k = refl
any_same (l ∷ keys) k = ap (λ b. same_as k l || b) (any_same keys k)

pub lists_push : (keys : List (Vec ℕ)) (k : Vec ℕ) → lists_in (keys ++ k ∷ []) ≡ lists_in keys ++ k.items ∷ []
lists_push [] k = refl
lists_push (x ∷ keys) k = ap (λ l. x.items ∷ l) (lists_push keys k)

or_true : (b : Bool) → b || true ≡ true
or_true true = refl
or_true false = refl

or_turned : (b c d : Bool) → b || (c || d) ≡ c || (b || d)
or_turned true true d = refl
or_turned true false d = refl
or_turned false true d = refl
or_turned false false d = refl

-- at the end as at the beginning
among_push : (texts : List (List ℕ)) (k t : List ℕ) → is_among (texts ++ k ∷ []) t ≡ (bytes_eq t k || is_among texts t)
among_push [] k t = refl
among_push (x ∷ texts) k t = ap (λ b. bytes_eq t x || b) (among_push texts k t) ∙ or_turned (bytes_eq t x) (bytes_eq t k) (is_among texts t)

-- one that is there already
among_twice : (texts : List (List ℕ)) (k t : List ℕ) → is_among texts k ≡ true → is_among texts t ≡ (bytes_eq t k || is_among texts t)
among_twice texts k t there = go (bytes_eq t k) refl
  where
    go : (b : Bool) → bytes_eq t k ≡ b → is_among texts t ≡ (b || is_among texts t)
    go true same = ap (is_among texts) ((bytes_decides t k).0 same) ∙ there
    go false differs = refl

-- what is put among keys is put among what they hold
pub among_put : (keys after : List (Vec ℕ)) (k : Vec ℕ) → after ≡ (if list_any (same_as k) keys then keys else keys ++ k ∷ [])
    → (t : List ℕ) → is_among (lists_in after) t ≡ (bytes_eq t k.items || is_among (lists_in keys) t)
among_put keys after k e t = ap (λ ks. is_among (lists_in ks) t) e ∙ put (list_any (same_as k) keys) refl
  where
    put : (b : Bool) → list_any (same_as k) keys ≡ b
        → is_among (lists_in (if b then keys else keys ++ k ∷ [])) t ≡ (bytes_eq t k.items || is_among (lists_in keys) t)
    put true there = among_twice (lists_in keys) k.items t (sym (any_same keys k) ∙ there)
    put false new = ap (λ ls. is_among ls t) (lists_push keys k) ∙ among_push (lists_in keys) k.items t
