-- The first free name, one count after another.
use Rattle.std.proofs.Common.{◌≡◌, ℕ, suc, ◌+◌, List, Bool, true, false, not, cond, Some, None, map, find, ap, ◌∙◌}
use Rattle.std.specs.List.{range_with_len}
use Rattle.revisions.specs.Name.{first_free}

pub free_none : (held : List ℕ → Bool) (name : ℕ → List ℕ) (k n : ℕ) → n ≡ 0 → first_free held name k n ≡ None
unfolding first_free
free_none held name k n is = ap (λ m. find (λ s. not (held s)) (map name (range_with_len k m))) is

pub free_found : (held : List ℕ → Bool) (name : ℕ → List ℕ) (k n m : ℕ) → n ≡ suc m → held (name k) ≡ false → first_free held name k n ≡ Some (name k)
unfolding first_free
free_found held name k n m is free =
    ap (λ m. find (λ s. not (held s)) (map name (range_with_len k m))) is
    ∙ ap (λ b. cond (not b) (Some (name k)) (find (λ s. not (held s)) (map name (range_with_len (k + 1) m)))) free

pub free_step : (held : List ℕ → Bool) (name : ℕ → List ℕ) (k n m : ℕ) → n ≡ suc m → held (name k) ≡ true → first_free held name k n ≡ first_free held name (k + 1) m
unfolding first_free
free_step held name k n m is taken =
    ap (λ m. find (λ s. not (held s)) (map name (range_with_len k m))) is
    ∙ ap (λ b. cond (not b) (Some (name k)) (find (λ s. not (held s)) (map name (range_with_len (k + 1) m)))) taken
