-- The least and the greatest numbers with a property.
use Rattle.std.specs.Prelude.{ℕ, ◌≤◌}

pub record IsLeast (P : ℕ → Type 0) (i : ℕ) : Type 0 where
  pub holds : P i
  pub least : (j : ℕ) → P j → i ≤ j

pub record IsGreatest (P : ℕ → Type 0) (i : ℕ) : Type 0 where
  pub holds : P i
  pub greatest : (j : ℕ) → P j → j ≤ i
