-- A lookup: a number for some places or for some callers, which is the index of an item or the place of a call.
use Rattle.std.specs.Prelude.{◌≡◌, ◌≢◌, ℕ, Option, Some, None}

abbrev pub Lookup : Type 0
Lookup = ℕ → Option ℕ

-- the same lookup but with nothing at p
pub record IsWithout (p : ℕ) (before after : Lookup) : Type 0 where
  pub gone : after p ≡ None
  pub others : (q : ℕ) → q ≢ p → after q ≡ before q

-- the same lookup but with this number at p
pub record IsWith (p number : ℕ) (before after : Lookup) : Type 0 where
  pub put : after p ≡ Some number
  pub others : (q : ℕ) → q ≢ p → after q ≡ before q
