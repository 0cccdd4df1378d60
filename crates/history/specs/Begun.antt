-- The reads that have begun and are not over.
use Rattle.std.specs.Prelude.{◌≡◌, ℕ, ◌≤◌, Bool, true}
use Rattle.std.specs.BTreeSet.{contains}
use Rattle.std.specs.declared.cmp.Ordering.{Ordering}
use Rattle.std.specs.Ordering.{nat_cmp, ordering_then}
use Rattle.history.specs.declared.open_reads.OpenReads.{OpenReads}

-- by the numbers, and then by the callers
abbrev pub read_cmp : ℕ × ℕ → ℕ × ℕ → Ordering
read_cmp x y = ordering_then (nat_cmp x.0 y.0) (nat_cmp x.1 y.1)

-- whether the caller reads at the number
abbrev pub is_open : OpenReads → (number caller : ℕ) → Bool
is_open open_reads number caller = contains read_cmp open_reads.reads (number, caller)

-- the least of a floor and of the numbers at which any caller reads
pub record IsLeastOf (open_reads : OpenReads) (floor least : ℕ) : Type 0 where
  pub low : least ≤ floor
  pub reads : (n c : ℕ) → is_open open_reads n c ≡ true → least ≤ n
  pub greatest : (k : ℕ) → k ≤ floor → ((n c : ℕ) → is_open open_reads n c ≡ true → k ≤ n) → k ≤ least
