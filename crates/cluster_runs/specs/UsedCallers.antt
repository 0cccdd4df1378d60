-- What the program keeps about the callers that were used.
use Rattle.std.specs.Prelude.{◌≡◌, ◌==◌, ◌<◌, ◌≤◌, ℕ, false, true, List, length, Option, Some, None, slice_index, IfSome, if◌then◌else◌}
use Rattle.std.specs.BTreeMap.{btree_map_len, get}
use Rattle.std.specs.List.{list_any}
use Rattle.std.specs.Ordering.{nat_cmp}
use Rattle.rounds.specs.Transcript.{Incarnation}
use Rattle.cluster_runs.specs.Cluster.{Cluster}
use Rattle.cluster_runs.specs.declared.callers.UsedCallers.{UsedCallers}
pub use Rattle.cluster_runs.specs.Ran.{owner}

-- Each controller's caller is its own, each owner exists, and a caller that was not used has no incarnation.
pub record HoldsCallers (count : ℕ) (present : ℕ → ℕ) (used : List ℕ) (incarnations : ℕ → Option Incarnation) (callers : UsedCallers) : Type 0 where
  pub count_is : length callers.present.items ≡ count
  pub present_is : (c : ℕ) → c < count → slice_index callers.present.items c ≡ present c
  pub owners : (n : ℕ) → get nat_cmp callers.owners n ≡ (if list_any (λ m. m == n) used then Some (owner incarnations n) else None)
  pub many : btree_map_len callers.owners ≡ length used
  pub few : length used ≤ 4096
  pub below : (n : ℕ) → n < callers.unused → list_any (λ m. m == n) used ≡ true
  pub own : (c : ℕ) → c < count → owner incarnations (present c) ≡ Some c
  pub there : (n : ℕ) → IfSome (owner incarnations n) (λ c. c < count)
  pub unborn : (n : ℕ) → list_any (λ m. m == n) used ≡ false → incarnations n ≡ None

abbrev pub AreCallers : ℕ → Cluster → UsedCallers → Type 0
AreCallers count k callers = HoldsCallers count k.callers k.used k.incarnations callers
