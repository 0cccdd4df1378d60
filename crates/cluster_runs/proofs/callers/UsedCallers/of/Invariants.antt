use Rattle.std.proofs.Common.{◌≡◌, ◌<◌, ℕ, cond, length, None, Some}
use Rattle.std.specs.Prelude.{nat_lt, slice_index}
use Rattle.std.specs.BTreeMap.{btree_map_len, get}
use Rattle.std.specs.Ordering.{nat_cmp}
use Rattle.cluster_runs.proofs.callers.UsedCallers.of.Given as goal

abbrev pub invariant-loop-number : goal.invariant-loop-number
invariant-loop-number l = (length l.callers.present.items ≡ l.number) × ((c : ℕ) → c < l.number → slice_index l.callers.present.items c ≡ c)
    × ((n : ℕ) → get nat_cmp l.callers.owners n ≡ cond (nat_lt n l.number) (Some (Some n)) None) × (btree_map_len l.callers.owners ≡ l.number)
    × (l.callers.unused ≡ 0)
