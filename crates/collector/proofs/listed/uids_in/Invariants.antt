use Rattle.std.proofs.Common.{◌≡◌, ◌||◌, ℕ, drop, map}
use Rattle.std.specs.BTreeSet.{contains}
use Rattle.std.specs.Ordering.{nat_cmp}
use Rattle.collector.specs.Collectable.{is_listed}
use Rattle.collector.proofs.listed.uids_in.Given as goal

abbrev pub invariant-loop-list : goal.invariant-loop-list
invariant-loop-list l =
    (n : ℕ) → (contains nat_cmp l.uids n || is_listed (map (λ list. list.now) (drop l.list-index l.lists)) n) ≡ is_listed (map (λ list. list.now) l.lists) n
