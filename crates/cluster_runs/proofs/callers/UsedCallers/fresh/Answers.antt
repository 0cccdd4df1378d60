use Rattle.std.proofs.Common.{◌≡◌, ◌<◌, ◌≤◌, ℕ, true, ap, Option, Some, None, refl}
use Rattle.std.specs.Prelude.{IfSome, is_some}
use Rattle.std.specs.BTreeMap.{get}
use Rattle.std.specs.Ordering.{nat_cmp}
use Rattle.cluster_runs.specs.UsedCallers.{AreCallers}
use Rattle.cluster_runs.specs.Cluster.{Cluster, lowest_unused}
use Rattle.cluster_runs.specs.declared.callers.UsedCallers.{UsedCallers}
use Rattle.cluster_runs.proofs.Calling.{lowest_here, none_left}
use Rattle.cluster_runs.proofs.callers.UsedCallers.fresh.Goals as goal

abbrev AreUsed : UsedCallers → ℕ → Type 0
AreUsed callers n = (m : ℕ) → callers.unused ≤ m → m < n → is_some (get nat_cmp callers.owners m) ≡ true

lowest : (count : ℕ) (k : Cluster) (callers : UsedCallers) → AreCallers count k callers → (r : Option ℕ) → IfSome r (λ n. get nat_cmp callers.owners n ≡ None) → IfSome r (AreUsed callers)
    → (r ≡ None → AreUsed callers 4097) → r ≡ Some (lowest_unused k)
lowest count k callers are None free used none = absurd (none_left count k callers are (none refl))
lowest count k callers are (Some n) free used none = ap Some (lowest_here count k callers are n free used)

pub returns : goal.returns
returns c = λ count k are. lowest count k c.args.self.now are c.unused_below.result c.unused_below.ensures.fresh c.unused_below.ensures.lowest c.unused_below.ensures.none
