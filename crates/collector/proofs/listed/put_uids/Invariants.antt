use Rattle.std.proofs.Common.{◌≡◌, ◌==◌, ◌||◌, ℕ, drop}
use Rattle.std.specs.List.{list_any}
use Rattle.std.specs.BTreeSet.{contains}
use Rattle.std.specs.Ordering.{nat_cmp}
use Rattle.objects.specs.declared.object.Object.{Object}
use Rattle.collector.proofs.listed.put_uids.Given as goal

abbrev pub invariant-loop-object : goal.invariant-loop-object
invariant-loop-object l =
    (n : ℕ) → (contains nat_cmp l.uids n || list_any (λ (o : Object). o.meta.uid == n) (drop l.object-index l.objects))
    ≡ (contains nat_cmp l.fn.uids n || list_any (λ (o : Object). o.meta.uid == n) l.objects)
