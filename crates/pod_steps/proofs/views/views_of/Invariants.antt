use Rattle.std.proofs.Common.{◌≡◌, ℕ, List, filter, take}
use Rattle.objects.specs.declared.kind.Kind.TheVariants as kinds
use Rattle.set_views.specs.Firsts.{is_held}
use Rattle.set_views.specs.Set.{set_parts}
use Rattle.set_views.specs.Predicates.{in_namespace}
use Rattle.set_views.proofs.NameSets.{has_name}
use Rattle.pod_steps.specs.Views.{AreViews, listed_pods}
use Rattle.pod_steps.proofs.views.views_of.Given as goal

abbrev pub invariant-loop-object : goal.invariant-loop-object
invariant-loop-object l =
    ((q : List ℕ) → has_name q l.names.keys ≡ is_held (filter (in_namespace (set_parts l.set) kinds.Pod) (take l.object-index l.objects)) q)
    × AreViews (listed_pods (set_parts l.set) (take l.object-index l.objects)) l.views.items
