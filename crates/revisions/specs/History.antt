-- Which revisions a plan deletes for a set (Kubernetes API reference, apps/v1, StatefulSetSpec: revisionHistoryLimit;
-- "StatefulSets": "Revision history").
use Rattle.std.specs.Prelude.{ℕ, ◌-◌, Bool, false, not, ◌&&◌, ◌||◌, List, length, take, bytes_eq}
use Rattle.std.specs.List.{filter, list_any}
use Rattle.std.specs.Option.{option_map_or}
use Rattle.objects.specs.declared.object.Object.{Object}
use Rattle.set_views.specs.Pod.{PodParts}
use Rattle.set_views.specs.Set.{SetParts}
use Rattle.set_views.specs.Predicates.{owns_pod}

-- a pod that the set controls was made from the revision of that name
abbrev pub has_pod : SetParts → List PodParts → List ℕ → Bool
has_pod set pods name = list_any (λ pod. owns_pod set pod && option_map_or (bytes_eq name) pod.revision false) pods

-- the current and the update revision are live, and those of the set's pods
abbrev pub is_live : SetParts → List PodParts → List ℕ → List ℕ → List ℕ → Bool
is_live set pods current update name = has_pod set pods name || (bytes_eq name update || bytes_eq name current)

-- the others are history
abbrev pub history : SetParts → List PodParts → List ℕ → List ℕ → List Object → List Object
history set pods current update owned = filter (λ o. not (is_live set pods current update o.key.name)) owned

abbrev pub all_but_last : ℕ → List Object → List Object
all_but_last n os = take (length os - n) os

-- all of these are deleted but the last in their order, as many as the limit
abbrev pub expired_revisions : SetParts → List PodParts → List ℕ → List ℕ → List Object → List Object
expired_revisions set pods current update owned = all_but_last set.history_limit (history set pods current update owned)
