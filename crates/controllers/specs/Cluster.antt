-- What a cluster is made of.
use Rattle.std.specs.Prelude.{ℕ, List, [], ◌∷◌, ◌++◌, bytes_eq, slice_get, if◌then◌else◌}
use Rattle.std.specs.List.{list_any}
use Rattle.std.specs.Option.{option_map_or}
use Rattle.objects.specs.declared.kind.Kind.TheVariants.{StatefulSet}
use Rattle.objects.specs.Key.{key_parts}
use Rattle.interleavings.specs.World.{Size}
use Rattle.rounds.specs.Reconciler.{Reconciler}
use Rattle.controllers.specs.Reconciler.{reconciler_with}
use Rattle.controllers.specs.declared.cluster_spec.ClusterSpec.{ClusterSpec}
use Rattle.controllers.specs.declared.set_spec.SetSpec.{SetSpec}

abbrev pub size_of : ClusterSpec → Size
size_of spec = record { capacity = spec.capacity; shards = spec.shards }

abbrev pub reconciler_for : SetSpec → Reconciler
reconciler_for spec = reconciler_with (key_parts StatefulSet spec.namespace spec.name) spec.digits spec.moment

-- the reconciler of the controller with this number; after the last controller, one of a set without a name
unfoldable pub reconciler_named : List SetSpec → ℕ → Reconciler
reconciler_named sets n = option_map_or reconciler_for (slice_get sets n) (reconciler_with (key_parts StatefulSet [] []) 1 [])

-- the namespaces of the sets, each once, in the order of the first mention
abbrev pub with_namespace : List (List ℕ) → SetSpec → List (List ℕ)
with_namespace found spec = if list_any (λ s. bytes_eq s spec.namespace) found then found else found ++ spec.namespace ∷ []

abbrev pub namespaces_from : List (List ℕ) → List SetSpec → List (List ℕ)
namespaces_from found [] = found
namespaces_from found (spec ∷ specs) = namespaces_from (with_namespace found spec) specs

abbrev pub namespaces_of : List SetSpec → List (List ℕ)
namespaces_of specs = namespaces_from [] specs
