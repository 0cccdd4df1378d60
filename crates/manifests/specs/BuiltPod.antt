-- The Pod that a plan makes from a revision (Kubernetes API reference, core/v1: Pod, PodSpec; "StatefulSets": "Pod
-- Identity", "Pod Name Label" and "Pod index label").
use Rattle.std.specs.Prelude.{ℕ, List, length, nat_le, codes, decimal, option_map, Result}
use Rattle.serde_json.specs.Data.{string, object, Members, no_members, member, put}
use Rattle.objects.specs.declared.kind.Kind.TheVariants.{Pod}
use Rattle.objects.specs.declared.object.Object.{Object}
use Rattle.objects.specs.Key.{key_parts}
use Rattle.objects.specs.Names.{most_label}
use Rattle.objects.specs.New.{new_object}
use Rattle.objects.specs.PodNames.{pod_name}
use Rattle.objects.specs.Building.{put_some}
use Rattle.set_views.specs.declared.fault.PlanError.{PlanError}
use Rattle.set_views.specs.declared.fault.PlanError.TheVariants.{NameTooLong}
use Rattle.set_views.specs.Set.{SetParts}
use Rattle.set_views.specs.Steps.{guarded}
use Rattle.revisions.specs.Built.{owned_metadata}
use Rattle.manifests.specs.Template.{labels_in, part, part_in, template_of}
use Rattle.manifests.specs.Volumes.{with_volumes}

-- the template's labels, with those of a set's pods over them
abbrev pub pod_labels : List ℕ → List ℕ → ℕ → Members → Members
pod_labels name revision ordinal labels =
    put (codes "apps.kubernetes.io/pod-index") (string (decimal ordinal))
    (put (codes "controller-revision-hash") (string revision)
    (put (codes "statefulset.kubernetes.io/pod-name") (string name) labels))

-- the template's annotations, if there are any, the labels, and the set as the owner
abbrev pub pod_metadata : SetParts → List ℕ → List ℕ → ℕ → Members → Members
pod_metadata set name revision ordinal metadata =
    put (codes "labels") (object (pod_labels name revision ordinal (labels_in metadata)))
    (put_some (codes "annotations") (part_in (codes "annotations") metadata) (owned_metadata set))

-- the template's spec, with the pod's network identity and its claims over it
abbrev pub pod_spec : SetParts → List ℕ → ℕ → Members → Members
pod_spec set name ordinal spec =
    with_volumes set ordinal (put_some (codes "subdomain") (option_map string set.service) (put (codes "hostname") (string name) spec))

-- the members of a pod except its metadata
abbrev pub pod_members : SetParts → List ℕ → ℕ → Members → Members
pod_members set name ordinal template = member (codes "spec") (object (pod_spec set name ordinal (part (codes "spec") template))) no_members

-- the pod of that name, from this template
abbrev pub named_pod : SetParts → Members → List ℕ → ℕ → List ℕ → Object
named_pod set template revision ordinal name =
    new_object (key_parts Pod set.object.key.namespace name) (pod_metadata set name revision ordinal (part (codes "metadata") template)) (pod_members set name ordinal template)

-- the pod of that ordinal
unfoldable pub built_pod : SetParts → Object → ℕ → Result Object PlanError
built_pod set revision ordinal =
    let name = pod_name set.object.key.name ordinal in
    guarded NameTooLong (nat_le (length name) most_label) (named_pod set (template_of revision) revision.key.name ordinal name)
