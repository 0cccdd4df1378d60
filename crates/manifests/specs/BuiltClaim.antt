-- The PersistentVolumeClaim that a plan makes from a claim template (Kubernetes API reference, apps/v1,
-- StatefulSetSpec: volumeClaimTemplates; core/v1: PersistentVolumeClaim; "StatefulSets": "Stable Storage").
use Rattle.std.specs.Prelude.{ℕ, codes, Option, Some, None, option_and_then}
use Rattle.std.specs.Option.{option_map_or}
use Rattle.serde_json.specs.Data.{Data, array, object, Items, no_items, item, Members, no_members, member}
use Rattle.serde_json.specs.Find.{as_object}
use Rattle.objects.specs.declared.kind.Kind.TheVariants.{PersistentVolumeClaim}
use Rattle.objects.specs.declared.object.Object.{Object}
use Rattle.objects.specs.Key.{key_parts}
use Rattle.objects.specs.New.{new_object}
use Rattle.objects.specs.Object.{object_at}
use Rattle.objects.specs.PodNames.{claim_name}
use Rattle.objects.specs.Status.{member_of}
use Rattle.objects.specs.Building.{put_some}
use Rattle.set_views.specs.Claims.{Claim}
use Rattle.set_views.specs.Set.{SetParts}
use Rattle.manifests.specs.Template.{labels_in, part, part_in, texts_in, with_all}

-- `spec.selector` of the set
abbrev pub selector_of : SetParts → Option Members
selector_of set = option_and_then (object_at (codes "selector")) (option_and_then as_object (member_of (codes "spec") set.object.body))

-- `spec.selector.matchLabels`, by which the set recognizes its pods
abbrev pub match_labels : SetParts → Members
match_labels set = option_map_or (texts_in (codes "matchLabels")) (selector_of set) no_members

-- labels and owners are left out if there are none
abbrev pub labels_if_any : Members → Option Data
labels_if_any no_members = None
labels_if_any (member k d ms) = Some (object (member k d ms))

abbrev pub owners_if_any : Items → Option Data
owners_if_any no_items = None
owners_if_any (item d ds) = Some (array (item d ds))

-- the template's annotations, its labels with those of the selector put over them, and these owners
abbrev pub claim_metadata : SetParts → Items → Members → Members
claim_metadata set owners metadata =
    put_some (codes "annotations") (part_in (codes "annotations") metadata)
    (put_some (codes "labels") (labels_if_any (with_all (match_labels set) (labels_in metadata)))
    (put_some (codes "ownerReferences") (owners_if_any owners) no_members))

-- the template's spec
abbrev pub claim_members : Members → Members
claim_members template = put_some (codes "spec") (part_in (codes "spec") template) no_members

-- the claim of a template for the pod of that ordinal, with these owners
unfoldable pub built_claim : SetParts → ℕ → Items → Claim → Object
built_claim set ordinal owners c =
    new_object (key_parts PersistentVolumeClaim set.object.key.namespace (claim_name c.0 set.object.key.name ordinal))
    (claim_metadata set owners (part (codes "metadata") c.1)) (claim_members c.1)
