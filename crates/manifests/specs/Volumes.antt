-- The volumes of a pod, by which it has its set's claims (Kubernetes API reference, core/v1: Volume,
-- PersistentVolumeClaimVolumeSource; "StatefulSets": "Stable Storage").
use Rattle.std.specs.Prelude.{ℕ, ◌==◌, Bool, not, List, ◌++◌, length, map, filter, codes, unwrap_or, if◌then◌else◌}
use Rattle.std.specs.List.{list_any}
use Rattle.serde_json.specs.Data.{Data, string, array, object, Items, no_items, Members, no_members, member, put}
use Rattle.serde_json.specs.View.{items_of}
use Rattle.objects.specs.Metadata.{items_at}
use Rattle.objects.specs.PodNames.{claim_name}
use Rattle.set_views.specs.Claims.{Claim}
use Rattle.set_views.specs.Readiness.{says}
use Rattle.set_views.specs.Set.{SetParts}
use Rattle.manifests.specs.Arrays.{list_of}

-- the volume of that name, which is stored in the claim of that name
abbrev pub claim_volume : List ℕ → List ℕ → Data
claim_volume name claim =
    object (member (codes "name") (string name)
    (member (codes "persistentVolumeClaim") (object (member (codes "claimName") (string claim) no_members)) no_members))

-- the volume of a claim template
abbrev pub volume_of : SetParts → ℕ → Claim → Data
volume_of set ordinal c = claim_volume c.0 (claim_name c.0 set.object.key.name ordinal)

-- the volume has the name of a claim template
abbrev pub is_replaced : SetParts → Data → Bool
is_replaced set volume = list_any (λ c. says (codes "name") c.0 volume) set.claims

-- the volumes of a pod's spec; what is no list counts as missing
abbrev pub volumes_in : Members → Items
volumes_in spec = unwrap_or (items_at (codes "volumes") spec) no_items

-- those of a template's volumes that have other names
abbrev pub other_volumes : SetParts → Members → List Data
other_volumes set spec = filter (λ d. not (is_replaced set d)) (list_of (volumes_in spec))

-- one volume for each claim template, in order, and then these others
abbrev pub volumes_with : SetParts → ℕ → List Data → List Data
volumes_with set ordinal others = map (volume_of set ordinal) set.claims ++ others

-- the spec with these volumes, if the set has claim templates; else unchanged
abbrev pub with_others : SetParts → ℕ → List Data → Members → Members
with_others set ordinal others spec =
    if length set.claims == 0 then spec else put (codes "volumes") (array (items_of (volumes_with set ordinal others))) spec

-- the same, when the others are the spec's own
abbrev pub with_volumes : SetParts → ℕ → Members → Members
with_volumes set ordinal spec = with_others set ordinal (other_volumes set spec) spec
