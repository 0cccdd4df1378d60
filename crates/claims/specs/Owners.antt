-- The owners that a claim is to have (Kubernetes, "StatefulSets": "PersistentVolumeClaim retention"): by its owner
-- references a claim is deleted with the set, or with a pod that was scaled away, or is retained.
use Rattle.std.specs.Prelude.{ℕ, ◌^◌, nat_lt, Bool, true, not, ◌&&◌, ◌||◌, List, [], ◌∷◌, ◌++◌, filter, codes, Option, Some, None, if◌then◌else◌}
use Rattle.std.specs.List.{list_all, list_any}
use Rattle.serde_json.specs.Data.{Data, string, object, no_members, member}
use Rattle.objects.specs.Uid.{uid_text}
use Rattle.set_views.specs.declared.policies.Retention.{Retention}
use Rattle.set_views.specs.declared.policies.Retention.TheVariants.{Retain, Delete}
use Rattle.set_views.specs.Readiness.{says}
use Rattle.set_views.specs.Set.{SetParts}
use Rattle.claims.specs.declared.owner.Owner.{Owner}
use Rattle.claims.specs.declared.owner.Owner.TheVariants as owners

-- a retained claim has no owner
abbrev pub unless_retained : Retention → Option Owner → Option Owner → Option Owner
unless_retained Retain retained deleted = retained
unless_retained Delete retained deleted = deleted

-- the claim of a pod in range is deleted with the set
abbrev pub owner_in_range : SetParts → Option Owner
owner_in_range set = unless_retained set.when_deleted None (Some owners.Set)

-- the text of a UID's number; a number that no UID has counts as none
abbrev pub known_uid : ℕ → List ℕ
known_uid n = uid_text (if nat_lt n (2 ^ 48) then n else 0)

-- that of a condemned pod with this UID is deleted with the pod, or else treated as if the pod were in range
abbrev pub owner_of_condemned : SetParts → ℕ → Option Owner
owner_of_condemned set uid = unless_retained set.when_scaled (owner_in_range set) (Some (owners.Pod (known_uid uid)))

-- an entry of `ownerReferences` with the UID of the set
abbrev pub is_of_set : SetParts → Data → Bool
is_of_set set entry = says (codes "uid") (uid_text set.object.meta.uid) entry

-- one of a pod of that name
abbrev pub is_of_pod : List ℕ → Data → Bool
is_of_pod pod entry = says (codes "kind") (codes "Pod") entry && says (codes "name") pod entry

-- one with the UID of that owner
abbrev pub is_of : SetParts → Owner → Data → Bool
is_of set owners.Set entry = is_of_set set entry
is_of set (owners.Pod uid) entry = says (codes "uid") uid entry

-- of the entries of the set and of the pod only those of the owner stay; all others do
abbrev pub stays : SetParts → List ℕ → Option Owner → Data → Bool
stays set pod None entry = not (is_of_set set entry) && not (is_of_pod pod entry)
stays set pod (Some owners.Set) entry = not (is_of_pod pod entry)
stays set pod (Some (owners.Pod uid)) entry = says (codes "uid") uid entry || (not (is_of_set set entry) && not (is_of_pod pod entry))

abbrev pub reference : List ℕ → List ℕ → List ℕ → List ℕ → Data
reference version kind name uid = object (
    member (codes "apiVersion") (string version)
    (member (codes "kind") (string kind)
    (member (codes "name") (string name)
    (member (codes "uid") (string uid) no_members))))

-- a new entry of the owner
abbrev pub reference_to : SetParts → List ℕ → Owner → Data
reference_to set pod owners.Set = reference (codes "apps/v1") (codes "StatefulSet") set.object.key.name (uid_text set.object.meta.uid)
reference_to set pod (owners.Pod uid) = reference (codes "v1") (codes "Pod") pod uid

-- with a new entry at the end, if none has the owner's UID
abbrev pub with_owner : SetParts → List ℕ → Option Owner → List Data → List Data
with_owner set pod None entries = entries
with_owner set pod (Some owner) entries = if list_any (is_of set owner) entries then entries else entries ++ reference_to set pod owner ∷ []

-- the entries of a claim that is to have this owner
abbrev pub wanted_entries : SetParts → List ℕ → Option Owner → List Data → List Data
wanted_entries set pod owner entries = with_owner set pod owner (filter (stays set pod owner) entries)

abbrev pub is_there : SetParts → Option Owner → List Data → Bool
is_there set None entries = true
is_there set (Some owner) entries = list_any (is_of set owner) entries

-- each entry stays, and the owner is there
abbrev pub are_wanted : SetParts → List ℕ → Option Owner → List Data → Bool
are_wanted set pod owner entries = list_all (stays set pod owner) entries && is_there set owner entries

-- an entry of neither the set, nor a pod of that name, nor the owner
abbrev pub is_stranger : SetParts → List ℕ → Option Owner → Data → Bool
is_stranger set pod None entry = not (is_of_set set entry) && not (is_of_pod pod entry)
is_stranger set pod (Some owner) entry = not (is_of_set set entry) && not (is_of_pod pod entry) && not (is_of set owner entry)
