-- The changes of claims that a plan makes (Kubernetes, "StatefulSets": "Stable Storage", "PersistentVolumeClaim
-- retention").
use Rattle.std.specs.Prelude.{ℕ, nat_le, List, [], ◌∷◌, length, take, Option, Some, None, option_and_then, Result, if◌then◌else◌}
use Rattle.std.specs.List.{filter_map}
use Rattle.serde_json.specs.Data.{Data, Items}
use Rattle.serde_json.specs.View.{items_of}
use Rattle.objects.specs.declared.object.Object.{Object}
use Rattle.objects.specs.Metadata.{owners_of, with_owners}
use Rattle.objects.specs.PodNames.{claim_name, pod_name}
use Rattle.set_views.specs.declared.fault.PlanError.{PlanError}
use Rattle.set_views.specs.declared.fault.PlanError.TheVariants.{NameTooLong}
use Rattle.set_views.specs.Claims.{Claim}
use Rattle.set_views.specs.Set.{SetParts}
use Rattle.set_views.specs.Steps.{guarded}
use Rattle.manifests.specs.Arrays.{list_of}
use Rattle.manifests.specs.BuiltClaim.{built_claim}
use Rattle.objects.specs.Names.{most_label}
use Rattle.claims.specs.declared.change.ClaimChange.{ClaimChange}
use Rattle.claims.specs.declared.change.ClaimChange.TheVariants.{Create, Update}
use Rattle.claims.specs.declared.owner.Owner.{Owner}
use Rattle.claims.specs.Owners.{are_wanted, owner_in_range, owner_of_condemned, wanted_entries}

-- entries are left out if there are none
abbrev pub items_if_any : List Data → Option Items
items_if_any [] = None
items_if_any (d ∷ ds) = Some (items_of (d ∷ ds))

-- the claim with these owner references
abbrev pub with_owner_entries : Object → List Data → Object
with_owner_entries claim entries = record { key = claim.key; meta = claim.meta; body = with_owners (items_if_any entries) claim.body }

abbrev pub entries_of : Object → List Data
entries_of claim = list_of (owners_of claim.body)

-- a claim of that pod that is there, if it is to have other entries than it has
abbrev pub update : SetParts → List ℕ → Option Owner → Object → Option ClaimChange
update set pod owner claim =
    if are_wanted set pod owner (entries_of claim) then None else Some (Update (with_owner_entries claim (wanted_entries set pod owner (entries_of claim))))

-- the claim of a template that is missing
abbrev pub create : SetParts → ℕ → Claim → ClaimChange
create set i c = Create (built_claim set i (items_of (wanted_entries set (pod_name set.object.key.name i) (owner_in_range set) [])) c)

-- the claim of a template for a pod that is created
abbrev pub create_or_update : SetParts → ℕ → Claim → Option Object → Option ClaimChange
create_or_update set i c None = Some (create set i c)
create_or_update set i c (Some claim) = update set (pod_name set.object.key.name i) (owner_in_range set) claim

abbrev pub all_creates_and_updates : SetParts → (List ℕ → Option Object) → ℕ → List Claim → List ClaimChange
all_creates_and_updates set listed i claims = filter_map (λ c. create_or_update set i c (listed (claim_name c.0 set.object.key.name i))) claims

-- For a pod that is created: the creates of its missing claims, and the updates of the others, in the order of the
-- templates. `listed` gives the claim of a name. The pod's own name has at most 63 bytes.
abbrev pub make_claims : SetParts → (List ℕ → Option Object) → ℕ → Result (List ClaimChange) PlanError
make_claims set listed i = guarded NameTooLong (nat_le (length (pod_name set.object.key.name i)) most_label) (all_creates_and_updates set listed i set.claims)

-- the first so many of them
abbrev pub make_first_claims : SetParts → (List ℕ → Option Object) → ℕ → ℕ → Result (List ClaimChange) PlanError
make_first_claims set listed i n = guarded NameTooLong (nat_le (length (pod_name set.object.key.name i)) most_label) (take n (all_creates_and_updates set listed i set.claims))

-- the updates of a pod's claims that are to have this owner
abbrev pub all_updates : SetParts → (List ℕ → Option Object) → ℕ → Option Owner → List Claim → List ClaimChange
all_updates set listed i owner claims =
    filter_map (λ c. option_and_then (update set (pod_name set.object.key.name i) owner) (listed (claim_name c.0 set.object.key.name i))) claims

-- for a healthy pod
abbrev pub keep_claims : SetParts → (List ℕ → Option Object) → ℕ → List ClaimChange
keep_claims set listed i = all_updates set listed i (owner_in_range set) set.claims

-- for a condemned pod with that UID, which is then deleted
abbrev pub release_claims : SetParts → (List ℕ → Option Object) → ℕ → ℕ → List ClaimChange
release_claims set listed i uid = all_updates set listed i (owner_of_condemned set uid) set.claims
