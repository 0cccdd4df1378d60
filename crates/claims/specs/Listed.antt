-- The claims that were listed, by their names.
use Rattle.std.specs.Prelude.{◌≡◌, ℕ, ◌<◌, ◌^◌, ◌&&◌, List, bytes_eq, decimal, find, Option, option_map}
use Rattle.std.specs.Borrow.{Bor}
use Rattle.std.specs.BTreeMap.{BTreeMap, get_by}
use Rattle.std.specs.Cmp.Lexicographic.{slice_cmp}
use Rattle.std.specs.List.{filter_map}
use Rattle.std.specs.Ordering.{nat_cmp}
use Rattle.objects.specs.declared.kind.Kind.TheVariants.{PersistentVolumeClaim}
use Rattle.objects.specs.declared.object.Object.{Object}
use Rattle.objects.specs.PodNames.{claim_name}
use Rattle.set_views.specs.Set.{SetParts}
use Rattle.set_views.specs.Predicates.{in_namespace}
use Rattle.claims.specs.declared.listed.ListedClaims.{ListedClaims}
use Rattle.claims.specs.Pods.{claims_in, under}

-- the claim of that name; of several the first counts
abbrev pub listed_claim : SetParts → List Object → List ℕ → Option Object
listed_claim set objects name = find (λ o. in_namespace set PersistentVolumeClaim o && bytes_eq o.key.name name) objects

-- what a map has under a name
abbrev pub found_in : BTreeMap (Bor (List ℕ)) (Bor Object) → List ℕ → Option Object
found_in claims name = option_map (λ o. o.now) (get_by (λ k. slice_cmp nat_cmp name k.now) claims)

unfoldable pub claim_named : ListedClaims → List ℕ → Option Object
claim_named claims name = found_in claims.by_name name

-- the claims of that ordinal's pod, in the order of the templates. `listed` gives the claim of a name
abbrev pub pod_claims : SetParts → (List ℕ → Option Object) → ℕ → List Object
pod_claims set listed i = filter_map (λ c. listed (claim_name c.0 set.object.key.name i)) set.claims

-- what a list has for that ordinal's pod
unfoldable pub claims_of : ListedClaims → ℕ → List Object
claims_of claims i = claims_in (under claims.by_pod (decimal i))

-- A list that is for this set: what it has for a pod is what it has under the names of the pod's claims.
unfoldable pub IsFor : SetParts → ListedClaims → Type 0
IsFor set claims = (i : ℕ) → i < 2 ^ 32 → claims_of claims i ≡ pod_claims set (claim_named claims) i
