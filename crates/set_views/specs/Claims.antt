-- The claim templates of a set (Kubernetes API reference, apps/v1, StatefulSetSpec: volumeClaimTemplates).
use Rattle.std.specs.Prelude.{ℕ, List, [], ◌∷◌, map, Bool, true, not, ◌&&◌, codes, bytes_eq, Option, Some, None, if◌then◌else◌}
use Rattle.std.specs.List.{list_all, list_any}
use Rattle.serde_json.specs.Data.{Data, Items, no_items, item, Members}
use Rattle.serde_json.specs.Find.{as_array, as_object}
use Rattle.objects.specs.Names.{is_dns_label}
use Rattle.objects.specs.Object.{object_at}
use Rattle.objects.specs.Metadata.{text_at}
use Rattle.set_views.specs.Values.{◌>>=◌}

-- a template's name, and its members
abbrev pub Claim : Type 0
Claim = List ℕ × Members

-- an object with a DNS label as the `name` of its `metadata`
abbrev pub claim_of : Data → Option Claim
claim_of d = do
  template ← as_object d
  metadata ← object_at (codes "metadata") template
  name ← text_at (codes "name") metadata
  if is_dns_label name then Some (name, template) else None

abbrev pub claims_of : Items → Option (List Claim)
claims_of no_items = Some []
claims_of (item d ds) = do
  claim ← claim_of d
  claims ← claims_of ds
  Some (claim ∷ claims)

-- no name occurs twice
abbrev pub are_distinct : List (List ℕ) → Bool
are_distinct [] = true
are_distinct (name ∷ names) = not (list_any (bytes_eq name) names) && are_distinct names

abbrev pub names_of : List Claim → List (List ℕ)
names_of claims = map (λ c. c.0) claims

-- each name is a DNS label
abbrev pub are_labelled : List Claim → Bool
are_labelled claims = list_all (λ c. is_dns_label c.0) claims

-- a list of such objects, no two of one name
abbrev pub claims_in : Option Data → Option (List Claim)
claims_in None = Some []
claims_in (Some d) = do
  items ← as_array d
  claims ← claims_of items
  if are_distinct (names_of claims) then Some claims else None
