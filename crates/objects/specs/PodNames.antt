-- The names of a StatefulSet's pods and of their volume claims (Kubernetes, "StatefulSets": "Pod Identity" and
-- "Stable Storage"), as bytes.
use Rattle.std.specs.Prelude.{◌≡◌, ℕ, ◌≤◌, ◌<◌, List, ◌++◌, length, codes, decimal}

-- the name of the pod with this ordinal
abbrev pub pod_name : List ℕ → ℕ → List ℕ
pod_name set ordinal = set ++ codes "-" ++ decimal ordinal

-- the name of the claim that a template makes for that pod
abbrev pub claim_name : List ℕ → List ℕ → ℕ → List ℕ
claim_name template set ordinal = template ++ codes "-" ++ pod_name set ordinal

-- the largest number that the API's 32-bit integers hold
abbrev pub most_ordinal : ℕ
most_ordinal = 2147483647

-- a pod of a set of that name, with that ordinal, is called so
pub record IsPodName (name set : List ℕ) (ordinal : ℕ) : Type 0 where
  pub joined : name ≡ pod_name set ordinal
  pub set_named : 0 < length set
  pub fits : ordinal ≤ most_ordinal
