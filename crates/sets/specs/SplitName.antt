-- The set and the ordinal that a pod's name is made of (Kubernetes, "StatefulSets": "Pod Identity").
use Rattle.std.specs.Prelude.{ℕ, zero, suc, ◌+◌, Bool, ◌&&◌, nat_lt, nat_le, bytes_eq, List, length, take, drop, Option, Some, None, if◌then◌else◌}
use Rattle.std.specs.Str.Parse.{digits_value}
use Rattle.objects.specs.PodNames.{most_ordinal, pod_name}

-- the number after the byte at k
abbrev pub number_behind : List ℕ → ℕ → ℕ
number_behind name k = digits_value 10 (drop (k + 1) name)

-- the name is that of the pod with the number after k, of the set whose name is before k
abbrev pub is_split : List ℕ → ℕ → Bool
is_split name k =
    nat_lt 0 (length (take k name)) && (nat_le (number_behind name k) most_ordinal && bytes_eq name (pod_name (take k name) (number_behind name k)))

abbrev pub split_name_below : List ℕ → ℕ → Option (List ℕ × ℕ)
split_name_below name zero = None
split_name_below name (suc k) = if is_split name k then Some (take k name, number_behind name k) else split_name_below name k

unfoldable pub split_name_in : List ℕ → Option (List ℕ × ℕ)
split_name_in name = split_name_below name (length name)
