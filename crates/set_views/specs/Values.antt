-- Values among the members of an object, as the API server reads them (Kubernetes API conventions, "Optional vs.
-- Required": `null` counts as missing).
use Rattle.std.specs.Prelude.{ℕ, List, nat_le, Option, Some, None, option_and_then, if◌then◌else◌}
use Rattle.serde_json.specs.Data.{Data}
use Rattle.serde_json.specs.Find.{get, as_number, as_u64}
use Rattle.objects.specs.PodNames.{most_ordinal}
use Rattle.objects.specs.Same.{is_null}

infixl 10 ◌>>=◌
abbrev pub ◌>>=◌ : {A B : Type 0} → Option A → (A → Option B) → Option B
o >>= f = option_and_then f o

-- the value, unless it is `null`
abbrev pub present : Option Data → Option Data
present None = None
present (Some d) = if is_null d then None else Some d

-- the value of a member of this value, if it is an object
abbrev pub inside : List ℕ → Option Data → Option Data
inside k found = option_and_then (get k) found

-- the number, if it is at most the largest that the API's 32-bit integers hold
abbrev pub if_count : ℕ → Option ℕ
if_count n = if nat_le n most_ordinal then Some n else None

-- the value, if it is a whole number from 0 to 2147483647
abbrev pub count_of : Data → Option ℕ
count_of d = option_and_then if_count (option_and_then as_u64 (as_number d))

-- the same, or the default if there is no value
abbrev pub count_or : ℕ → Option Data → Option ℕ
count_or default None = Some default
count_or default (Some d) = count_of d
