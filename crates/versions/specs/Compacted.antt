-- The records that are left when what may no longer be read is dropped.
use Rattle.std.specs.Prelude.{ℕ, nat_lt, nat_le, Bool, false, not, ◌&&◌}
use Rattle.std.specs.List.{list_any}
use Rattle.std.specs.Option.{option_map_or}
use Rattle.std.specs.Ordering.{eq_by_cmp}
use Rattle.std.specs.FinMap.{entries, get, retain_keys}
use Rattle.objects.specs.Key.{key_cmp}
use Rattle.versions.specs.Records.{Records}

-- some later record of the same key has a number up to n
abbrev pub is_superseded : Records → ℕ → ℕ → Bool
is_superseded rs n m = option_map_or (λ v. list_any (λ r. nat_lt m r.0 && nat_le r.0 n && eq_by_cmp key_cmp v.key r.1.key) (entries rs)) (get rs m) false

-- of the records of each key up to n, only the last; and all those above n
abbrev pub compacted : Records → ℕ → Records
compacted rs n = retain_keys rs (λ m. not (is_superseded rs n m))
