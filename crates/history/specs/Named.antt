-- The callers that events name.
use Rattle.std.specs.Prelude.{ℕ, cond, List, [], ◌∷◌, length, Option, Some, None}
use Rattle.std.specs.List.{list_any}
use Rattle.std.specs.BTreeMap.{is_at}
use Rattle.std.specs.BTreeSet.{insert_key}
use Rattle.std.specs.Ordering.{nat_cmp}
use Rattle.std.specs.Set.{remove_key}
use Rattle.interleavings.specs.declared.event.Event.{Event}
use Rattle.interleavings.specs.Callers.{named_by}

-- the names with one more, unless it is among them
abbrev pub with_named : List ℕ → Option ℕ → List ℕ
with_named names None = names
with_named names (Some c) = cond (list_any (is_at (nat_cmp c)) names) names (insert_key nat_cmp names c)

abbrev pub without : Option ℕ → List ℕ → List ℕ
without None names = names
without (Some c) names = remove_key (is_at (nat_cmp c)) names

-- these names, and those of the callers that the events name and that are not among them
abbrev pub named : List ℕ → List Event → List ℕ
named names [] = names
named names (e ∷ es) = named (with_named names (named_by e)) es

-- how many callers the events name
abbrev pub callers : List Event → ℕ
callers es = length (named [] es)
