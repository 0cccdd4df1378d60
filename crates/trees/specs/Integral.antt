-- Integral data, whose numbers are all integers; and members as they are found while a later value of a key may still
-- replace an earlier one.
use Rattle.std.specs.Prelude.{ℕ, List, [], ◌∷◌, Option, Some, None, option_map, option_and_then, if◌then◌else◌}
use Rattle.serde_json.specs.Data.{Num, Data, Items, Members, no_members, member}
use Rattle.serde_json.specs.Find.{is_float}
use Rattle.serde_json.specs.Written.{has_float, items_have_float, members_have_float}
use Rattle.trees.specs.declared.tree.Tree.{Tree}
use Rattle.trees.specs.Tree.{data_of}

-- the number, unless it is a float
abbrev pub number_if_integer : Num → Option Num
number_if_integer n = if is_float n then None else Some n

-- the value, unless a number in it is a float
abbrev pub if_integral : Data → Option Data
if_integral d = if has_float d then None else Some d

abbrev pub items_if_integral : Items → Option Items
items_if_integral ds = if items_have_float ds then None else Some ds

abbrev pub members_if_integral : Members → Option Members
members_if_integral ms = if members_have_float ms then None else Some ms

-- a key, and its value if that is integral
abbrev pub Found : Type 0
Found = List ℕ × Option Data

-- the members, each with its value if that is integral
abbrev pub found_in : Members → List Found
found_in no_members = []
found_in (member k d ms) = (k, if_integral d) ∷ found_in ms

-- the same of a map's entries
abbrev pub found_of : List (List ℕ × Option Tree) → List Found
found_of [] = []
found_of (e ∷ es) = (e.0, option_map data_of e.1) ∷ found_of es

-- the members that were found, if all are integral
abbrev pub all_integral : List Found → Option Members
all_integral [] = Some no_members
all_integral (f ∷ fs) = option_and_then (λ d. option_map (member f.0 d) (all_integral fs)) f.1
