-- JSON values whose numbers are whole are the same: numbers by value, texts byte for byte, lists item by item. Maps of
-- trees have their members in byte order of the keys, so members are the same one by one, whatever order they came in.
use Rattle.std.specs.Prelude.{◌==◌, Bool, true, false, ◌&&◌, bytes_eq}
use Rattle.std.specs.Bool.{beq}
use Rattle.std.specs.Ordering.{int_eq}
use Rattle.std.specs.Option.{option_map_or}
use Rattle.serde_json.specs.Data.{Num, unsigned, negative, float, Data, null, boolean, number, string, array, object, Items, no_items, item, Members, no_members, member}
use Rattle.serde_json.specs.Find.{as_array, as_bool, as_number, as_object, as_str}

-- no number of a tree is a float
abbrev pub same_numbers : Num → Num → Bool
same_numbers (unsigned m) (unsigned n) = m == n
same_numbers (unsigned m) (negative z) = false
same_numbers (unsigned m) (float x) = false
same_numbers (negative y) (unsigned n) = false
same_numbers (negative y) (negative z) = int_eq y z
same_numbers (negative y) (float x) = false
same_numbers (float x) n = false

abbrev pub is_null : Data → Bool
is_null null = true
is_null (boolean b) = false
is_null (number n) = false
is_null (string s) = false
is_null (array ds) = false
is_null (object ms) = false

abbrev mutual
  pub same_data : Data → Data → Bool
  same_data null e = is_null e
  same_data (boolean b) e = option_map_or (beq b) (as_bool e) false
  same_data (number n) e = option_map_or (same_numbers n) (as_number e) false
  same_data (string s) e = option_map_or (bytes_eq s) (as_str e) false
  same_data (array ds) e = option_map_or (same_items ds) (as_array e) false
  same_data (object ms) e = option_map_or (same_members ms) (as_object e) false

  pub same_items : Items → Items → Bool
  same_items no_items no_items = true
  same_items no_items (item e es) = false
  same_items (item d ds) no_items = false
  same_items (item d ds) (item e es) = same_data d e && same_items ds es

  pub same_members : Members → Members → Bool
  same_members no_members no_members = true
  same_members no_members (member l e ns) = false
  same_members (member k d ms) no_members = false
  same_members (member k d ms) (member l e ns) = bytes_eq k l && same_data d e && same_members ms ns
