-- What a tree is as JSON data, in the terms of `serde_json`.
use Rattle.std.specs.Prelude.{◌≡◌, ℕ, List, [], ◌∷◌, ⊤}
use Rattle.std.specs.Ordering.{nat_cmp}
use Rattle.std.specs.declared.cmp.Ordering.TheVariants.{Less}
use Rattle.std.specs.Cmp.Lexicographic.{slice_cmp}
use Rattle.serde_json.specs.Data.{Data, null, boolean, number, string, array, object, Items, no_items, item, Members, no_members, member}
use Rattle.serde_json.specs.Find.{of_integer}
use Rattle.trees.specs.declared.tree.Tree.{Tree}
use Rattle.trees.specs.declared.tree.Tree.TheVariants as tree

abbrev pub data_of : Tree → Data
data_of tree.Null = null
data_of (tree.Truth b) = boolean b
data_of (tree.Integer z) = number (of_integer z)
data_of (tree.Text s) = string s
data_of (tree.List ds) = array ds
data_of (tree.Map ms) = object ms

abbrev pub items_of : List Tree → Items
items_of [] = no_items
items_of (t ∷ ts) = item (data_of t) (items_of ts)

abbrev pub members_of : List (List ℕ × Tree) → Members
members_of [] = no_members
members_of (e ∷ es) = member e.0 (data_of e.1) (members_of es)

-- the key comes before those of the members, in byte order
abbrev pub ComesBefore : List ℕ → Members → Type 0
ComesBefore k no_members = ⊤
ComesBefore k (member l d ms) = slice_cmp nat_cmp k l ≡ Less

-- each key comes before the next, so none occurs twice
abbrev pub AreAscending : Members → Type 0
AreAscending no_members = ⊤
AreAscending (member k d ms) = ComesBefore k ms × AreAscending ms
