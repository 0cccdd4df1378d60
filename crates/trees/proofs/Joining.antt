-- Items and members, one after another.
use Rattle.std.proofs.Common.{◌≡◌, ℕ, List, [], ◌∷◌, ◌++◌, refl, ap}
use Rattle.serde_json.specs.Data.{Data, Items, no_items, item, Members, no_members, member}
use Rattle.trees.specs.declared.tree.Tree.{Tree}
use Rattle.trees.specs.Tree.{data_of, items_of, members_of}

-- these items, and then those
abbrev pub join_items : Items → Items → Items
join_items no_items es = es
join_items (item d ds) es = item d (join_items ds es)

abbrev pub join_members : Members → Members → Members
join_members no_members ns = ns
join_members (member k d ms) ns = member k d (join_members ms ns)

pub join_items-none : (ds : Items) → join_items ds no_items ≡ ds
join_items-none no_items = refl
join_items-none (item d ds) = ap (item d) (join_items-none ds)

pub join_members-none : (ms : Members) → join_members ms no_members ≡ ms
join_members-none no_members = refl
join_members-none (member k d ms) = ap (member k d) (join_members-none ms)

pub join_items-one : (ds : Items) (d : Data) (es : Items) → join_items (join_items ds (item d no_items)) es ≡ join_items ds (item d es)
join_items-one no_items d es = refl
join_items-one (item c ds) d es = ap (item c) (join_items-one ds d es)

pub items_of-push : (ts : List Tree) (t : Tree) → items_of (ts ++ t ∷ []) ≡ join_items (items_of ts) (item (data_of t) no_items)
items_of-push [] t = refl
items_of-push (u ∷ ts) t = ap (item (data_of u)) (items_of-push ts t)

pub join_members-push : (es : List (List ℕ × Tree)) (e : List ℕ × Tree) (ns : Members) → join_members (members_of (es ++ e ∷ [])) ns ≡ join_members (members_of es) (member e.0 (data_of e.1) ns)
join_members-push [] e ns = refl
join_members-push (f ∷ es) e ns = ap (member f.0 (data_of f.1)) (join_members-push es e ns)
