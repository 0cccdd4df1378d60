-- Each tree nests less deep than the list or map that holds it.
use Rattle.std.specs.Prelude.{◌≤◌, ℕ, max, List, [], ◌∷◌}
use Rattle.std.proofs.Common.{arith}
use denote.Param.Weighed.{most}
use Rattle.serde_json.specs.Data.{depth, items_depth, members_depth}
use Rattle.trees.specs.declared.tree.Tree.{Tree}
use Rattle.trees.specs.declared.tree.Tree.TheVariants as tree
use Rattle.trees.specs.declared.tree.Items.TheDeep.{deep-Tree, deep-Members}
use Rattle.trees.specs.declared.tree.Members.TheInside.{Inside}
use Rattle.trees.specs.Tree.{data_of, items_of, members_of}

deep_le-depth : (t : Tree) → deep-Tree t ≤ depth (data_of t)
deep_le-depth tree.Null = omega arith
deep_le-depth (tree.Truth b) = omega arith
deep_le-depth (tree.Integer z) = omega arith
deep_le-depth (tree.Text s) = omega arith
deep_le-depth (tree.List ds) = omega arith
deep_le-depth (tree.Map ms) = omega arith

pub items_fall : (ts : List Tree) → max (most deep-Tree ts) 0 ≤ items_depth (items_of ts)
items_fall [] = omega arith
items_fall (t ∷ ts) = omega (arith, deep_le-depth t, items_fall ts)

members_fall_by : (μ : List ℕ × Tree → ℕ) → ((e : List ℕ × Tree) → μ e ≤ depth (data_of e.1)) → (es : List (List ℕ × Tree)) → max (most μ es) 0 ≤ members_depth (members_of es)
members_fall_by μ each [] = omega arith
members_fall_by μ each (e ∷ es) = omega (arith, each e, members_fall_by μ each es)

pub members_fall : (a : Inside) → deep-Members a ≤ members_depth (members_of a.entries.value.items)
members_fall a = members_fall_by _ (λ e. omega (arith, deep_le-depth e.1)) a.entries.value.items
