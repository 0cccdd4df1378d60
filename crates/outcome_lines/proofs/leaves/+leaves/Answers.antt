use Rattle.std.proofs.Common.{◌∙◌, ap, sym, arith}
use Rattle.std.specs.Prelude.{option_map}
use Rattle.serde_json.specs.Data.{members_depth}
use Rattle.trees.proofs.Printing.{member_depth}
use Rattle.trees.specs.Tree.{data_of}
use Rattle.outcome_lines.proofs.Leaving.{inner_depth}
use Rattle.outcome_lines.proofs.leaves.+leaves.Goals as goal

pub add_members-add_leaves-requires : goal.add_members-add_leaves-requires
add_members-add_leaves-requires t c =
    (omega (arith, member_depth c.args.entries.now c.loop-name.name-index c.loop-name-item.result c.loop-name-test.true c.loop-name-item.is, c.decreases), tt)

pub add_leaves-add_members-requires : goal.add_leaves-add_members-requires
add_leaves-add_members-requires t c =
    let inner = inner_depth (data_of c.args.tree.now) c.in-Some.members.now (sym c.inner_members.ensures ∙ ap (option_map (λ members. members.now)) c.in-Some.is) in
    let same = ap members_depth c.entries.ensures.all in
    (omega (arith, inner, same, c.decreases), tt)
