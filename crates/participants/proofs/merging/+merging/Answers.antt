use Rattle.participants.proofs.Patches.{map_depth, merged-next, merged_map}
use Rattle.participants.proofs.merging.+merging.Goals as goal
use Rattle.participants.specs.Merging.{merged, merged_members, unless_null}
use Rattle.serde_json.specs.Data.{members_depth, object}
use Rattle.serde_json.specs.Find.{get_member}
use Rattle.std.proofs.Common.{None, Some, ap, arith, cond, subst, sym, ◌∙◌, ◌≡◌}
use Rattle.std.specs.Prelude.{option_map}
use Rattle.trees.proofs.Printing.{member_depth}
use Rattle.trees.specs.Members.{set_member}
use Rattle.trees.specs.Tree.{data_of, members_of}

pub merged-merged_members-requires : goal.merged-merged_members-requires
merged-merged_members-requires t c =
    (omega (arith, ap members_depth c.entries.ensures.all, map_depth (data_of c.args.patch.now) c.in-Some.members.now c.in-Some.ensures, c.decreases), tt)

pub merged-returns-in-Some : goal.merged-returns-in-Some
merged-returns-in-Some t c =
    ap object (c.in_ok-changed-in-Some.ensures ∙ (λ j. merged_members (c.in_ok-before-in-Some.ensures j) (c.entries.ensures.all j)))
    ∙ sym (merged_map (option_map data_of c.args.target) (data_of c.args.patch.now) c.in-Some.members.now c.in-Some.ensures)

pub merged_members-loop-name-preserved : goal.merged_members-loop-name-preserved
merged_members-loop-name-preserved t c =
    let e = c.loop-name-item.result in
    let old = c.loop-name.changed in
    merged-next c.args.patch.now c.loop-name.name-index e old c.in_ok-more.more (merged_members c.args.target (members_of c.args.patch.now)) c.loop-name-test.true c.loop-name-item.is c.loop-name.invariant
    (subst (λ k. c.in_ok-more.more ≡ set_member k (unless_null (data_of e.1) (merged (get_member k old) (data_of e.1))) old) c.as_str.ensures c.in_ok-more.ensures)

pub merged_members-merged_member-requires : goal.merged_members-merged_member-requires
merged_members-merged_member-requires t c =
    (omega (arith, member_depth c.args.patch.now c.loop-name.name-index c.loop-name-item.result c.loop-name-test.true c.loop-name-item.is, c.decreases), tt)

pub merged_member-returns-then-is_null : goal.merged_member-returns-then-is_null
merged_member-returns-then-is_null t c =
    let d = data_of c.args.patch.now in
    let name = c.args.name.now in
    c.in_ok-removed.ensures
    ∙ ap (λ b. set_member name (cond b None (Some (merged (get_member name c.args.target) d))) c.args.target) (sym c.if-is_null.true ∙ c.is_null.ensures)

pub merged_member-returns : goal.merged_member-returns
merged_member-returns t c =
    let d = data_of c.args.patch.now in
    let name = c.args.name.now in
    c.in_ok-changed.ensures
    ∙ ap (λ v. set_member name (Some v) c.args.target) (c.in_ok-new.ensures ∙ ap (λ o. merged o d) (c.in_ok-old.ensures ∙ c.get.ensures))
    ∙ ap (λ b. set_member name (cond b None (Some (merged (get_member name c.args.target) d))) c.args.target) (sym c.if-is_null.false ∙ c.is_null.ensures)
