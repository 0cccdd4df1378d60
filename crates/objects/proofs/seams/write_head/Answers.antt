use Rattle.std.proofs.Common.{◌≡◌, false, codes, sym, ap, ◌∙◌, subst}
use Rattle.serde_json.specs.Data.{object}
use Rattle.serde_json.specs.Find.{get_member}
use Rattle.trees.specs.Tree.{AreAscending}
use Rattle.objects.specs.Object.{has_held}
use Rattle.objects.proofs.HeadWritten.{head_written}
use Rattle.objects.proofs.ObjectTokens.{front_first, not_empty, first_value, first_same, is_map, same_members}
use Rattle.objects.proofs.seams.write_head.Goals as goal

pub unreachable-requires-in_default-split_first : goal.unreachable-requires-in_default-split_first
unreachable-requires-in_default-split_first c =
    let b = c.object.invariant in
    let same = c.entries-entries.ensures.all ∙ same_members c.object.inside.body c.in-Map.members b.members c.in-Map.is b.made_of in
    let said = ap (get_member (codes "metadata")) same ∙ b.metadata_member in
    let ascending = subst AreAscending (sym c.entries-entries.ensures.all) c.entries-entries.ensures.ascending in
    absurd (not_empty (codes "metadata") (object b.metadata) _ (front_first (codes "metadata") (object b.metadata) _ _ _ _ c.in_ok-rest.ensures.front ascending said) c.in_default-split_first.ensures.cases)

pub unreachable-requires-in_default-1₀ : goal.unreachable-requires-in_default-1₀
unreachable-requires-in_default-1₀ c =
    let b = c.object.invariant in
    let same = c.entries-entries.ensures.all ∙ same_members c.object.inside.body c.in-Map.members b.members c.in-Map.is b.made_of in
    let said = ap (get_member (codes "metadata")) same ∙ b.metadata_member in
    let ascending = subst AreAscending (sym c.entries-entries.ensures.all) c.entries-entries.ensures.ascending in
    let first = front_first (codes "metadata") (object b.metadata) _ _ _ _ c.in_ok-rest.ensures.front ascending said in
    absurd (c.in_default-1₀.not-Map b.metadata (is_map c.in-Some.entry.now.1 b.metadata (first_value (codes "metadata") (object b.metadata) _ c.in-Some.after.now c.in-Some.entry.now first c.in-Some.ensures.cases.0)))

pub write_to_version-requires : goal.write_to_version-requires
write_to_version-requires c =
    let b = c.object.invariant in
    let same = c.entries-entries.ensures.all ∙ same_members c.object.inside.body c.in-Map.members b.members c.in-Map.is b.made_of in
    let said = ap (get_member (codes "metadata")) same ∙ b.metadata_member in
    let ascending = subst AreAscending (sym c.entries-entries.ensures.all) c.entries-entries.ensures.ascending in
    let first = front_first (codes "metadata") (object b.metadata) _ _ _ _ c.in_ok-rest.ensures.front ascending said in
    let value = first_value (codes "metadata") (object b.metadata) _ c.in-Some.after.now c.in-Some.entry.now first c.in-Some.ensures.cases.0 in
    let held = same_members c.in-Some.entry.now.1 c.in-Map-1₀.metadata b.metadata c.in-Map-1₀.is value in
    subst (λ ms. has_held ms ≡ false) (sym (c.entries.ensures.all ∙ held)) b.none_held

pub returns-clause-written : goal.returns-clause-written
returns-clause-written c =
    let b = c.object.invariant in
    let members = same_members c.object.inside.body c.in-Map.members b.members c.in-Map.is b.made_of in
    let same = c.entries-entries.ensures.all ∙ members in
    let said = ap (get_member (codes "metadata")) same ∙ b.metadata_member in
    let ascending = subst AreAscending (sym c.entries-entries.ensures.all) c.entries-entries.ensures.ascending in
    let first = front_first (codes "metadata") (object b.metadata) _ _ _ _ c.in_ok-rest.ensures.front ascending said in
    let value = first_value (codes "metadata") (object b.metadata) _ c.in-Some.after.now c.in-Some.entry.now first c.in-Some.ensures.cases.0 in
    let equal = first_same (codes "metadata") (object b.metadata) _ c.in-Some.after.now c.in-Some.entry.now first c.in-Some.ensures.cases.0 in
    let held = same_members c.in-Some.entry.now.1 c.in-Map-1₀.metadata b.metadata c.in-Map-1₀.is value in
    head_written c.args.object.now _ c.in_ok-rest.rest.now c.in-Some.after.now _ c.in_ok-versioned.versioned.now c.in-Some.entry.now b.metadata c.args.out.now.tokens _ _ _ _ _
    c.in_ok-begin_object.ensures.ok c.in_ok-rest.ensures.front c.in-Some.ensures.cases.0 equal value c.in_ok-key.ensures.ok c.in_ok-begin_object-2.ensures.ok c.in_ok-versioned.ensures.written
    (c.entries.ensures.all ∙ held) (ap (λ o. o.body) (sym c.object.view_is) ∙ b.made_of ∙ ap object (sym same))
