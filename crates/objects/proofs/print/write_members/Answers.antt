use Rattle.std.proofs.Common.{◌≡◌, ◌++◌, false, codes, sym, ap, ◌∙◌, subst}
use Rattle.json.specs.Tree.{members_tokens}
use Rattle.serde_json.specs.Data.{object}
use Rattle.serde_json.specs.Written.{members_outline}
use Rattle.objects.specs.Object.{has_held}
use Rattle.objects.specs.Text.{full_metadata}
use Rattle.objects.proofs.ObjectTokens.{on_ok, front_first, not_empty, first_value, first_same, is_map, same_members, members_written}
use Rattle.objects.proofs.print.write_members.Goals as goal

pub unreachable-requires : goal.unreachable-requires
unreachable-requires c =
    let said = c.requires.said in
    absurd (not_empty (codes "metadata") (object said.0) _ (front_first (codes "metadata") (object said.0) _ _ _ _ c.in_ok-rest.ensures.front c.requires.ascending said.1) c.in_default.ensures.cases)

pub unreachable-requires-in_default-1₀ : goal.unreachable-requires-in_default-1₀
unreachable-requires-in_default-1₀ c =
    let said = c.requires.said in
    let first = front_first (codes "metadata") (object said.0) _ _ _ _ c.in_ok-rest.ensures.front c.requires.ascending said.1 in
    absurd (c.in_default-1₀.not-Map said.0 (is_map c.in-Some.entry.now.1 said.0 (first_value (codes "metadata") (object said.0) _ c.in-Some.after.now c.in-Some.entry.now first c.in-Some.ensures.cases.0)))

pub write_metadata-requires : goal.write_metadata-requires
write_metadata-requires c =
    let said = c.requires.said in
    let first = front_first (codes "metadata") (object said.0) _ _ _ _ c.in_ok-rest.ensures.front c.requires.ascending said.1 in
    let value = first_value (codes "metadata") (object said.0) _ c.in-Some.after.now c.in-Some.entry.now first c.in-Some.ensures.cases.0 in
    let same = same_members c.in-Some.entry.now.1 c.in-Map.metadata said.0 c.in-Map.is value in
    subst (λ ms. has_held ms ≡ false) (sym (c.entries.ensures.all ∙ same)) said.2

pub returns-clause-tokens : goal.returns-clause-tokens
returns-clause-tokens c = λ metadata said.
    let first = front_first (codes "metadata") (object metadata) _ _ _ _ c.in_ok-rest.ensures.front c.requires.ascending said in
    let value = first_value (codes "metadata") (object metadata) _ c.in-Some.after.now c.in-Some.entry.now first c.in-Some.ensures.cases.0 in
    let equal = first_same (codes "metadata") (object metadata) _ c.in-Some.after.now c.in-Some.entry.now first c.in-Some.ensures.cases.0 in
    let same = same_members c.in-Some.entry.now.1 c.in-Map.metadata metadata c.in-Map.is value in
    on_ok c.write_entries.result (λ last.
    members_written (codes "metadata") (full_metadata c.args.object.now metadata) c.args.entries.now c.in_ok-rest.rest.now c.in-Some.after.now c.in-Some.entry.now c.args.out.now.tokens _ _ _ c.write_metadata.new.out.tokens c.write_entries.new.out.tokens
    c.in_ok-rest.ensures.front c.in-Some.ensures.cases.0 equal c.in_ok-key.ensures.ok c.in_ok-begin_object.ensures.ok
    (c.in_ok-write_metadata.ensures.tokens ∙ ap (λ ms. c.begin_object.new.self.tokens ++ members_tokens (members_outline (full_metadata c.args.object.now ms))) (c.entries.ensures.all ∙ same)) last) c.write_entries.ensures.tokens
