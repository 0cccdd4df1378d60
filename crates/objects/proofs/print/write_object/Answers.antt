use Rattle.std.proofs.Common.{codes, ap, ◌∙◌}
use Rattle.serde_json.specs.Find.{get_member}
use Rattle.trees.specs.Tree.{members_of}
use Rattle.objects.proofs.ObjectTokens.{on_ok, same_members, object_written}
use Rattle.objects.proofs.print.write_object.Goals as goal

pub returns-clause-tokens : goal.returns-clause-tokens
returns-clause-tokens c =
    let b = c.object.invariant in
    let same = c.entries.ensures.all ∙ same_members c.object.inside.body c.in-Map.members b.members c.in-Map.is b.made_of in
    on_ok c.write_members.result (λ last.
    object_written c.object.inside.key.kind _ c.args.object.now b (members_of c.entries.result.now) c.args.out.now.tokens c.begin_object.new.self.tokens c.write_members.new.out.tokens c.object.view_is same c.in_ok-begin_object.ensures.ok last)
    (c.write_members.ensures.tokens b.metadata (ap (get_member (codes "metadata")) same ∙ b.metadata_member))
