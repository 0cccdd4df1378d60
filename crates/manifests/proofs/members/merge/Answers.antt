use Rattle.std.proofs.Common.{sym, ap, ◌∙◌}
use Rattle.objects.specs.Tree.{members_of}
use Rattle.trees.proofs.Joining.{join_members, join_members-none}
use Rattle.manifests.specs.Template.{with_all}
use Rattle.manifests.proofs.Merging.{more_merged}
use Rattle.manifests.proofs.members.merge.Goals as goal

pub entries-preserved : goal.entries-preserved
entries-preserved c = (
  more_merged c.entries.all.items c.push-in-Some.new.self.items (c.in_ok-clone.field-0, c.in_ok-clone-2.field-0) c.in-Some.first.entry.now
      (with_all (members_of c.in-Some.first.over.now) (members_of c.in-Some.first.under.now)) (with_all (members_of c.args.over.now) (members_of c.args.under.now))
      (with_all (members_of c.entries.more.now) (members_of c.entries.left.now)) c.in_ok-push.ensures.items c.in_ok-clone.ensures.cases c.in_ok-clone-2.ensures.cases
      c.in-Some.ensures.first c.entries.invariant.0,
  c.in-Some.ensures.ascending,
)

pub returns : goal.returns
returns c =
    sym (join_members-none (members_of c.entries.all.items)) ∙ (ap (join_members (members_of c.entries.all.items)) (sym c.in_default.ensures.none) ∙ c.entries.invariant.0)
