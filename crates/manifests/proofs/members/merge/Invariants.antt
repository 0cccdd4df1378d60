use Rattle.std.proofs.Common.{◌≡◌, ◌+◌, length}
use Rattle.objects.specs.Tree.{AreAscending, members_of}
use Rattle.trees.proofs.Joining.{join_members}
use Rattle.manifests.specs.Template.{with_all}
use Rattle.manifests.proofs.members.merge.Given as goal

abbrev pub invariant-entries : goal.invariant-entries
invariant-entries l =
    (join_members (members_of l.all.items) (with_all (members_of l.more) (members_of l.left)) ≡ with_all (members_of l.over) (members_of l.under))
    × AreAscending (members_of l.more)

abbrev pub decreases-entries : goal.decreases-entries
decreases-entries l = length l.left + length l.more
