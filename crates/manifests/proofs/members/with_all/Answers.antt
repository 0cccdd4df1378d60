use Rattle.std.proofs.Common.{subst, sym}
use Rattle.objects.specs.Tree.{AreAscending, members_of}
use Rattle.manifests.proofs.Merging.{ascending_all}
use Rattle.manifests.proofs.members.with_all.Goals as goal

pub of-requires : goal.of-requires
of-requires c =
    subst AreAscending (sym c.in_ok-all.ensures)
    (ascending_all (members_of c.entries-2.result.now) (members_of c.entries.result.now) (subst AreAscending (sym c.entries.ensures.all) c.entries.ensures.ascending))
