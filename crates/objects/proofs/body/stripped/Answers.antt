use Rattle.std.proofs.Common.{subst, sym}
use Rattle.trees.specs.Tree.{AreAscending, members_of}
use Rattle.objects.proofs.HeldMembers.{ascending_without}
use Rattle.objects.proofs.body.stripped.Goals as goal

pub of-requires : goal.of-requires
of-requires c = subst AreAscending (sym c.drop_held.ensures) (ascending_without (members_of c.in_ok-entries-in-Map.entries.items) c.in_ok-entries-in-Map.ensures.ascending)
