use Rattle.std.proofs.Common.{subst, sym}
use Rattle.objects.specs.Object.{IsBody}
use Rattle.objects.proofs.OwnerMembers.{body_with_owners, metadata_there}
use Rattle.objects.proofs.object.Object.with_owners.Goals as goal

pub with_owners-requires : goal.with_owners-requires
with_owners-requires c = (c.self.invariant.metadata, metadata_there c.self.inside.key.kind _ c.self.invariant)

pub invariant_of-result : goal.invariant_of-result
invariant_of-result c =
    subst (IsBody c.self.inside.key.kind) (sym c.in_ok-with_owners.ensures) (body_with_owners c.self.inside.key.kind c.args.owners _ c.requires c.self.invariant)
