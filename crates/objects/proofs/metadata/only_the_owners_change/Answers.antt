use Rattle.objects.proofs.BodyMembers.{member_of-with_other}
use Rattle.objects.proofs.OwnerMembers.{owners_of-with_owners, metadata_with_owners}
use Rattle.std.proofs.Common.{Some}
use Rattle.std.specs.Prelude.{codes}
use Rattle.objects.proofs.metadata.only_the_owners_change.Goals as goal

pub returns-clause-set : goal.returns-clause-set
returns-clause-set c = owners_of-with_owners

pub returns-clause-inside : goal.returns-clause-inside
returns-clause-inside c = metadata_with_owners

pub returns-clause-others : goal.returns-clause-others
returns-clause-others c = λ other owners body differs. member_of-with_other other (codes "metadata") (Some _) body differs
