use Rattle.objects.proofs.BodyMembers.{member_of-with_member, member_of-with_other}
use Rattle.objects.proofs.status.only_the_set_member_changes.Goals as goal

pub returns-clause-set : goal.returns-clause-set
returns-clause-set c = member_of-with_member

pub returns-clause-others : goal.returns-clause-others
returns-clause-others c = member_of-with_other
