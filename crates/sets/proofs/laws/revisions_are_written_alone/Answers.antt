use Rattle.sets.proofs.Origins.{created_alone, renumbered_alone}
use Rattle.sets.proofs.laws.revisions_are_written_alone.Goals as goal

pub returns-clause-created : goal.returns-clause-created
returns-clause-created c = created_alone

pub returns-clause-renumbered : goal.returns-clause-renumbered
returns-clause-renumbered c = renumbered_alone
