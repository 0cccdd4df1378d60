use Rattle.rounds.proofs.Entries.{follows_first, follows_last}
use Rattle.rounds.proofs.laws.incarnations_may_end_anywhere.Goals as goal

pub returns-clause-cut : goal.returns-clause-cut
returns-clause-cut c = follows_first

pub returns-clause-last : goal.returns-clause-last
returns-clause-last c = follows_last
