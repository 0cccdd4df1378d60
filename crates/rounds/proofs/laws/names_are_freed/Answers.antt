use Rattle.rounds.proofs.Names.{names_freed}
use Rattle.rounds.proofs.laws.names_are_freed.Goals as goal

pub returns : goal.returns
returns c = λ capacity requests before between later first second o p is one two same. names_freed capacity requests before between later first second o p is one two same
