use Rattle.std.proofs.Common.{refl}
use Rattle.rounds.specs.Phase.{asks, takes}
use Rattle.rounds.proofs.examples.short_rounds.Goals as goal

pub returns-clause-two_rounds : goal.returns-clause-two_rounds
unfolding asks takes
returns-clause-two_rounds c = refl

pub returns-clause-after_a_crash : goal.returns-clause-after_a_crash
unfolding asks takes
returns-clause-after_a_crash c = refl

pub returns-clause-refused_action : goal.returns-clause-refused_action
unfolding asks takes
returns-clause-refused_action c = refl

pub returns-clause-no_set : goal.returns-clause-no_set
unfolding asks takes
returns-clause-no_set c = refl
