use Rattle.versions.proofs.States.{state_is_value}
use Rattle.versions.proofs.laws.states_have_the_values.Goals as goal

pub returns : goal.returns
returns c = λ records number key. state_is_value records number key
