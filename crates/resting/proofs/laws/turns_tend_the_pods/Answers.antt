use Rattle.resting.proofs.Turns.{turn_is_over}
use Rattle.resting.proofs.TurnsOnPods.{turn_on_pods}
use Rattle.resting.proofs.laws.turns_tend_the_pods.Goals as goal

pub returns-clause-store : goal.returns-clause-store
returns-clause-store c = turn_is_over

pub returns-clause-pods : goal.returns-clause-pods
returns-clause-pods c = λ set update current s pods next may is is_next. turn_on_pods set update current s _ pods next may.filed (turn_is_over s set.object.key.namespace may) is is_next
