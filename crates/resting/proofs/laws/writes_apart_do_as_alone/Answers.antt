use Rattle.resting.proofs.Alone.{all_alone, plan_alone}
use Rattle.resting.proofs.laws.writes_apart_do_as_alone.Goals as goal

pub returns-clause-any : goal.returns-clause-any
returns-clause-any c = all_alone

pub returns-clause-planned : goal.returns-clause-planned
returns-clause-planned c = λ set digits moment s plan some may read. plan_alone set digits moment s plan some may read.there read.read
