use Rattle.resting.proofs.StatusWritten.{status_stays}
use Rattle.resting.proofs.laws.plans_write_the_status.Goals as goal

pub returns : goal.returns
returns c = λ set digits moment s plan next some may read whole shown key. status_stays set digits moment s plan some may read.there read.read whole next shown key
