use Rattle.resting.proofs.RestRounds.{stands_then_rests}
use Rattle.resting.proofs.laws.sets_that_stand_come_to_rest.Goals as goal

pub returns : goal.returns
returns c = λ set update digits s t current pods read here round are stands tended whole next next_read key unrefused.
    stands_then_rests set current digits update s t pods read here round are stands tended whole next next_read key unrefused
