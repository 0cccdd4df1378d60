use Rattle.collector.specs.Collectable.{is_listed}
use Rattle.collector.proofs.Gone.{is_collectable-kept, is_gone-listed, is_gone-later}
use Rattle.collector.proofs.laws.owned_claims_stay.Goals as goal

pub returns-clause-listed : goal.returns-clause-listed
returns-clause-listed c = λ owners at n claim has listed. is_collectable-kept at (is_listed owners) n claim (is_gone-listed at (is_listed owners) n listed) has

pub returns-clause-later : goal.returns-clause-later
returns-clause-later c = λ owners at n claim has later. is_collectable-kept at (is_listed owners) n claim (is_gone-later at (is_listed owners) n later) has
