use Rattle.quiet_runs.proofs.Open.{quiet_answers}
use Rattle.quiet_runs.proofs.laws.quiet_requests_are_answered.Goals as goal

pub returns : goal.returns
returns c = λ z count reconcilers k n sized quiet used asks. quiet_answers z count reconcilers k n quiet used sized.0 sized.1 asks
