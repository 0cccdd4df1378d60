use Rattle.plain_store.proofs.Past.{bounds}
use Rattle.plain_store.proofs.laws.runs.capacity_bounds_the_counter.Goals as goal

pub returns : goal.returns
returns c = bounds
