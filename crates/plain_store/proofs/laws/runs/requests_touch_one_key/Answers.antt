use Rattle.plain_store.proofs.OneKey.{step_elsewhere}
use Rattle.plain_store.proofs.laws.runs.requests_touch_one_key.Goals as goal

pub returns : goal.returns
returns c = step_elsewhere
