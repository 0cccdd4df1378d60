use Rattle.history.proofs.Enabled.{next_is_enabled}
use Rattle.history.proofs.laws.next_steps_are_enabled.Goals as goal

pub returns : goal.returns
returns c = next_is_enabled
