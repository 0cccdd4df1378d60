use Rattle.traces.proofs.Worlds.{moves, stays}
use Rattle.traces.proofs.laws.enabled_events_change_the_world.Goals as goal

pub returns : goal.returns
returns c = record { enabled = moves; not_enabled = stays }
