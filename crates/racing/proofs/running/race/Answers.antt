use Rattle.std.proofs.Common.{refl}
use Rattle.racing.proofs.running.race.Goals as goal

pub returns-clause-race : goal.returns-clause-race
returns-clause-race g c = (c.in_ok-history.history, c.in_ok-history.ensures.race, refl)
