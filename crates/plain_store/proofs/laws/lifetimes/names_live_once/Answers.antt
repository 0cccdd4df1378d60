use Rattle.plain_store.proofs.EventLives.{lives_in_run}
use Rattle.plain_store.proofs.laws.lifetimes.names_live_once.Goals as goal

pub returns : goal.returns
returns c = lives_in_run
