use Rattle.plain_store.proofs.KeptUids.{apart_in_run, drawn_in_run}
use Rattle.plain_store.proofs.laws.lifetimes.uids_name_one_key.Goals as goal

pub returns-clause-apart : goal.returns-clause-apart
returns-clause-apart c = apart_in_run

pub returns-clause-drawn : goal.returns-clause-drawn
returns-clause-drawn c = drawn_in_run
