use Rattle.plain_store.proofs.Runs.{replies-append}
use Rattle.plain_store.proofs.laws.runs.runs_go_on.Goals as goal

pub returns : goal.returns
returns c = replies-append
