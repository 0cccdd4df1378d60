use Rattle.history.proofs.Pieces.{on_err, stays_same}
use Rattle.history.proofs.machine.Machine.check.Goals as goal

pub returns-in_err-decide-clause-memory : goal.returns-in_err-decide-clause-memory
returns-in_err-decide-clause-memory c = on_err _ _ (stays_same c.args.self.now)
