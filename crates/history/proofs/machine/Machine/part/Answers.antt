use Rattle.std.proofs.Common.{refl}
use Rattle.history.proofs.CrashesDone.{part_done}
use Rattle.history.proofs.machine.Machine.part.Goals as goal

pub returns-clause-done : goal.returns-clause-done
returns-clause-done c = part_done c.args.self.now _ c.args.caller c.part.ensures refl
