use Rattle.std.proofs.Common.{refl}
use Rattle.history.proofs.Compactions.{thins_by, thins_not}
use Rattle.history.proofs.machine.Machine.compact_shards.Goals as goal

pub returns-then-least-self-clause-thins : goal.returns-then-least-self-clause-thins
returns-then-least-self-clause-thins c = thins_not c.args.self.now c.least-least.result c.least-least.ensures c.if-least-self.true

pub returns-clause-thins : goal.returns-clause-thins
returns-clause-thins c = thins_by c.args.self.now c.least-least.result c.least-least.ensures _ c.if-least-self.false c.compact_all.ensures refl
