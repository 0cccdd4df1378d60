use Rattle.std.proofs.Common.{refl}
use Rattle.history.proofs.Admitted.{answer_same, steps_by}
use Rattle.history.proofs.machine.Machine.step.Goals as goal

pub returns-clause-done : goal.returns-clause-done
returns-clause-done c = steps_by c.args.event.now c.args.self.now c.dispatch.new.self _ c.compact_shards.new.self c.in_ok-delivered.ensures.done refl c.compact_shards.ensures.thins

pub returns-clause-delivered : goal.returns-clause-delivered
returns-clause-delivered c = answer_same c.args.event.now c.args.self.now c.dispatch.new.self c.compact_shards.new.self _ c.compact_shards.ensures.items c.in_ok-delivered.ensures.delivered
