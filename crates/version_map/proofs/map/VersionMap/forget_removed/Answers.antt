use Rattle.version_map.proofs.Forgotten.{forgotten_all, forgotten_readings}
use Rattle.version_map.proofs.map.VersionMap.forget_removed.Goals as goal

pub returns-then-not-forget_next-clause-forgotten : goal.returns-then-not-forget_next-clause-forgotten
returns-then-not-forget_next-clause-forgotten g c = forgotten_all c.args.self.now c.loop.self c.forget_next.new.self c.loop.invariant c.forget_next.ensures

pub returns-then-not-forget_next-clause-readings : goal.returns-then-not-forget_next-clause-readings
returns-then-not-forget_next-clause-readings g c m =
    forgotten_readings c.args.self.now c.forget_next.new.self m (forgotten_all c.args.self.now c.loop.self c.forget_next.new.self c.loop.invariant c.forget_next.ensures)

pub loop-preserved : goal.loop-preserved
loop-preserved g c = forgotten_all c.args.self.now c.loop.self c.forget_next.new.self c.loop.invariant c.forget_next.ensures

pub returns-clause-readings : goal.returns-clause-readings
returns-clause-readings g c m = forgotten_readings c.args.self.now c.loop.self m c.loop.invariant
