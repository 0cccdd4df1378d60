use Rattle.racing.proofs.Giving.{submitted}
use Rattle.racing.proofs.running.StoreSharedStore.submit.Goals as goal

pub returns-clause-learns : goal.returns-clause-learns
returns-clause-learns g c =
    submitted c.submit.result c.args.caller.now c.submit.new.caller c.submit.ensures.begins c.submit.ensures.own c.submit.ensures.memory
