use Rattle.std.proofs.Common.{refl}
use Rattle.history.proofs.Pieces.{holds_by}
use Rattle.history.proofs.machine.Machine.hold.Goals as goal

pub returns-clause-holds : goal.returns-clause-holds
returns-clause-holds c = holds_by c.args.self.now _ c.args.caller c.args.shard c.args.writing c.requires.called c.requires.shard refl c.enter.ensures.entered refl
