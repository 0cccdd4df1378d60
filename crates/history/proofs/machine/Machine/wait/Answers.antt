use Rattle.std.proofs.Common.{refl}
use Rattle.history.proofs.Pieces.{waits_by}
use Rattle.history.proofs.machine.Machine.wait.Goals as goal

pub returns-in-Ok-clause-waits : goal.returns-in-Ok-clause-waits
returns-in-Ok-clause-waits c = waits_by c.args.self.now c.order_or_park.new.self _ c.args.saw c.args.caller c.args.place c.args.reply c.requires c.in-Ok.ensures.settled c.in-Ok.ensures.callers c.enter.ensures.entered refl
