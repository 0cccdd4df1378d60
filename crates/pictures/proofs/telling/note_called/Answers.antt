use Rattle.pictures.proofs.Asking.{noted}
use Rattle.pictures.proofs.telling.note_called.Goals as goal

pub returns : goal.returns
returns c = noted c.args.asked.now c.insert.new.self c.args.caller c.args.request c.in_ok-insert.ensures.updates
