use Rattle.packed.proofs.Alike.{differences_are}
use Rattle.packed.proofs.meeting.differences.Goals as goal

pub returns : goal.returns
returns c = differences_are c.args.left c.args.right c.fits-left.0 c.fits-right.0
