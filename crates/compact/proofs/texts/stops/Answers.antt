use Rattle.compact.proofs.Lanes.{stops_are}
use Rattle.compact.proofs.texts.stops.Goals as goal

pub returns : goal.returns
returns c = stops_are c.args.bytes c.fits-bytes.0
