use Rattle.interleavings.proofs.Spared.{spared_still}
use Rattle.interleavings.proofs.laws.compactions_spare_reads.Goals as goal

pub returns : goal.returns
returns c = λ size events later number some spared. spared_still size some events later number spared
