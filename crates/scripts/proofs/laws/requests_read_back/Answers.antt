use Rattle.scripts.proofs.DraftBack.{own_readable}
use Rattle.scripts.proofs.DraftValues.{again_printed}
use Rattle.scripts.proofs.ReadBack.{reads_back}
use Rattle.scripts.proofs.ReadRequests.{read_is_readable}
use Rattle.scripts.proofs.laws.requests_read_back.Goals as goal

pub returns-clause-back : goal.returns-clause-back
returns-clause-back c = reads_back

pub returns-clause-read : goal.returns-clause-read
returns-clause-read c = read_is_readable

pub returns-clause-own : goal.returns-clause-own
returns-clause-own c = λ draft h. (own_readable draft h, again_printed draft h.again)
