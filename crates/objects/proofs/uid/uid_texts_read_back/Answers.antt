use Rattle.objects.proofs.UidRound.{uid_number-uid_text, uid_text-uid_number}
use Rattle.objects.proofs.uid.uid_texts_read_back.Goals as goal

pub returns-clause-read : goal.returns-clause-read
returns-clause-read c = uid_number-uid_text

pub returns-clause-only : goal.returns-clause-only
returns-clause-only c = uid_text-uid_number
