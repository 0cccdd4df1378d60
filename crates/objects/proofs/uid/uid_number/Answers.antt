use Rattle.std.proofs.Common.{sym}
use Rattle.objects.proofs.Numerals.{uid_number-short}
use Rattle.objects.proofs.uid.uid_number.Goals as goal

pub returns-then-text-ne36-clause-value : goal.returns-then-text-ne36-clause-value
returns-then-text-ne36-clause-value c = sym (uid_number-short c.args.text.now c.if-text-ne36.true)
