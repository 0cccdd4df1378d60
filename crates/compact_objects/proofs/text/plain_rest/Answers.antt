use Rattle.std.proofs.Common.{codes}
use Rattle.compact_objects.proofs.Cursors.{behind_false, behind_quoted, behind_true}
use Rattle.compact_objects.proofs.Texts.{begins}
use Rattle.compact_objects.proofs.text.plain_rest.Goals as goal

pub returns-in-Some-clause-rest : goal.returns-in-Some-clause-rest
returns-in-Some-clause-rest c d rest is ends = behind_quoted c.args.text.now _ rest _ d ends is c.in-Some.ensures.quote.1 c.in-Some.ensures.rest

pub returns-in-Some-strip_prefix-clause-rest : goal.returns-in-Some-strip_prefix-clause-rest
returns-in-Some-strip_prefix-clause-rest c d rest is ends = behind_true c.args.text.now _ rest d ends is (begins _ (codes "true") _ c.in-Some-strip_prefix.ensures.cases.0 c.in-Some-strip_prefix.ensures.cases.1)

pub returns-clause-rest : goal.returns-clause-rest
returns-clause-rest c d rest is ends = behind_false c.args.text.now _ rest d ends is (begins _ (codes "false") _ c.in_ok-rest.ensures.cases.0 c.in_ok-rest.ensures.cases.1)
