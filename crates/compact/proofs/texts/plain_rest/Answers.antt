use Rattle.compact.proofs.PlainRuns.{plain_ends}
use Rattle.compact.proofs.texts.plain_rest.Goals as goal

pub returns-then-byte-eq34-clause-plain : goal.returns-then-byte-eq34-clause-plain
returns-then-byte-eq34-clause-plain c = plain_ends c.args.text.now _ _ _ c.plain_end-end.ensures.value c.in_ok-byte.ensures.cases.0 c.if-byte-eq34.true
