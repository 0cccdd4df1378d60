use Rattle.std.proofs.Common.{arith}
use Rattle.compact.proofs.PlainRuns.{as_text, plain_ends, escape_passed, shorter_behind}
use Rattle.compact.proofs.texts.text_rest.Goals as goal

pub returns-then-byte-eq34-clause-text : goal.returns-then-byte-eq34-clause-text
returns-then-byte-eq34-clause-text c = c.runs.invariant.goes_on _ (as_text _ _ (plain_ends c.runs.left.now _ _ _ c.plain_end-end.ensures.value c.in_ok-byte.ensures.cases.0 c.if-byte-eq34.true))

pub runs-preserved : goal.runs-preserved
runs-preserved c = record {
  goes_on = λ rest t. c.runs.invariant.goes_on rest (escape_passed c.runs.left.now _ _ _ _ c.plain_end-end.ensures.value c.in_ok-byte.ensures.cases.0 c.if-byte-ne92.false c.in_ok-left.ensures.escape rest t);
  shorter = omega (arith, c.runs.invariant.shorter, c.in_ok-left.ensures.shorter, shorter_behind c.runs.left.now _ _ _ c.in_ok-byte.ensures.cases.0);
}
