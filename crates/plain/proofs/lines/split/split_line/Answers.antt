use Rattle.std.proofs.Common.{length, refl, sym, arith}
use Rattle.std.proofs.lemmas.Bool.{eqb-false}
use Rattle.plain.proofs.LineSplits.{first-line, only-line, shorter-next}
use Rattle.plain.proofs.lines.split.split_line.Goals as goal

pub returns-in-Some-clause-first : goal.returns-in-Some-clause-first
returns-in-Some-clause-first c = first-line c.args.text.now _ c.in-Some.at c.in-Some.ensures.0 c.in-Some.ensures.1 refl

pub returns-in-Some-clause-shorter : goal.returns-in-Some-clause-shorter
returns-in-Some-clause-shorter c = shorter-next c.args.text.now _ c.in-Some.at c.in-Some.ensures.0.high refl

pub returns-in-None-clause-first : goal.returns-in-None-clause-first
returns-in-None-clause-first c = only-line c.args.text.now (omega (arith, eqb-false (length c.args.text.now) 0 (sym c.if-is_empty.ensures))) c.in-None.ensures
