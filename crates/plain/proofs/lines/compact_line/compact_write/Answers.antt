use Rattle.std.proofs.Common.{subst}
use Rattle.std.specs.Prelude.{IfSome}
use Rattle.compact_objects.specs.Lines.{IsDraftOfLine}
use Rattle.plain.proofs.CompactWrites.{answered_by, taken_as}
use Rattle.plain.proofs.lines.compact_line.compact_write.Goals as goal

pub returns-clause-answered : goal.returns-clause-answered
returns-clause-answered c =
    let line = c.args.line.now in
    let whole = c.if-not-branch.false in
    let taken = taken_as line _ c.as_slice-text.result.now _ c.tables-tables.result.now (c.in_ok-put_in_order.ensures.taken whole) c.as_slice-text.ensures.value c.tables-tables.ensures in
    let draft = subst (λ found. IfSome found (λ d. IsDraftOfLine d line)) c.in-Some-2.is (c.in_ok-draft.ensures line taken) in
    answered_by line c.as_slice-text.result.now c.tables-tables.result.now c.in-Some-2.draft c.in-Some.verb _ _ c.write_by-written.result taken draft (c.in_ok-put_in_order.ensures.short whole)
    (c.in_ok-put_in_order.ensures.utf8 whole) c.in-Some.ensures c.write_by-written.ensures.step
