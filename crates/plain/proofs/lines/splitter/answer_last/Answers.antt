use Rattle.std.proofs.Common.{◌<◌, length, vec_len, refl, sym, arith}
use Rattle.std.proofs.lemmas.Bool.{eqb-false}
use Rattle.plain.proofs.LineSplits.{text-last, count-last}
use Rattle.plain.proofs.lines.splitter.answer_last.Goals as goal

pub returns-clause-text : goal.returns-clause-text
returns-clause-text c =
    let some : 0 < length c.args.splitter.pending.items = omega (arith, eqb-false (vec_len c.args.splitter.pending) 0 (sym c.if-is_empty.ensures)) in
    text-last c.args.plain.now c.args.splitter.pending.items _ _ _ some c.requires.begun refl c.in_ok-splitter.ensures.text

pub returns-clause-count : goal.returns-clause-count
returns-clause-count c =
    let some : 0 < length c.args.splitter.pending.items = omega (arith, eqb-false (vec_len c.args.splitter.pending) 0 (sym c.if-is_empty.ensures)) in
    count-last c.args.splitter.pending.items _ _ some c.requires.begun c.in_ok-splitter.ensures.count
