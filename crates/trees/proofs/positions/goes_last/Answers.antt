use Rattle.std.proofs.Common.{◌-◌, length, nat_cmp, sym, ap, ◌∙◌, arith}
use Rattle.std.specs.Ordering.{is_lt}
use Rattle.std.specs.Cmp.Lexicographic.{slice_cmp}
use Rattle.trees.proofs.EntryPositions.{last_is}
use Rattle.trees.proofs.positions.goes_last.Goals as goal

pub returns-in-Some : goal.returns-in-Some
returns-in-Some c =
    let es = c.args.entries.now in
    let k = c.args.key.now in
    let item = c.in-Some.ensures.item in
    let name = c.as_str.ensures in
    c.lt.ensures ∙ ap (λ n. is_lt (slice_cmp nat_cmp n k)) name ∙ sym (last_is k c.in-Some.field-0.now es (length es - 1) (omega arith) item.1)
