use Rattle.std.proofs.Common.{sym, ◌∙◌}
use Rattle.compact_objects.proofs.Lines.{begins, taken_map, told_of_line}
use Rattle.compact_objects.proofs.print.draft_of_line.Goals as goal

pub returns : goal.returns
returns c line is =
    let t = taken_map line c.args.text.now _ c.args.tables.now is (begins c.args.text.now (sym c.starts_with.ensures.value ∙ c.if-not-starts_with.false)) in
    told_of_line line c.args.text.now c.args.tables.now c.of.result t (c.of.ensures t.members t.now t.noted t.canonical.1)
