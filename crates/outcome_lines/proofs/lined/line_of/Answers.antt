use Rattle.std.proofs.Common.{None, Some, ap, ◌∙◌, sym}
use Rattle.participants.proofs.Lists.{item_got}
use Rattle.outcome_lines.specs.Lined.{first_line}
use Rattle.outcome_lines.proofs.Lines.{line_at}
use Rattle.outcome_lines.proofs.lined.line_of.Goals as goal

pub returns-in-Some : goal.returns-in-Some
returns-in-Some c =
    c.first_line.ensures ∙ ap first_line c.as_slice.ensures.value
    ∙ sym (line_at c.args.left.now c.args.number (Some c.in-Some.lines.now) (sym (item_got c.args.left.now c.args.number (Some c.in-Some.lines) c.in-Some.ensures.lookup.3)))

pub returns-in-None : goal.returns-in-None
returns-in-None c = sym (line_at c.args.left.now c.args.number None (sym (item_got c.args.left.now c.args.number None c.in-None.ensures.lookup.3)))
