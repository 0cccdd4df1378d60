use Rattle.outcome_lines.proofs.Lines.{held_at, passed_none, passed_one}
use Rattle.std.proofs.Common.{rules}
use Rattle.outcome_lines.proofs.lined.pass_at.Goals as goal

pub returns-then-number-len : goal.returns-then-number-len
returns-then-number-len c =
    passed_one c.args.left.now.items c.args.number c.index_mut.result.now c.pass_first.new.lines (held_at c.args.left.now.items c.args.number c.index_mut.result.now (search rules) c.index_mut.ensures.value) c.pass_first.ensures

pub returns-else-number-len : goal.returns-else-number-len
returns-else-number-len c = passed_none c.args.left.now.items c.args.number (search rules)
