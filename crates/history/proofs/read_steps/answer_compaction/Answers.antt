use Rattle.std.proofs.Common.{sym, ap}
use Rattle.plain_store.proofs.Denials.{denied_above, denied_below, not_denied}
use Rattle.history.specs.Replayed.{compaction_at}
use Rattle.history.proofs.read_steps.answer_compaction.Goals as goal

pub returns-then-number-to : goal.returns-then-number-to
returns-then-number-to c = ap (compaction_at c.args.number c.args.to) (sym (denied_above c.args.number c.args.number c.args.to c.if-number-to.true))

pub returns-then-to-number : goal.returns-then-to-number
returns-then-to-number c = ap (compaction_at c.args.number c.args.to) (sym (denied_below c.args.number c.args.number c.args.to c.if-number-to.false c.if-to-number.true))

pub returns-else-to-number : goal.returns-else-to-number
returns-else-to-number c = ap (compaction_at c.args.number c.args.to) (sym (not_denied c.args.number c.args.number c.args.to c.if-to-number.false c.if-number-to.false))
