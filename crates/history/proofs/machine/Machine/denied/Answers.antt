use Rattle.std.proofs.Common.{sym}
use Rattle.plain_store.proofs.Denials.{denied_above, denied_below, not_denied}
use Rattle.history.proofs.machine.Machine.denied.Goals as goal

pub returns-then-self-number : goal.returns-then-self-number
returns-then-self-number c = sym (denied_above c.args.self.now.floor c.args.self.now.frontier c.args.number c.if-self-number.true)

pub returns-then-number-self : goal.returns-then-number-self
returns-then-number-self c = sym (denied_below c.args.self.now.floor c.args.self.now.frontier c.args.number c.if-self-number.false c.if-number-self.true)

pub returns-else-number-self : goal.returns-else-number-self
returns-else-number-self c = sym (not_denied c.args.self.now.floor c.args.self.now.frontier c.args.number c.if-number-self.false c.if-self-number.false)
