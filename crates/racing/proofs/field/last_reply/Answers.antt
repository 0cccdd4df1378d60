use Rattle.std.proofs.Common.{sym}
use Rattle.racing.proofs.Last.{last_is, last_none}
use Rattle.racing.proofs.field.last_reply.Goals as goal

pub returns-in-Some : goal.returns-in-Some
returns-in-Some c = sym (last_is c.args.exchanges.now c.in-Some.last.now (sym c.in-Some.ensures.value))

pub returns-in-None : goal.returns-in-None
returns-in-None c = sym (last_none c.args.exchanges.now (sym c.in-None.ensures.value))
