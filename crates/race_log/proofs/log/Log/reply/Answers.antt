use Rattle.std.proofs.Common.{rules}
use Rattle.std.specs.BTreeMap.{get}
use Rattle.std.specs.Ordering.{nat_cmp}
use Rattle.race_log.specs.Logged.{Noted}
use Rattle.race_log.proofs.Noting.{reply_merely}
use Rattle.race_log.proofs.log.Log.reply.Goals as goal

pub invariant_of-self-2 : goal.invariant_of-self-2
invariant_of-self-2 c =
    let n : Noted = record { items = c.args.self.now.items.items; open_calls = get nat_cmp c.args.self.now.open_calls; stamps = c.args.self.now.stamps.items } in
    record { noted = reply_merely n _ c.args.caller c.args.number c.args.reply c.args.self.now.noted (search rules) (search rules) (search rules) }
