use Rattle.std.proofs.Common.{refl, rules}
use Rattle.race_log.proofs.LivePods.{removed}
use Rattle.race_log.proofs.twice.LivePods.on_reply.Goals as goal

pub returns-in-Removed-clause-known : goal.returns-in-Removed-clause-known
returns-in-Removed-clause-known c = λ earlier known.
    removed c.args.self.now _ c.args.reply.now c.in-Removed.object c.object.inside.key earlier (search rules) (search rules) c.remove.ensures.updates.0 refl known
