use Rattle.std.proofs.Common.{arith, slice_set, subst, sym}
use Rattle.indexmap.specs.IndexMap.{values}
use Rattle.participants.specs.declared.stand.Stand.{Stand}
use Rattle.race_scripts.specs.Play.{AreOnTheWay}
use Rattle.race_scripts.proofs.Walking.{one_moved, one_within}
use Rattle.race_scripts.proofs.team.Team.crash.Goals as goal

pub returns-in_ok-next : goal.returns-in_ok-next
returns-in_ok-next c =
    let stands = c.args.self.now.stands.items in
    let replies = c.args.self.now.replies in
    let stood = one_within replies stands c.args.number c.index.result.now c.requires (omega arith) c.index.ensures in
    subst (λ (s : Stand). AreOnTheWay replies (slice_set stands c.args.number s)) (sym c.replace.ensures.after)
    (one_moved replies stands c.args.number c.in_ok-next.next c.requires (c.in_ok-next.ensures.within (values replies.named) stood))
