use Rattle.std.proofs.Common.{slice_set, subst, sym}
use Rattle.participants.specs.declared.stand.Stand.{Stand}
use Rattle.race_scripts.specs.Play.{AreOnTheWay}
use Rattle.race_scripts.proofs.Walking.{all_grown, one_moved}
use Rattle.race_scripts.proofs.team.Team.take.Goals as goal

pub returns-in_ok-next : goal.returns-in_ok-next
returns-in_ok-next c =
    let stands = c.args.self.now.stands.items in
    let replies = c.takes.new.replies in
    let next = c.in_ok-next.ensures in
    subst (λ (s : Stand). AreOnTheWay replies (slice_set stands c.args.number s)) (sym c.replace.ensures.after)
    (one_moved replies stands c.args.number c.in_ok-next.next (all_grown c.args.self.now.replies replies stands c.requires next.named next.grows) next.within)
