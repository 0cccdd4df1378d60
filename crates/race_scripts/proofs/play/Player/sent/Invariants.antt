use Rattle.race_scripts.specs.Play.{AreOnTheWay}
use Rattle.race_scripts.proofs.play.Player.sent.Given as goal

abbrev pub invariant-loop-happens : goal.invariant-loop-happens
invariant-loop-happens l = AreOnTheWay l.self.team.replies l.self.team.stands.items
