use Rattle.std.proofs.Common.{subst}
use Rattle.requests.specs.declared.request.Request.TheVariants.{Create}
use Rattle.rounds.specs.Incarnation.{Follows, phase_after}
use Rattle.rounds.specs.Phase.{reading_set}
use Rattle.rounds.specs.Transcript.{of_incarnation}
use Rattle.rounds.proofs.Entries.{asks_at}
use Rattle.rounds.proofs.Knowing.{created_by, known}
use Rattle.rounds.proofs.laws.creates_are_planned.Goals as goal

pub returns : goal.returns
returns c = λ reconcilers capacity entries sound is before later incarnation d reply at.
    let r = reconcilers incarnation.controller in
    let own = of_incarnation incarnation before in
    let asked = asks_at r reading_set incarnation before (Create d) reply later (subst (λ es. Follows r reading_set (of_incarnation incarnation es)) at (is.incarnations incarnation)) in
    created_by r own (phase_after r reading_set own) d (sound incarnation.controller) (known r own asked.0) asked.1
