use Rattle.controllers.specs.Whole.{reconciler_at}
use Rattle.controllers.proofs.Turns.{pods_in_turn}
use Rattle.controllers.proofs.Wholes.{if_some_by, made, of_sets, sound}
use Rattle.controllers.proofs.whole.run_whole.Goals as goal

pub run_whole-requires : goal.run_whole-requires
run_whole-requires g c = c.requires

pub returns-clause-whole : goal.returns-clause-whole
returns-clause-whole g c = λ none. c.run_whole.ensures.whole none (reconciler_at c.args.controllers.now) (made c.args.controllers.now)

pub returns-clause-begun : goal.returns-clause-begun
returns-clause-begun g c = c.run_whole.ensures.begun (reconciler_at c.args.controllers.now) (made c.args.controllers.now)

pub returns-clause-many : goal.returns-clause-many
returns-clause-many g c = c.run_whole.ensures.many

pub returns-clause-stand : goal.returns-clause-stand
returns-clause-stand g c = λ none. c.run_whole.ensures.stand none (reconciler_at c.args.controllers.now) (made c.args.controllers.now)

pub returns-clause-stopped : goal.returns-clause-stopped
returns-clause-stopped g c =
    if_some_by _ _ c.run_whole.result.fault (λ fault stopped. stopped (reconciler_at c.args.controllers.now) (made c.args.controllers.now)) c.run_whole.ensures.stopped

pub returns-clause-promises : goal.returns-clause-promises
returns-clause-promises g c = λ reached.
    let all = c.args.controllers.now in
    let kept = c.run_whole.ensures.promises (reconciler_at all) (made all) (sound all) reached in
    (kept.0, kept.1, kept.2, kept.3, pods_in_turn (reconciler_at all) _ (of_sets all) kept.3.creates)

pub returns-clause-reached : goal.returns-clause-reached
returns-clause-reached g c = c.run_whole.ensures.reached
