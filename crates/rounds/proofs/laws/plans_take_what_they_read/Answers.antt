use Rattle.std.proofs.Common.{◌∷◌, Some, ap, subst, sym, ◌∙◌}
use Rattle.requests.specs.declared.request.Request.TheVariants.{Delete}
use Rattle.plain_store.specs.Store.{opening}
use Rattle.plain_store.specs.Taken.{taken}
use Rattle.rounds.proofs.Deletes.{plan_takes}
use Rattle.rounds.proofs.Entries.{IsStepwise, stepwise, stepwise_at, stepwise_before}
use Rattle.rounds.proofs.laws.plans_take_what_they_read.Goals as goal

pub returns : goal.returns
returns c = λ reconcilers capacity entries sound is before later incarnation k uid version at reply o where' told plan.
    let run = subst (IsStepwise (opening capacity)) where' (stepwise (opening capacity) entries is.run) in
    let here = stepwise_at (opening capacity) before ((Some incarnation, Delete k uid version at, reply) ∷ later) run in
    (plan_takes (reconcilers incarnation.controller) capacity before incarnation k uid version at o is.least is.most
    (stepwise_before (opening capacity) before ((Some incarnation, Delete k uid version at, reply) ∷ later) run) (sound incarnation.controller) plan (ap taken (sym here.0) ∙ told)).0
