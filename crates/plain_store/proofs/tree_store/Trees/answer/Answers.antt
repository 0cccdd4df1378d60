use Rattle.std.proofs.Common.{ap, rules, sym, ◌∙◌}
use Rattle.requests.specs.declared.reply.Reply.TheVariants.{Compacted, Refused}
use Rattle.plain_store.specs.Route.{route}
use Rattle.plain_store.specs.Store.{Store, compacted_to, step}
use Rattle.plain_store.proofs.Steps.{compaction_step}
use Rattle.plain_store.proofs.tree_store.Trees.answer.Goals as goal

pub returns-in-Some-clause-step : goal.returns-in-Some-clause-step
returns-in-Some-clause-step c =
    let s = c.args.self.now in
    let to = c.in-Compact.to in
    ap (λ (t : Store). (t, Refused c.in-Some.reason)) (c.raise_floor.ensures.raised ∙ ap (λ d. (compacted_to s to d).0) c.in-Some.is)
    ∙ compaction_step s to _ (sym c.in-Some.is ∙ c.raise_floor.ensures.denied) ∙ ap (step s) (sym c.in-Compact.is)

pub returns-in-None-clause-step : goal.returns-in-None-clause-step
returns-in-None-clause-step c =
    let s = c.args.self.now in
    let to = c.in-Compact.to in
    ap (λ (t : Store). (t, Compacted to)) (c.raise_floor.ensures.raised ∙ ap (λ d. (compacted_to s to d).0) c.in-None.is)
    ∙ compaction_step s to _ (sym c.in-None.is ∙ c.raise_floor.ensures.denied) ∙ ap (step s) (sym c.in-Compact.is)

pub returns-in-Get-clause-step : goal.returns-in-Get-clause-step
unfolding step route
returns-in-Get-clause-step c = search rules
