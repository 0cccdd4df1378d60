use Rattle.std.proofs.Common.{ap, sym, ◌∙◌}
use Rattle.requests.specs.declared.reply.Reply.TheVariants.{Compacted, Refused}
use Rattle.plain_store.specs.Store.{Store, compacted_to}
use Rattle.plain_store.proofs.Steps.{compaction_step}
use Rattle.plain_store.proofs.store.Plain.compact.Goals as goal

pub returns-in-Some : goal.returns-in-Some
returns-in-Some c =
    let s = c.args.self.now in
    ap (λ (t : Store). (t, Refused c.in-Some.reason)) (c.raise_floor.ensures.raised ∙ ap (λ d. (compacted_to s c.args.to d).0) c.in-Some.is)
    ∙ compaction_step s c.args.to _ (sym c.in-Some.is ∙ c.raise_floor.ensures.denied)

pub returns-in-None : goal.returns-in-None
returns-in-None c =
    let s = c.args.self.now in
    ap (λ (t : Store). (t, Compacted c.args.to)) (c.raise_floor.ensures.raised ∙ ap (λ d. (compacted_to s c.args.to d).0) c.in-None.is)
    ∙ compaction_step s c.args.to _ (sym c.in-None.is ∙ c.raise_floor.ensures.denied)
