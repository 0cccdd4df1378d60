use Rattle.std.proofs.Common.{None, Some, ap, ◌∙◌, sym}
use Rattle.std.proofs.lemmas.Result.{IfOk-weaker}
use Rattle.participants.proofs.Lists.{item_got}
use Rattle.outcome_lines.specs.Lined.{told_at}
use Rattle.outcome_lines.proofs.Lines.{told_there}
use Rattle.outcome_lines.proofs.lined.told_to.Goals as goal

pub returns-in-Some : goal.returns-in-Some
returns-in-Some c =
    let there = sym (item_got c.args.told.now c.args.one.now.participant (Some c.in-Some.all) c.in-Some.ensures.lookup.3) in
    IfOk-weaker c.told_at.result _ _
    (λ t is. is ∙ ap (λ ts. told_at ts c.args.one.now.index) c.as_slice.ensures.value ∙ sym (told_there c.args.told.now c.args.one.now (Some c.in-Some.all.now) there))
    c.told_at.ensures

pub returns-in-None : goal.returns-in-None
returns-in-None c = sym (told_there c.args.told.now c.args.one.now None (sym (item_got c.args.told.now c.args.one.now.participant None c.in-None.ensures.lookup.3)))
