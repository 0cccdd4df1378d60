use Rattle.participants.proofs.Lists.{drop_past}
use Rattle.participants.proofs.Telling.{copied_or, latest-next, said_all}
use Rattle.participants.proofs.answered.last_reply.Goals as goal
use Rattle.participants.specs.Callers.{latest}
use Rattle.participants.specs.Stands.{told_in}
use Rattle.std.proofs.Common.{None, Some, ap, sym, ◌∙◌}
use Rattle.std.specs.Option.{option_copied, option_or}

pub loop-mark-preserved : goal.loop-mark-preserved
loop-mark-preserved c =
    let table = c.args.table.now in
    let marks = c.deref-mark-items.result.now in
    let found = c.loop-mark.found in
    latest-next Some table marks c.loop-mark.mark-index _ (option_copied found) (option_copied c.or-found.result) (latest Some None (told_in table marks)) c.loop-mark-test.true c.loop-mark.invariant
    (ap option_copied c.or-found.ensures ∙ copied_or c.reply_at.result found ∙ ap (λ o. option_or o (option_copied found)) (c.reply_at.ensures ∙ said_all _))

pub returns : goal.returns
returns c =
    let table = c.args.table.now in
    let marks = c.deref-mark-items.result.now in
    sym (ap (λ ms. latest Some (option_copied c.loop-mark.found) (told_in table ms)) (drop_past marks c.loop-mark.mark-index c.loop-mark-test.false)) ∙ c.loop-mark.invariant
    ∙ ap (λ ms. latest Some None (told_in table ms)) c.deref-mark-items.ensures.value
