use Rattle.participants.proofs.Lists.{drop_past}
use Rattle.participants.proofs.Telling.{copied_or, latest-next}
use Rattle.participants.proofs.answered.last_object.Goals as goal
use Rattle.participants.specs.Callers.{latest, object_told}
use Rattle.participants.specs.Stands.{told_in}
use Rattle.std.proofs.Common.{None, ap, sym, ◌∙◌}
use Rattle.std.specs.Option.{option_copied, option_or}

pub loop-mark-preserved : goal.loop-mark-preserved
loop-mark-preserved c =
    let table = c.args.table.now in
    let marks = c.deref-mark-items.result.now in
    let found = c.loop-mark.found in
    latest-next object_told table marks c.loop-mark.mark-index _ (option_copied found) (option_copied c.or-found.result) (latest object_told None (told_in table marks)) c.loop-mark-test.true c.loop-mark.invariant
    (ap option_copied c.or-found.ensures ∙ copied_or c.object_at.result found ∙ ap (λ o. option_or o (option_copied found)) (c.object_at.ensures))

pub returns : goal.returns
returns c =
    let table = c.args.table.now in
    let marks = c.deref-mark-items.result.now in
    sym (ap (λ ms. latest object_told (option_copied c.loop-mark.found) (told_in table ms)) (drop_past marks c.loop-mark.mark-index c.loop-mark-test.false)) ∙ c.loop-mark.invariant
    ∙ ap (λ ms. latest object_told None (told_in table ms)) c.deref-mark-items.ensures.value
