use Rattle.std.proofs.Common.{◌∙◌, ap, refl}
use Rattle.outcome_lines.specs.Brief.{first_told, told_objects}
use Rattle.outcome_lines.specs.ObjectWords.{first_among, lower, number_in}
use Rattle.outcome_lines.proofs.ByText.{firsts_end, firsts_on}
use Rattle.outcome_lines.proofs.told.note_told.Goals as goal

pub loop-one-preserved : goal.loop-one-preserved
loop-one-preserved c =
    firsts_on (λ r. first_among (told_objects r)) first_told c.args.told.now c.loop-one.one-index (λ x ys t. refl) c.one-item.result c.loop-one-test.true c.one-item.is (number_in c.loop-one.firsts.entries)
    (number_in c.note_firsts.new.firsts.entries) _ (λ t. c.in_ok-note_firsts.ensures t ∙ ap (λ os. lower (number_in c.loop-one.firsts.entries t) (first_among os t)) c.told_objects.ensures) c.loop-one.invariant

pub returns : goal.returns
returns c =
    firsts_end (λ r. first_among (told_objects r)) first_told c.args.told.now c.loop-one.one-index (λ t. refl) c.loop-one-test.false (number_in c.loop-one.firsts.entries) _ c.loop-one.invariant
