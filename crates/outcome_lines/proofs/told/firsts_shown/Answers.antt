use Rattle.std.proofs.Common.{◌∙◌, ap, refl}
use Rattle.outcomes.specs.Names.{objects_of}
use Rattle.outcome_lines.specs.Brief.{first_shown}
use Rattle.outcome_lines.specs.ObjectWords.{first_among, lower, number_in}
use Rattle.outcome_lines.proofs.ByText.{firsts_end, firsts_on}
use Rattle.outcome_lines.proofs.told.firsts_shown.Goals as goal

pub loop-reply-preserved : goal.loop-reply-preserved
loop-reply-preserved c =
    firsts_on (λ r. first_among (objects_of r)) first_shown c.args.shown.now c.loop-reply.reply-index (λ x ys t. refl) c.reply-item.result c.loop-reply-test.true c.reply-item.is (number_in c.loop-reply.firsts.entries)
    (number_in c.note_firsts.new.firsts.entries) _ (λ t. c.in_ok-note_firsts.ensures t ∙ ap (λ os. lower (number_in c.loop-reply.firsts.entries t) (first_among os t)) c.objects_of.ensures) c.loop-reply.invariant

pub returns : goal.returns
returns c =
    firsts_end (λ r. first_among (objects_of r)) first_shown c.args.shown.now c.loop-reply.reply-index (λ t. refl) c.loop-reply-test.false (number_in c.loop-reply.firsts.entries) _ c.loop-reply.invariant
