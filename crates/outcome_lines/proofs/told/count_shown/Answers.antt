use Rattle.std.proofs.Common.{◌+◌, ◌∙◌, ap, refl}
use Rattle.outcomes.specs.Names.{objects_of}
use Rattle.outcome_lines.specs.Brief.{times_shown}
use Rattle.outcome_lines.specs.ObjectWords.{times_among, times_in}
use Rattle.outcome_lines.proofs.ByText.{counts_end, counts_on}
use Rattle.outcome_lines.proofs.told.count_shown.Goals as goal

pub loop-reply-preserved : goal.loop-reply-preserved
loop-reply-preserved c =
    counts_on (λ r t. times_among (objects_of r) t) (times_shown) c.args.shown.now c.loop-reply.reply-index (λ x ys t. refl) c.reply-item.result c.loop-reply-test.true c.reply-item.is (times_in c.loop-reply.counts.entries)
    (times_in c.count_objects.new.counts.entries) _ (λ t. c.in_ok-count_objects.ensures t ∙ ap (λ os. times_among os t + times_in c.loop-reply.counts.entries t) c.objects_of.ensures) c.loop-reply.invariant

pub returns : goal.returns
returns c =
    counts_end (λ r t. times_among (objects_of r) t) (times_shown) c.args.shown.now c.loop-reply.reply-index (λ t. refl) c.loop-reply-test.false (times_in c.loop-reply.counts.entries) _ c.loop-reply.invariant
