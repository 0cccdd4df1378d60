use Rattle.std.proofs.Common.{◌+◌, ◌∙◌, ap, refl}
use Rattle.outcome_lines.specs.Brief.{times_told, told_objects}
use Rattle.outcome_lines.specs.ObjectWords.{times_among, times_in}
use Rattle.outcome_lines.proofs.ByText.{counts_end, counts_on}
use Rattle.outcome_lines.proofs.told.count_told.Goals as goal

pub loop-one-preserved : goal.loop-one-preserved
loop-one-preserved c =
    counts_on (λ r t. times_among (told_objects r) t) (times_told) c.args.told.now c.loop-one.one-index (λ x ys t. refl) c.one-item.result c.loop-one-test.true c.one-item.is (times_in c.loop-one.counts.entries)
    (times_in c.count_objects.new.counts.entries) _ (λ t. c.in_ok-count_objects.ensures t ∙ ap (λ os. times_among os t + times_in c.loop-one.counts.entries t) c.told_objects.ensures) c.loop-one.invariant

pub returns : goal.returns
returns c =
    counts_end (λ r t. times_among (told_objects r) t) (times_told) c.args.told.now c.loop-one.one-index (λ t. refl) c.loop-one-test.false (times_in c.loop-one.counts.entries) _ c.loop-one.invariant
