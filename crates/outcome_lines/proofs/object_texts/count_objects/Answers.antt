use Rattle.std.proofs.Common.{refl}
use Rattle.outcome_lines.specs.ObjectWords.{object_texts, times, times_among, times_in}
use Rattle.outcome_lines.proofs.ByText.{counts_end, counts_on}
use Rattle.outcome_lines.proofs.object_texts.count_objects.Goals as goal

pub loop-object-preserved : goal.loop-object-preserved
loop-object-preserved c =
    counts_on (λ o t. times (object_texts o) t) (times_among) c.args.objects.now c.loop-object.object-index (λ x ys t. refl) c.object-item.result c.loop-object-test.true c.object-item.is (times_in c.loop-object.counts.entries)
    (times_in c.count_object.new.counts.entries) _ (c.in_ok-count_object.ensures) c.loop-object.invariant

pub returns : goal.returns
returns c =
    counts_end (λ o t. times (object_texts o) t) (times_among) c.args.objects.now c.loop-object.object-index (λ t. refl) c.loop-object-test.false (times_in c.loop-object.counts.entries) _ c.loop-object.invariant
