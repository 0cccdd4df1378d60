use Rattle.std.proofs.Common.{◌+◌, ◌∙◌, ap, refl}
use Rattle.std.specs.Prelude.{bytes_eq, if◌then◌else◌}
use Rattle.outcome_lines.specs.ObjectWords.{lists_in, times, times_in}
use Rattle.outcome_lines.proofs.ByText.{counts_end, counts_on}
use Rattle.outcome_lines.proofs.object_texts.count_texts.Goals as goal

pub loop-text-preserved : goal.loop-text-preserved
loop-text-preserved c =
    counts_on (λ x t. if bytes_eq x.items t then 1 else 0) (λ xs t. times (lists_in xs) t) c.args.texts.now c.loop-text.text-index (λ x ys t. refl) c.text-item.result c.loop-text-test.true c.text-item.is (times_in c.loop-text.counts.entries)
    (times_in c.count.new.numbers.entries) _ (λ t. c.in_ok-count.ensures t ∙ ap (λ n. (if bytes_eq n t then 1 else 0) + times_in c.loop-text.counts.entries t) c.as_slice.ensures.value) c.loop-text.invariant

pub returns : goal.returns
returns c =
    counts_end (λ x t. if bytes_eq x.items t then 1 else 0) (λ xs t. times (lists_in xs) t) c.args.texts.now c.loop-text.text-index (λ t. refl) c.loop-text-test.false (times_in c.loop-text.counts.entries) _ c.loop-text.invariant
