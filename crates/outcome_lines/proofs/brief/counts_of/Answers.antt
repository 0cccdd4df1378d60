use Rattle.std.proofs.Common.{◌+◌, refl}
use Rattle.outcome_lines.specs.Brief.{times_found, times_shown, times_told, told_of}
use Rattle.outcome_lines.specs.ObjectWords.{times_in}
use Rattle.outcome_lines.proofs.ByText.{counts_end, counts_on}
use Rattle.outcome_lines.proofs.brief.counts_of.Goals as goal

pub loop-end-preserved : goal.loop-end-preserved
loop-end-preserved c =
    let a = c.args.asked.now in
    counts_on (λ e t. times_told (told_of a e) t + times_shown e.looks.items t) (times_found a) c.args.found.now c.loop-end.end-index (λ x ys t. refl) c.end-item.result c.loop-end-test.true c.end-item.is (times_in c.loop-end.counts.entries)
    (times_in c.count_end.new.counts.entries) _ c.in_ok-count_end.ensures c.loop-end.invariant

pub returns : goal.returns
returns c =
    let a = c.args.asked.now in
    counts_end (λ e t. times_told (told_of a e) t + times_shown e.looks.items t) (times_found a) c.args.found.now c.loop-end.end-index (λ t. refl) c.loop-end-test.false (times_in c.loop-end.counts.entries) _ c.loop-end.invariant
