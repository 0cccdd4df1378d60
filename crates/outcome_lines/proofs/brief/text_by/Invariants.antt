use Rattle.outcome_lines.specs.Brief.{ends_said, is_among}
use Rattle.outcome_lines.specs.ObjectWords.{lists_in, number_in, times_in}
use Rattle.outcome_lines.proofs.Firsts.{AreTold}
use Rattle.outcome_lines.proofs.brief.text_by.Given as goal

abbrev pub invariant-loop-at : goal.invariant-loop-at
invariant-loop-at l = AreTold (ends_said l.question (times_in l.counts.entries) (number_in l.begun.entries) l.asked l.found) l.at (is_among (lists_in l.seen.keys)) l.text.items l.apart
