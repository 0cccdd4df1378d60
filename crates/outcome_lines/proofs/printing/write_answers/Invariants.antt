use Rattle.std.proofs.Common.{◌≡◌, ◌++◌, length}
use Rattle.json.specs.Tree.{items_tokens}
use Rattle.serde_json.specs.Written.{items_outline}
use Rattle.outcome_lines.specs.Printing.{answers}
use Rattle.outcome_lines.proofs.printing.write_answers.Given as goal

-- what is written and what is left to write are together the whole
abbrev pub invariant-answers : goal.invariant-answers
invariant-answers l = record {
  tokens : l.out.tokens ++ items_tokens (items_outline (answers l.sent_left l.told_left))
      ≡ l.fn.out.tokens ++ items_tokens (items_outline (answers l.sent l.told));
  before : l.out.before ≡ l.fn.out.before;
}

abbrev pub decreases-answers : goal.decreases-answers
decreases-answers l = length l.sent_left
