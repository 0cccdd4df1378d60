use Rattle.std.proofs.Common.{◌≡◌, ◌++◌, drop}
use Rattle.json.specs.Tree.{items_tokens}
use Rattle.serde_json.specs.Written.{items_outline}
use Rattle.outcome_lines.specs.Printing.{move_items}
use Rattle.outcome_lines.proofs.printing.write_moves.Given as goal

-- what is written and what is left to write are together the whole
abbrev pub invariant-loop-happens : goal.invariant-loop-happens
invariant-loop-happens l = record {
  tokens : l.out.tokens ++ items_tokens (items_outline (move_items (drop l.happens-index l.order)))
      ≡ l.fn.out.tokens ++ items_tokens (items_outline (move_items l.order));
  before : l.out.before ≡ l.fn.out.before;
}
