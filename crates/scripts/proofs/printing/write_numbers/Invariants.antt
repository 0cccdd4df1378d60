use Rattle.std.proofs.Common.{◌≡◌, ◌++◌, drop}
use Rattle.json.specs.Tree.{items_tokens}
use Rattle.serde_json.specs.Written.{items_outline}
use Rattle.scripts.specs.Printing.{numbers}
use Rattle.scripts.proofs.printing.write_numbers.Given as goal

-- what is written and what is left to write are together the whole
abbrev pub invariant-loop-place : goal.invariant-loop-place
invariant-loop-place l = record {
  tokens : l.out.tokens ++ items_tokens (items_outline (numbers (drop l.place-index l.places))) ≡ l.fn.out.tokens ++ items_tokens (items_outline (numbers l.places));
  before : l.out.before ≡ l.fn.out.before;
}
