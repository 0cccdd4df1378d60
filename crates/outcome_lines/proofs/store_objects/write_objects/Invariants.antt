use Rattle.std.proofs.Common.{◌≡◌, ◌++◌, drop}
use Rattle.json.specs.Tree.{items_tokens}
use Rattle.serde_json.specs.Written.{items_outline}
use Rattle.outcome_lines.specs.Stores.{objects_in, store_items}
use Rattle.outcome_lines.proofs.store_objects.write_objects.Given as goal

-- what is written and what is left to write are together the whole
abbrev pub invariant-loop-reply : goal.invariant-loop-reply
invariant-loop-reply l = record {
  tokens : l.out.tokens ++ items_tokens (items_outline (store_items (objects_in (drop l.reply-index l.shown))))
      ≡ l.fn.out.tokens ++ items_tokens (items_outline (store_items (objects_in l.shown)));
  before : l.out.before ≡ l.fn.out.before;
}
