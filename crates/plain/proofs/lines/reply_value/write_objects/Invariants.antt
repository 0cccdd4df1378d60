use Rattle.std.proofs.Common.{◌≡◌, ◌++◌, drop}
use Rattle.json.specs.Tree.{items_tokens}
use Rattle.serde_json.specs.Written.{items_outline}
use Rattle.plain.specs.Replies.{printed_items}
use Rattle.plain.proofs.lines.reply_value.write_objects.Given as goal

-- what is written and what is left to write make the whole
abbrev pub invariant-loop-object : goal.invariant-loop-object
invariant-loop-object l = record {
  tokens : l.out.tokens ++ items_tokens (items_outline (printed_items (drop l.object-index l.objects))) ≡ l.fn.out.tokens ++ items_tokens (items_outline (printed_items l.objects));
  before : l.out.before ≡ l.fn.out.before;
}
