use Rattle.std.proofs.Common.{◌≡◌, ◌++◌, List, drop}
use Rattle.json.specs.Tree.{items_tokens}
use Rattle.objects.specs.declared.object.Object.{Object}
use Rattle.serde_json.specs.Written.{items_outline}
use Rattle.outcome_lines.specs.Stores.{store_items}
use Rattle.outcome_lines.proofs.store_objects.write_listed.Given as goal

-- what is written and what is left to write are together the whole
abbrev pub invariant-loop-object : goal.invariant-loop-object
invariant-loop-object l = record {
  tokens : (others : List Object) → l.out.tokens ++ items_tokens (items_outline (store_items (drop l.object-index l.objects ++ others)))
      ≡ l.fn.out.tokens ++ items_tokens (items_outline (store_items (l.objects ++ others)));
  before : l.out.before ≡ l.fn.out.before;
}
