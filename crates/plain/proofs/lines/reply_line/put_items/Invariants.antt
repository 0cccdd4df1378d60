use Rattle.std.proofs.Common.{◌≡◌, ◌++◌, drop, false, map}
use Rattle.serde_json.specs.Written.{items_text}
use Rattle.plain.specs.Replies.{printed_items}
use Rattle.plain.proofs.lines.reply_line.put_items.Given as goal

-- what is written and what is left to write make the whole
abbrev pub invariant-loop-object : goal.invariant-loop-object
invariant-loop-object l = l.out.items ++ items_text l.later (printed_items (map (λ o. o.now) (drop l.object-index l.objects))) ≡ l.fn.out.items ++ items_text false (printed_items (map (λ o. o.now) l.objects))
