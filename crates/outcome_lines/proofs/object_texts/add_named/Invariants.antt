use Rattle.std.proofs.Common.{◌++◌, ◌≡◌, drop}
use Rattle.outcome_lines.specs.ObjectWords.{all_named, lists_in}
use Rattle.outcome_lines.proofs.object_texts.add_named.Given as goal

-- what is added and what is left to add are together the whole
abbrev pub invariant-loop-text : goal.invariant-loop-text
invariant-loop-text l = lists_in l.texts.items ++ all_named l.name (lists_in (drop l.text-index l.leaves))
    ≡ lists_in l.fn.texts.items ++ all_named l.name (lists_in l.leaves)
