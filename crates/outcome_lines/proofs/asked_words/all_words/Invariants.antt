use Rattle.std.proofs.Common.{◌≡◌, map, take}
use Rattle.outcome_lines.specs.AskedWords.{sent_words}
use Rattle.outcome_lines.specs.ObjectWords.{lists_in}
use Rattle.outcome_lines.proofs.asked_words.all_words.Given as goal

abbrev pub invariant-loop-one : goal.invariant-loop-one
invariant-loop-one l = lists_in l.all.items ≡ map (sent_words l.participants) (take l.one-index l.sent)
