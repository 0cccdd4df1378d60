use Rattle.std.proofs.Common.{◌++◌, ◌≡◌, codes, length}
use Rattle.outcome_lines.specs.Brief.{exchanges_words}
use Rattle.outcome_lines.specs.ObjectWords.{known_of, lists_in}
use Rattle.outcome_lines.proofs.brief_words.put_exchanges.Given as goal

-- what is appended and what is left to append are together the whole
abbrev pub invariant-exchanges : goal.invariant-exchanges
invariant-exchanges l = l.out.items ++ exchanges_words (known_of l.known) l.lead (lists_in l.requests_left) l.told_left
    ≡ l.fn.out.items ++ exchanges_words (known_of l.known) (codes " ") (lists_in l.requests) l.told

abbrev pub decreases-exchanges : goal.decreases-exchanges
decreases-exchanges l = length l.requests_left
