use Rattle.std.proofs.Common.{◌≡◌, ℕ, List, drop}
use Rattle.outcome_lines.specs.ObjectWords.{first_among, lower, number_in}
use Rattle.outcome_lines.proofs.object_texts.note_firsts.Given as goal

abbrev pub invariant-loop-object : goal.invariant-loop-object
invariant-loop-object l = (t : List ℕ) → lower (number_in l.firsts.entries t) (first_among (drop l.object-index l.objects) t)
    ≡ lower (number_in l.fn.firsts.entries t) (first_among l.objects t)
