use Rattle.std.proofs.Common.{◌≡◌, Some, drop}
use Rattle.race_scripts.specs.Leading.{all_behind}
use Rattle.race_scripts.proofs.same_sets.are_sets_of.Given as goal

abbrev pub invariant-loop-participant : goal.invariant-loop-participant
invariant-loop-participant l = all_behind (drop l.participant-index l.participants) (Some l.left) ≡ all_behind l.participants (Some l.sets)
