use Rattle.std.proofs.Common.{◌++◌, ◌≡◌, drop, map}
use Rattle.commands.specs.Noting.{standing_in}
use Rattle.first_rounds.specs.Notes.{standing_parts}
use Rattle.commands.proofs.notes.standing_in.Given as goal

-- those that were found and those that are left are all
abbrev pub invariant-loop-participant : goal.invariant-loop-participant
invariant-loop-participant l = map standing_parts l.all.items ++ standing_in (drop l.participant-index l.participants) l.left
    ≡ standing_in l.participants l.lines
