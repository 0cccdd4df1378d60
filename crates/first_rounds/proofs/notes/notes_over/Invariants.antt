use Rattle.std.proofs.Common.{◌++◌, ◌≡◌, drop, map, string_bytes}
use Rattle.first_rounds.specs.Notes.{notes_over, standing_parts}
use Rattle.first_rounds.proofs.notes.notes_over.Given as goal

abbrev pub invariant-loop-standing : goal.invariant-loop-standing
invariant-loop-standing l = string_bytes l.text ++ notes_over l.store (map standing_parts (drop l.standing-index l.controllers))
    ≡ notes_over l.store (map standing_parts l.controllers)
