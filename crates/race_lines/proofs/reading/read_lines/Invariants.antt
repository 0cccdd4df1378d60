use Rattle.std.proofs.Common.{◌+◌, ◌≡◌, ◌≤◌, length}
use Rattle.plain.specs.Lines.{lines}
use Rattle.race_lines.specs.RaceTexts.{race_parts, with_lines}
use Rattle.race_lines.proofs.reading.read_lines.Given as goal

-- lines are no more than bytes
abbrev pub invariant-lines : goal.invariant-lines
invariant-lines l = record {
  same : with_lines (race_parts l.fn.opened) 0 (lines l.text) ≡ with_lines (race_parts l.race) l.number (lines l.rest);
  few : l.number + length l.rest ≤ length l.text;
}

abbrev pub decreases-lines : goal.decreases-lines
decreases-lines l = length l.rest
