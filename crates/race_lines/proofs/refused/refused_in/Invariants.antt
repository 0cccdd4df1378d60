use Rattle.std.proofs.Common.{◌+◌, ◌≡◌, ◌≤◌, length}
use Rattle.plain.specs.Lines.{lines}
use Rattle.race_lines.specs.RaceTexts.{race_parts}
use Rattle.race_lines.specs.RefusedLines.{refused_from}
use Rattle.race_lines.proofs.refused.refused_in.Given as goal

-- what is looked for is among the lines that are left, and lines are no more than bytes
abbrev pub invariant-lines : goal.invariant-lines
invariant-lines l = record {
  same : refused_from (race_parts l.fn.opened) 0 (lines l.text) ≡ refused_from (race_parts l.race) l.number (lines l.rest);
  few : l.number + length l.rest ≤ length l.text;
}

abbrev pub decreases-lines : goal.decreases-lines
decreases-lines l = length l.rest
