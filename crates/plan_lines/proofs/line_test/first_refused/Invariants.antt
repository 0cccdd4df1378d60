use Rattle.std.proofs.Common.{◌≡◌, ◌≤◌, ◌+◌, length}
use Rattle.plain.specs.Lines.{lines}
use Rattle.plan_lines.specs.RefusedLines.{first_refused}
use Rattle.plan_lines.proofs.line_test.first_refused.Given as goal

-- what is looked for is among the lines that are left, and lines are no more than bytes
abbrev pub invariant-lines : goal.invariant-lines
invariant-lines g l = record {
  same : first_refused g.T.LineTest.reads l.from (lines l.text) ≡ first_refused g.T.LineTest.reads l.line (lines l.rest);
  few : l.line + length l.rest ≤ 2 + length l.text;
}

abbrev pub decreases-lines : goal.decreases-lines
decreases-lines g l = length l.rest
