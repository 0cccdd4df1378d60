use Rattle.std.proofs.Common.{◌≡◌}
use Rattle.bench.proofs.lines.raise_all.Given as goal

abbrev pub invariant-loop : goal.invariant-loop
invariant-loop l = l.caller.line ≡ l.line.name
