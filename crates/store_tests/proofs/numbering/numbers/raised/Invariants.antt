use Rattle.std.proofs.Common.{◌≡◌}
use Rattle.store_tests.proofs.numbering.numbers.raised.Given as goal

abbrev pub invariant-loop : goal.invariant-loop
invariant-loop l = l.caller.line ≡ l.line.name
