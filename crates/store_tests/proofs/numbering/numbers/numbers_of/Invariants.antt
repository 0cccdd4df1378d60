use Rattle.std.proofs.Common.{◌≡◌, None}
use Rattle.store_tests.proofs.numbering.numbers.numbers_of.Given as goal

abbrev pub invariant-loop : goal.invariant-loop
invariant-loop l = (l.seat.line ≡ l.line.name) × (l.seat.view.plain.pending ≡ None) × (l.seat.view.caller ≡ None)
