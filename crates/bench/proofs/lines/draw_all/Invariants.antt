use Rattle.std.proofs.Common.{◌≡◌, None}
use Rattle.bench.proofs.lines.draw_all.Given as goal

abbrev pub invariant-loop : goal.invariant-loop
invariant-loop l = (l.seat.line ≡ l.line.name) × (l.seat.view.plain.pending ≡ None) × (l.seat.view.caller ≡ None)
