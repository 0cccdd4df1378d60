use Rattle.std.proofs.Common.{◌≡◌, All}
use Rattle.line.specs.Seat.{caller_seat, new_caller_seat}
use Rattle.bench.proofs.lines.callers.Given as goal

abbrev pub invariant-loop : goal.invariant-loop
invariant-loop l = (caller_seat l.first ≡ new_caller_seat l.line.name 0) × All (λ s. caller_seat s ≡ new_caller_seat l.line.name 0) l.seats.items
