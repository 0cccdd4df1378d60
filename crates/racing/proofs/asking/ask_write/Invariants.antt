use Rattle.std.proofs.Common.{◌≡◌, length}
use Rattle.racing.specs.Answered.{Learns}
use Rattle.racing.proofs.asking.ask_write.Given as goal

-- the ticket is that of the request, which was submitted by what the caller had seen
abbrev pub invariant-loop : goal.invariant-loop
invariant-loop g l = record {
  can : (goal.iterator-loop g).can_next l.iterator';
  finite : (goal.iterator-loop g).is_finite l.iterator';
  asked : g.S.SharedStore.asked l.ticket ≡ l.fn.request;
  since : g.S.SharedStore.since_of l.ticket ≡ length (g.S.SharedStore.known l.fn.caller).seen;
  learns : Learns (g.S.SharedStore.known l.fn.caller) (g.S.SharedStore.known l.caller);
  is_of : g.S.SharedStore.is_of l.ticket l.caller;
}
