use Rattle.std.proofs.Common.{◌≡◌, ◌+◌}
use Rattle.controllers.specs.Controller.{phase_of, reconciler_of}
use Rattle.racing.specs.Parts.{IsStanding, racer}
use Rattle.racing.proofs.controller_rounds.make_round.Given as goal

-- the round is begun
abbrev pub invariant-loop : goal.invariant-loop
invariant-loop g l = record {
  can : (goal.iterator-loop g).can_next l.iterator';
  finite : (goal.iterator-loop g).is_finite l.iterator';
  stands : IsStanding g.S.SharedStore.shards g.S.SharedStore.capacity (g.S.SharedStore.known l.caller) racer (l.fn.rounds + 1) (phase_of l.controller) l.exchanges.items;
  racer : reconciler_of l.controller ≡ racer;
}
