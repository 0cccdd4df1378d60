use Rattle.std.proofs.Common.{◌≡◌, true}
use Rattle.controllers.specs.Controller.{phase_of, reconciler_of}
use Rattle.rounds.specs.Phase.{asks}
use Rattle.racing.specs.Parts.{IsStanding, is_get, racer}
use Rattle.racing.proofs.controller_rounds.make_rounds.Given as goal

abbrev pub invariant-loop-round : goal.invariant-loop-round
invariant-loop-round g l = record {
  stands : IsStanding g.S.SharedStore.shards g.S.SharedStore.capacity (g.S.SharedStore.known l.caller) racer l.round (phase_of l.controller) l.exchanges.items;
  begins : is_get (asks racer (phase_of l.controller)) ≡ true;
  racer : reconciler_of l.controller ≡ racer;
}
