use Rattle.std.proofs.Common.{◌≡◌, ◌+◌, false, sym, ◌∙◌, subst}
use Rattle.controllers.specs.Controller.{phase_of, reconciler_of}
use Rattle.rounds.specs.Phase.{Phase}
use Rattle.rounds.specs.Reconciler.{Reconciler}
use Rattle.racing.specs.Parts.{IsStanding, begins, is_get, racer}
use Rattle.racing.proofs.First.{no_begin}
use Rattle.racing.proofs.controller_rounds.make_round.Goals as goal

-- a step that does not begin a round
pub loop-preserved : goal.loop-preserved
loop-preserved g c =
    let shards = g.S.SharedStore.shards in
    let capacity = g.S.SharedStore.capacity in
    let k = g.S.SharedStore.known c.loop.caller in
    let l = g.S.SharedStore.known c.make_step-in-loop.new.caller in
    let n = c.args.rounds + 1 in
    let was = c.loop.invariant in
    let next = c.in_ok-request-2.ensures in
    let step = c.in_ok-make_step-2.ensures in
    let one : reconciler_of c.next-in-loop-2.new.self ≡ racer = next.reconciler ∙ was.racer in
    let here : IsStanding shards capacity k racer n (phase_of c.next-in-loop-2.new.self) c.loop.exchanges.items =
    subst (λ p. IsStanding shards capacity k racer n p c.loop.exchanges.items) (sym next.phase) was.stands in
    let more = step.stands n (subst (λ r. IsStanding shards capacity k r n (phase_of c.next-in-loop-2.new.self) c.loop.exchanges.items) (sym one) here) in
    let not : is_get c.in_ok-request-2.request ≡ false = sym c.is_get.ensures ∙ c.if-is_get.false in
    record {
      can = tt;
      finite = tt;
      stands = subst (λ m. IsStanding shards capacity l racer m (phase_of c.make_step-in-loop.new.controller) c.make_step-in-loop.new.exchanges.items) (no_begin c.in_ok-request-2.request n not)
          (subst (λ r. IsStanding shards capacity l r (n + begins c.in_ok-request-2.request) (phase_of c.make_step-in-loop.new.controller) c.make_step-in-loop.new.exchanges.items) one more);
      racer = step.same ∙ one;
    }
