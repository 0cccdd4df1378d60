-- What is read no more stays unread: each event keeps it, and so does each run.
use Rattle.std.proofs.Common.{◌≡◌, ℕ, ◌<◌, ◌≤◌, List, [], ◌∷◌, sym, ap, ◌∙◌, refl, arith, true≢false}
use Rattle.requests.specs.declared.request.Request.{Request}
use Rattle.plain_store.specs.Store.{Objects}
use Rattle.interleavings.specs.declared.event.Event.{Event}
use Rattle.interleavings.specs.Spared.{IsSpared}
use Rattle.interleavings.specs.Step.{step}
use Rattle.interleavings.specs.Trace.{after}
use Rattle.interleavings.specs.World.{Phase, Reading, Size, World, opening}
use Rattle.interleavings.specs.Order.{Arrangement, arranged, arrangement, beginning}
use Rattle.interleavings.proofs.Arranged.{Holds}
use Rattle.interleavings.proofs.Phases.{Keeps, is_quiet, phases_kept}
use Rattle.interleavings.proofs.Runs.{begins, run_goes, step_goes}

record Spares (number floor : ℕ) (ph : Phase) : Type 0 where
  pub low : number ≤ floor
  pub reads : (n p : ℕ) (r : Request) (parts : List ℕ) (found : Objects) → ph ≡ Reading n p r parts found → number ≤ n

module _ (w : World) (number : ℕ) (spared : IsSpared w number) where
  reading : (n p : ℕ) (r : Request) (parts : List ℕ) (found : Objects) → number ≤ n → Spares number w.floor (Reading n p r parts found)
  reading n p r parts found le = record { low = spared.floor; reads = λ m q s others rest e. let one : n ≡ m = cc in omega arith }

  keeps_spared : Keeps w (λ log floor ph. Spares number floor ph)
  keeps_spared = record {
    quiet = λ log ph is. record { low = spared.floor; reads = λ n p r parts found e. absurd (true≢false (sym is ∙ ap is_quiet e)) };
    starts = λ n p r parts low numbered. reading n p r parts _ (let le = spared.floor in omega arith);
    reads = λ n p r parts rest old new here. reading n p r rest new (here.reads n p r parts old refl);
    draws = λ t. record { low = spared.floor; reads = λ n p r parts found e. absurd cc };
    leaves = λ d here. record { low = spared.floor; reads = λ n p r parts found e. absurd cc };
    rises = λ to ph le here. record { low = (let low = here.low in omega arith); reads = here.reads };
    fills = λ c d x drawn apart here. here;
  }

  pub step_spared : (z : Size) → w.floor ≤ w.frontier → (e : Event) → IsSpared (step z w e) number
  step_spared z standing e =
      let all = phases_kept z w (λ log floor ph. Spares number floor ph) keeps_spared standing (λ c. record { low = spared.floor; reads = spared.reads c }) e in
      record { floor = (all 0).low; reads = λ c. (all c).reads }

spared_on : (z : Size) → 0 < z.shards → (events : List Event) (w : World) (a : Arrangement) → Holds z w a → (number : ℕ) → IsSpared w number → IsSpared (after z w events) number
spared_on z some [] w a h number spared = spared
spared_on z some (e ∷ es) w a h number spared =
    spared_on z some es (step z w e) (arranged w e (step z w e) a) (step_goes z w h.0 a some h.1.0 h.1.1 e) number (step_spared w number spared z h.1.0.standing e)

-- what is spared after some events is spared after any others
pub spared_still : (z : Size) → 0 < z.shards → (events later : List Event) (number : ℕ) → IsSpared (after z opening events) number → IsSpared (after z (after z opening events) later) number
spared_still z some events later number spared = spared_on z some later (after z opening events) (arrangement z opening beginning events) (run_goes z some events opening beginning (begins z)) number spared
