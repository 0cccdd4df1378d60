-- A caller's phase and its next step, as the program holds them and as the world has them.
use Rattle.std.proofs.Common.{◌≡◌, ℕ, zero, suc, ◌<◌, Bool, if◌then◌else◌, length, get_or, Option, Some, None, is_some, option_map, refl, sym, ap, ◌∙◌}
use Rattle.plain_store.specs.Route.{Route, compacts, gets, lists, lists_at, route, writes}
use Rattle.interleavings.specs.declared.event.Event.TheVariants as event
use Rattle.interleavings.specs.Order.{Arrangement}
use Rattle.interleavings.specs.World.{Phase, Idle, Called, Holding, Drawn, Waiting, Reading, Gone, Size, World, shard}
use Rattle.history.specs.declared.machine.Machine.{Machine}
use Rattle.history.specs.declared.phase.Phase.{Phase as CodePhase}
use Rattle.history.specs.declared.phase.Phase.TheVariants as code
use Rattle.history.specs.declared.caller_phase.CallerPhase.{CallerPhase}
use Rattle.history.specs.declared.caller_phase.CallerPhase.TheVariants as caller_phase
use Rattle.history.specs.NextStep.{can_rise, goes_on, next_step}
use Rattle.history.specs.Replayed.{IsShown, Shows, phase_at}
use Rattle.history.specs.CallerPhase.{first_step, one_shard, caller_phase_in, caller_phase_of}
use Rattle.interleavings.proofs.Quiets.{shard_below}

pub standing_shown : (n : ℕ) (p : CodePhase) (ph : Phase) → IsShown p ph → caller_phase_in n p ≡ caller_phase_of n ph
standing_shown n (code.Reading k p r left) ph h = ap (caller_phase.Reading k (one_shard n (route r))) (sym h.1.1.1) ∙ ap (caller_phase_of n) (sym h.1.1.0)
standing_shown n _ ph h = ap (caller_phase_of n) (sym h)

-- there are so many shards, and who holds them is looked up only among them
module _ (held seen : ℕ → Bool) (f : ℕ) (r : Bool) (c : ℕ) where
  goes_asked : (z : Size) → 0 < z.shards → ((s : ℕ) → s < z.shards → held s ≡ seen s)
      → (q : Route) → goes_on held f r c (caller_phase.Called (first_step z.shards q)) ≡ goes_on seen f r c (caller_phase.Called (first_step z.shards q))
  unfolding shard
  goes_asked z some same (writes k) = ap (λ b. if b then None else Some (event.Check c)) (same (shard z k) (shard_below z k some))
  goes_asked z some same (gets k) = refl
  goes_asked z some same (lists kind namespace) = refl
  goes_asked z some same (lists_at kind namespace number) = refl
  goes_asked z some same (compacts to) = refl

  goes_reading : (n : ℕ) (one : Option ℕ) (left : ℕ) → goes_on held f r c (caller_phase.Reading n one left) ≡ goes_on seen f r c (caller_phase.Reading n one left)
  goes_reading n one zero = refl
  goes_reading n one (suc left) = refl

  pub goes_same : (z : Size) → 0 < z.shards → ((s : ℕ) → s < z.shards → held s ≡ seen s)
      → (ph : Phase) → goes_on held f r c (caller_phase_of z.shards ph) ≡ goes_on seen f r c (caller_phase_of z.shards ph)
  goes_same z some same Idle = refl
  goes_same z some same (Called p q) = goes_asked z some same (route q)
  goes_same z some same (Holding t) = refl
  goes_same z some same (Drawn d) = refl
  goes_same z some same (Waiting saw p reply) = refl
  goes_same z some same (Reading n p q parts found) = goes_reading n (one_shard z.shards (route q)) (length parts)
  goes_same z some same (Gone None) = refl
  goes_same z some same (Gone (Some d)) = refl

is_some_map : {A B : Type 0} (f : A → B) (o : Option A) → is_some (option_map f o) ≡ is_some o
is_some_map f None = refl
is_some_map f (Some x) = refl

pub standing_is : (z : Size) (w : World) (a : Arrangement) (m : Machine) (c : ℕ) → Shows z w a m
    → caller_phase_in (length m.shards.items) (phase_at m.callers c) ≡ caller_phase_of z.shards (w.phase c)
standing_is z w a m c sh =
    ap (λ n. caller_phase_in n (phase_at m.callers c)) sh.log.count ∙ standing_shown z.shards (phase_at m.callers c) (w.phase c) (sh.phases c)

pub rises : (z : Size) (w : World) (a : Arrangement) (m : Machine) → Shows z w a m → is_some (get_or m.places.items m.frontier None) ≡ can_rise w
rises z w a m sh =
    ap (λ n. is_some (get_or m.places.items n None)) sh.frontier ∙ ap is_some (sh.log.filled w.frontier) ∙ is_some_map (λ t. t.place) (w.log w.frontier)

pub next_is : (z : Size) (w : World) (a : Arrangement) (m : Machine) (c : ℕ) → 0 < z.shards → Shows z w a m
    → goes_on (λ s. is_some (get_or m.holders.items s None)) m.frontier (is_some (get_or m.places.items m.frontier None)) c
    (caller_phase_in (length m.shards.items) (phase_at m.callers c)) ≡ next_step z w c
next_is z w a m c some sh =
    let held : ℕ → Bool = λ s. is_some (get_or m.holders.items s None) in
    let seen : ℕ → Bool = λ s. is_some (w.holder s) in
    let at : CallerPhase = caller_phase_of z.shards (w.phase c) in
    ap (goes_on held m.frontier (is_some (get_or m.places.items m.frontier None)) c) (standing_is z w a m c sh)
    ∙ ap (λ n. goes_on held n (is_some (get_or m.places.items m.frontier None)) c at) sh.frontier
    ∙ ap (λ b. goes_on held w.frontier b c at) (rises z w a m sh)
    ∙ goes_same held seen w.frontier (can_rise w) c z some (λ s below. ap is_some (sh.seats.same s below)) (w.phase c)
