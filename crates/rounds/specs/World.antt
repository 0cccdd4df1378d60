-- Controllers over one plain store, event by event.
use Rattle.std.specs.Prelude.{◌≡◌, ◌⊎◌, ◌==◌, ◌<◌, ◌+◌, nat_lt, ℕ, List, [], ◌∷◌, ◌++◌, length, slice_get, take, Option, Some, None, option_map, IfSome, if◌then◌else◌}
use Rattle.requests.specs.declared.request.Request.{Request}
use Rattle.requests.specs.declared.reply.Reply.{Reply}
use Rattle.plain_store.specs.Store.{Store, step}
use Rattle.rounds.specs.declared.event.WholeEvent.{WholeEvent}
use Rattle.rounds.specs.declared.event.WholeEvent.TheVariants.{Ask, Crash, Outside}
use Rattle.rounds.specs.Phase.{Phase, asks, reading_set, takes}
use Rattle.rounds.specs.Reconciler.{Reconciler}
use Rattle.rounds.specs.Transcript.{Entry, Incarnation}

-- the store, the phase of each controller and how often it has crashed, and what the store handled
pub record World : Type 0 where
  pub store : Store
  pub phases : ℕ → Phase
  pub crashes : ℕ → ℕ
  pub entries : List Entry

-- controllers that have read nothing, over a store
abbrev pub start : Store → World
start s = record { store = s; phases = λ c. reading_set; crashes = λ c. 0; entries = [] }

abbrev pub put : {X : Type 0} → (ℕ → X) → ℕ → X → ℕ → X
put f n x i = if i == n then x else f i

-- the store handles a request
abbrev pub with_entry : World → Option Incarnation → Request → (ℕ → Phase) → World
with_entry w who r phases = record {
  store = (step w.store r).0;
  phases = phases;
  crashes = w.crashes;
  entries = w.entries ++ (who, r, (step w.store r).1) ∷ [];
}

abbrev pub incarnation_of : World → ℕ → Incarnation
incarnation_of w c = record { controller = c; crashes = w.crashes c }

-- a controller sends its next request, and handles the reply
abbrev pub with_ask : (ℕ → Reconciler) → World → ℕ → World
with_ask reconcilers w c =
    let r = asks (reconcilers c) (w.phases c) in
    with_entry w (Some (incarnation_of w c)) r (put w.phases c (takes (reconcilers c) (w.phases c) (step w.store r).1))

-- a controller forgets its round, and begins another incarnation
abbrev pub with_crash : World → ℕ → World
with_crash w c = record {
  store = w.store;
  phases = put w.phases c reading_set;
  crashes = put w.crashes c (w.crashes c + 1);
  entries = w.entries;
}

-- The controllers that exist have the numbers below the count. An event of another one does nothing.
abbrev pub happens : ℕ → (ℕ → Reconciler) → World → WholeEvent → World
happens count reconcilers w (Ask c) = if nat_lt c count then with_ask reconcilers w c else w
happens count reconcilers w (Crash c) = if nat_lt c count then with_crash w c else w
happens count reconcilers w (Outside r) = with_entry w None r w.phases

abbrev pub run : ℕ → (ℕ → Reconciler) → World → List WholeEvent → World
run count reconcilers w [] = w
run count reconcilers w (e ∷ es) = run count reconcilers (happens count reconcilers w e) es

-- the sender (the number of a controller, or none for another client), the request and the reply
abbrev pub Taken : Type 0
Taken = Option ℕ × Request × Reply

abbrev pub taken_of : List Entry → List Taken
taken_of [] = []
taken_of (e ∷ es) = (option_map (λ (incarnation : Incarnation). incarnation.controller) e.0, e.1, e.2) ∷ taken_of es

-- the store, and what it handled, are those of the world
pub record Matches (store : Store) (taken : List Taken) (w : World) : Type 0 where
  pub store_is : store ≡ w.store
  pub taken_is : taken ≡ taken_of w.entries

-- each controller is made of the reconciler of its number
abbrev pub AreMadeOf : {X : Type 0} → (X → Reconciler) → List X → (ℕ → Reconciler) → Type 0
AreMadeOf reconciler xs reconcilers = (c : ℕ) → IfSome (slice_get xs c) (λ x. reconciler x ≡ reconcilers c)

-- each controller is made of the reconciler of its number, and is in the phase of its number
abbrev pub StandAt : {X : Type 0} → (X → Reconciler) → (X → Phase) → List X → (ℕ → Reconciler) → (ℕ → Phase) → Type 0
StandAt reconciler phase xs reconcilers phases = (c : ℕ) → IfSome (slice_get xs c) (λ x. (reconciler x ≡ reconcilers c) × (phase x ≡ phases c))

-- The run stopped at an event. The controllers are as those before it left them. The store and what it handled are as
-- they were then, or as that event leaves them.
pub record StopsAt {X : Type 0} (reconciler : X → Reconciler) (phase : X → Phase) (count : ℕ) (reconcilers : ℕ → Reconciler) (s : Store) (events : List WholeEvent) (store : Store) (xs : List X) (taken : List Taken) : Type 0 where
  pub at : ℕ
  pub there : at < length events
  pub stand : StandAt reconciler phase xs reconcilers (run count reconcilers (start s) (take at events)).phases
  pub matches : Matches store taken (run count reconcilers (start s) (take at events)) ⊎ Matches store taken (run count reconcilers (start s) (take (at + 1) events))
