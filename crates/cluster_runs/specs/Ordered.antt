-- The requests of an order, as one plain store handles them: whose incarnation sent each, and the store's reply.
use Rattle.std.specs.Prelude.{ℕ, ◌==◌, List, [], ◌∷◌, Option, Some, None, if◌then◌else◌}
use Rattle.requests.specs.declared.request.Request.{Request}
use Rattle.plain_store.specs.Store.{Store, opening, step}
use Rattle.interleavings.specs.declared.trace.Item.{Item}
use Rattle.interleavings.specs.declared.trace.Item.TheVariants as item
use Rattle.interleavings.specs.Trace.{trace}
use Rattle.interleavings.specs.World.{Size}
use Rattle.rounds.specs.Promises.{KeepsPromises}
use Rattle.rounds.specs.Reconciler.{Reconciler}
use Rattle.rounds.specs.Transcript.{Entry, Incarnation}
use Rattle.cluster_runs.specs.Cluster.{Cluster}

-- the caller and the request that were called at this index
abbrev pub called_at : List Item → ℕ → Option (ℕ × Request)
called_at [] p = None
called_at (item.Call place caller request ∷ items) p = if place == p then Some (caller, request) else called_at items p
called_at (item.Reply place caller reply ∷ items) p = called_at items p

-- the store handles what was called, and then the rest
abbrev pub then_entries : (ℕ → Option Incarnation) → Store → Option (ℕ × Request) → (Store → List Entry) → List Entry
then_entries incarnations s None rest = rest s
then_entries incarnations s (Some call) rest = (incarnations call.0, call.1, (step s call.1).1) ∷ rest (step s call.1).0

abbrev pub entries_of : (ℕ → Option Incarnation) → List Item → Store → List ℕ → List Entry
entries_of incarnations items s [] = []
entries_of incarnations items s (p ∷ ps) = then_entries incarnations s (called_at items p) (λ t. entries_of incarnations items t ps)

-- what the store handles in this order
abbrev pub entries_in : Size → Cluster → List ℕ → List Entry
entries_in z k order = entries_of k.incarnations (trace z k.events) (opening z.capacity) order

-- it keeps the promises
abbrev pub OrderKeepsPromises : Size → (ℕ → Reconciler) → Cluster → List ℕ → Type 0
OrderKeepsPromises z reconcilers k order = KeepsPromises reconcilers z.capacity (entries_in z k order)
