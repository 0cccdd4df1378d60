-- What a store handled before the controllers started.
use Rattle.std.specs.Prelude.{List, [], ◌∷◌, ◌++◌, ℕ, None}
use Rattle.requests.specs.declared.request.Request.{Request}
use Rattle.plain_store.specs.Reached.{IsReached}
use Rattle.plain_store.specs.Store.{Store, opening, step}
use Rattle.rounds.specs.declared.event.WholeEvent.{WholeEvent}
use Rattle.rounds.specs.Promises.{KeepsPromises}
use Rattle.rounds.specs.Reconciler.{Reconciler}
use Rattle.rounds.specs.Transcript.{Entry}
use Rattle.rounds.specs.World.{run, start}

-- the requests with the replies of the store, none of them from a controller
abbrev pub entries_before : Store → List Request → List Entry
entries_before s [] = []
entries_before s (r ∷ rs) = (None, r, (step s r).1) ∷ entries_before (step s r).0 rs

-- what the store handled before, and what it handles in these events
abbrev pub entries_through : ℕ → (ℕ → Reconciler) → (s : Store) → IsReached s → List WholeEvent → List Entry
entries_through count reconcilers s reached events =
    entries_before (opening reached.capacity) reached.requests ++ (run count reconcilers (start s) events).entries

-- it keeps the promises
abbrev pub RunKeepsPromises : ℕ → (ℕ → Reconciler) → (s : Store) → IsReached s → List WholeEvent → Type 0
RunKeepsPromises count reconcilers s reached events =
    KeepsPromises reconcilers reached.capacity (entries_through count reconcilers s reached events)
