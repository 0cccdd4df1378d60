-- What the program holds of a world, and what one request does to it.
use Rattle.std.specs.Prelude.{◌≡◌, ℕ, List, [], ◌∷◌, ◌++◌, Option}
use Rattle.requests.specs.declared.request.Request.{Request}
use Rattle.plain_store.specs.Store.{Store, step}
use Rattle.rounds.specs.Phase.{Phase}
use Rattle.rounds.specs.Reconciler.{Reconciler}
use Rattle.rounds.specs.World.{Matches, StandAt, Taken, World}

-- the world is matched, and each controller is in its phase of that world
pub record Shows {X : Type 0} (reconciler : X → Reconciler) (phase : X → Phase) (reconcilers : ℕ → Reconciler) (store : Store) (xs : List X) (taken : List Taken) (w : World) : Type 0 where
  pub matches : Matches store taken w
  pub controllers : StandAt reconciler phase xs reconcilers w.phases

-- the store has not changed, and handled nothing more
abbrev pub IsIdle : (before after : Store) (was now : List Taken) → Type 0
IsIdle before after was now = (after ≡ before) × (now ≡ was)

-- the store handled one more request
abbrev pub HasTaken : (before after : Store) (was now : List Taken) → Option ℕ → Request → Type 0
HasTaken before after was now who r = (after ≡ (step before r).0) × (now ≡ was ++ (who, r, (step before r).1) ∷ [])
