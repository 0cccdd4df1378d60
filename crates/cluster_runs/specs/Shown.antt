-- What the program keeps of a cluster, and what one event does to it.
use Rattle.std.specs.Prelude.{◌≡◌, ◌≢◌, ◌==◌, ◌<◌, ◌++◌, ◌∷◌, [], ℕ, Bool, true, false, List, length, map, Option, Some, None, Result, slice_get, slice_set, IfErr, IfSome, IsErrOf, OnErr, OnOk, if◌then◌else◌}
use Rattle.std.specs.List.{AllByRecursion, list_any}
use Rattle.requests.specs.declared.reply.Reply.{Reply}
use Rattle.interleavings.specs.declared.event.Event.{Event}
use Rattle.interleavings.specs.declared.event.Event.TheVariants as event
use Rattle.interleavings.specs.Trace.{after}
use Rattle.interleavings.specs.World.{Idle, Size, opening}
use Rattle.history.specs.After.{IsAfter}
use Rattle.history.specs.Named.{named}
use Rattle.history.specs.declared.replaying.Replay.{Replay}
use Rattle.rounds.specs.Phase.{Phase, takes}
use Rattle.rounds.specs.Reconciler.{Reconciler}
use Rattle.cluster_runs.specs.declared.event.ClusterEvent.{ClusterEvent}
use Rattle.cluster_runs.specs.Cluster.{Cluster, happens, is_used, delivered}
use Rattle.cluster_runs.specs.declared.cluster.Cluster.{Cluster as Program}
use Rattle.cluster_runs.specs.declared.fault.ClusterFault.{ClusterFault}
use Rattle.cluster_runs.specs.declared.fault.ClusterFault.TheVariants.{TooManyCallers}
use Rattle.cluster_runs.specs.UsedCallers.{AreCallers}
use Rattle.cluster_runs.specs.Faults.{IsShort}

-- the store has handled the events, by callers that were used; any other caller is idle
pub record HoldsEvents (z : Size) (events : List Event) (used : List ℕ) (items : List Event) (replay : Replay) : Type 0 where
  pub events_are : items ≡ events
  pub taken : IsAfter z events replay
  pub names : AllByRecursion (λ n. list_any (λ m. m == n) used ≡ true) (named [] events)
  pub idle : (n : ℕ) → list_any (λ m. m == n) used ≡ false → (after z opening events).phase n ≡ Idle

abbrev pub IsCluster : Size → ℕ → Cluster → Program → Type 0
IsCluster z count k program = HoldsEvents z k.events k.used program.events.items program.replay × AreCallers count k program.callers

-- the replay has handled these events
unfoldable pub HasTaken : List Event → Replay → Type 0
HasTaken events replay = (z : Size) × IsAfter z events replay

abbrev pub Follows : Program → Type 0
Follows program = HasTaken program.events.items program.replay

-- each controller has its caller
abbrev pub HaveCallers : {X : Type 0} → List X → Program → Type 0
HaveCallers xs program = length xs ≡ length program.callers.present.items

-- there are as many controllers and callers as before
abbrev pub KeepsCallers : (old new : Program) → Type 0
KeepsCallers old new = length new.callers.present.items ≡ length old.callers.present.items

-- what each step of a run relies on
pub record IsConsistent {X : Type 0} (xs : List X) (program : Program) : Type 0 where
  pub present : HaveCallers xs program
  pub follows : Follows program

-- It stays consistent; after a fault (too many callers, or out of memory) there are as many controllers and callers as
-- before.
pub record StaysConsistent {X T : Type 0} (old new : Program) (before now : List X) (result : Result T ClusterFault) : Type 0 where
  pub many : length now ≡ length before
  pub present : KeepsCallers old new
  pub follows : OnOk result (Follows new)
  pub reasons : IfErr result IsShort

-- the store has handled one more event
pub record Hands (e : Event) (old new : Program) : Type 0 where
  pub callers : new.callers ≡ old.callers
  pub events : new.events.items ≡ old.events.items ++ e ∷ []
  pub taken : (z : Size) (events : List Event) → IsAfter z events old.replay → IsAfter z (events ++ e ∷ []) new.replay

-- each controller keeps its reconciler and its phase
abbrev pub Stay : {X : Type 0} → (X → Reconciler) → (X → Phase) → (before now : List X) → Type 0
Stay reconciler phase before now = (map reconciler now ≡ map reconciler before) × (map phase now ≡ map phase before)

module _ {X : Type 0} (reconciler : X → Reconciler) (phase : X → Phase) (is_waiting : X → Bool) where
  -- the controller has this reconciler and this phase, and waits if its caller does
  pub record Stands (z : Size) (events : List Event) (r : Reconciler) (p : Phase) (n : ℕ) (x : X) : Type 0 where
    pub reconciler_is : reconciler x ≡ r
    pub phase_is : phase x ≡ p
    pub waits : (after z opening events).phase n ≢ Idle → is_waiting x ≡ true

  abbrev pub Shows : Size → (ℕ → Reconciler) → Cluster → Program → List X → Type 0
  Shows z reconcilers k program xs =
      IsCluster z (length xs) k program × ((c : ℕ) → IfSome (slice_get xs c) (Stands z k.events (reconcilers c) (k.phases c) (k.callers c)))

  -- what is shown is what happened
  abbrev pub Happens : ClusterEvent → (old new : Program) → (before now : List X) → Type 0
  Happens e old new before now = (z : Size) (reconcilers : ℕ → Reconciler) (k : Cluster) → Shows z reconcilers k old before
      → Shows z reconcilers (happens z (length before) reconcilers k e) new now

  -- the reply that the caller gets
  abbrev pub Tells : (caller : ℕ) → Option Reply → Program → List X → Type 0
  Tells n reply old before = (z : Size) (reconcilers : ℕ → Reconciler) (k : Cluster) → Shows z reconcilers k old before
      → (if is_used k n then delivered z k.events (event.Reply n) else None) ≡ reply

  -- the event would use too many callers
  abbrev pub Exceeds : ClusterEvent → Program → List X → Type 0
  Exceeds e old before = (z : Size) (reconcilers : ℕ → Reconciler) (k : Cluster) → Shows z reconcilers k old before
      → 4096 < length (happens z (length before) reconcilers k e).used

  -- The event happens; at a fault each controller stays where it was.
  pub record Applies {T : Type 0} (e : ClusterEvent) (old new : Program) (before now : List X) (result : Result T ClusterFault) : Type 0 where
    pub consistent : StaysConsistent old new before now result
    pub shows : OnOk result (Happens e old new before now)
    pub stays : OnErr result (Stay reconciler phase before now)
    pub too_many : IsErrOf result TooManyCallers → Exceeds e old before

  -- the controller has handled the reply
  pub record Heard (before now : List X) (c : ℕ) (reply : Reply) : Type 0 where
    pub old : X
    pub new : X
    pub there : slice_get before c ≡ Some old
    pub now_is : now ≡ slice_set before c new
    pub reconciler_is : reconciler new ≡ reconciler old
    pub phase_is : is_waiting old ≡ true → phase new ≡ takes (reconciler old) (phase old) reply

  abbrev pub Hears : (before now : List X) → Option ℕ → Option Reply → Type 0
  Hears before now (Some c) (Some reply) = Heard before now c reply
  Hears before now c reply = now ≡ before

-- the same of the program's cluster alone
abbrev pub Becomes : (Cluster → Cluster) → (old new : Program) → Type 0
Becomes goes old new = (z : Size) (count : ℕ) (k : Cluster) → IsCluster z count k old → IsCluster z count (goes k) new

abbrev pub Overfills : (Cluster → Cluster) → Program → Type 0
Overfills goes old = (z : Size) (count : ℕ) (k : Cluster) → IsCluster z count k old → 4096 < length (goes k).used
