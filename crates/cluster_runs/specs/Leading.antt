-- How the program follows a course.
use Rattle.std.specs.Prelude.{◌≡◌, ◌<◌, ◌≤◌, ◌++◌, ℕ, Bool, List, None, Result, IfErr, IfOk, length, take}
use Rattle.requests.specs.declared.request.Request.{Request}
use Rattle.interleavings.specs.World.{Size}
use Rattle.rounds.specs.Phase.{Phase}
use Rattle.rounds.specs.Reconciler.{Reconciler}
use Rattle.rounds.specs.World.{StandAt}
use Rattle.cluster_runs.specs.declared.event.ClusterEvent.{ClusterEvent}
use Rattle.cluster_runs.specs.Cluster.{Cluster, run}
use Rattle.cluster_runs.specs.Shown.{Shows, StaysConsistent}
use Rattle.cluster_runs.specs.Turns.{Course, ends_from, ends_with, is_next, is_read_within, is_within, is_write}
use Rattle.cluster_runs.specs.declared.carrying.Advance.{Advance}
use Rattle.cluster_runs.specs.declared.carrying.Advance.TheVariants.{On, Over}
use Rattle.cluster_runs.specs.declared.cluster.Cluster.{Cluster as Program}
use Rattle.cluster_runs.specs.declared.fault.ClusterFault.{ClusterFault}
use Rattle.cluster_runs.specs.declared.fault.ClusterFault.TheVariants.{TooManyCallers}
use Rattle.cluster_runs.specs.declared.rounding.Meant.{Meant}
use Rattle.cluster_runs.specs.declared.rounding.Meant.TheVariants.{ReadWithin, Within, Write}
use Rattle.cluster_runs.specs.declared.turn.Turn.{Turn}

-- what is said of a cluster
abbrev pub Claim : Type 1
Claim = Size → ℕ → (ℕ → Reconciler) → Cluster → Type 0

-- Some first events of the course lead to a cluster for which the claim holds, and this is the rest of the course.
pub record HasCome (claim : Claim) (z : Size) (count : ℕ) (reconcilers : ℕ → Reconciler) (k : Cluster) (whole left : Course) : Type 0 where
  pub done : List ClusterEvent
  pub whole_is : (whole z count reconcilers k).0 ≡ done ++ (left z count reconcilers (run z count reconcilers k done)).0
  pub delivered_is : (whole z count reconcilers k).1 ≡ (left z count reconcilers (run z count reconcilers k done)).1
  pub holds : claim z count reconcilers (run z count reconcilers k done)

-- the first of the events brings too many callers
pub record FillsUp (z : Size) (count : ℕ) (reconcilers : ℕ → Reconciler) (k : Cluster) (events : List ClusterEvent) : Type 0 where
  pub few : length k.used ≤ 4096
  pub many : 4096 < length (run z count reconcilers k (take 1 events)).used

abbrev pub Overruns : ClusterFault → Course → Claim
Overruns fault left z count reconcilers k = fault ≡ TooManyCallers → FillsUp z count reconcilers k (left z count reconcilers k).0

module _ {X : Type 0} (reconciler : X → Reconciler) (phase : X → Phase) (is_waiting : X → Bool) where
  abbrev pub Comes : Claim → (whole left : Course) → Program → List X → Type 0
  Comes claim whole left old before = (z : Size) (reconcilers : ℕ → Reconciler) (k : Cluster) → Shows reconciler phase is_waiting z reconcilers k old before
      → HasCome claim z (length before) reconcilers k whole left

  -- this much of what happened is shown
  abbrev pub IsShownAs : Program → List X → Claim
  IsShownAs program xs z count reconcilers k = Shows reconciler phase is_waiting z reconcilers k program xs

  abbrev pub Leads : (whole left : Course) → (old new : Program) → (before now : List X) → Type 0
  Leads whole left old new before now = Comes (IsShownAs new now) whole left old before

  -- At a fault the controllers are where some first events left them.
  abbrev pub StandsStill : ClusterFault → Course → List X → Claim
  StandsStill fault left xs z count reconcilers k = StandAt reconciler phase xs reconcilers k.phases × Overruns fault left z count reconcilers k

  abbrev pub Halts : ClusterFault → Course → Program → (before now : List X) → Type 0
  Halts fault whole old before now = (left : Course) × Comes (StandsStill fault left now) whole left old before

  -- The program follows the course up to what the result leaves of it; at a fault it stops on the way.
  pub record GoesAlong {T : Type 0} (whole : Course) (left : T → Course) (old new : Program) (before now : List X) (result : Result T ClusterFault) : Type 0 where
    pub consistent : StaysConsistent old new before now result
    pub leads : IfOk result (λ done. Leads whole (left done) old new before now)
    pub halts : IfErr result (λ fault. Halts fault whole old before now)

  -- what the turns lead to, one after another
  abbrev pub ComesTo : (namespaces : List (List ℕ)) → List Turn → (ends : List ℕ) → Program → List X → Type 0
  ComesTo namespaces turns ends old before = (z : Size) (reconcilers : ℕ → Reconciler) (k : Cluster) → Shows reconciler phase is_waiting z reconcilers k old before
      → ends ≡ ends_from None namespaces turns z (length before) reconcilers k

-- Whether the controller's next request is of that kind is known, and the controller stays where it was.
module _ {X : Type 0} (reconciler : X → Reconciler) (phase : X → Phase) (is_waiting : X → Bool) where
  abbrev pub Peeks : (such : Request → Bool) → (controller : ℕ) → Bool → Program → (before now : List X) → Type 0
  Peeks such c is program before now = (z : Size) (reconcilers : ℕ → Reconciler) (k : Cluster) → Shows reconciler phase is_waiting z reconcilers k program before
      → (is_next such z reconcilers k c ≡ is) × Shows reconciler phase is_waiting z reconcilers k program now

-- the requests that are meant
abbrev pub is_meant : Meant → Request → Bool
is_meant Within = is_within
is_meant ReadWithin = is_read_within
is_meant Write = is_write

-- what is left after a step
abbrev pub after_step : Advance → (next : Course) → Course
after_step On next = next
after_step (Over delivered) next = ends_with delivered
