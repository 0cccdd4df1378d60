-- Controllers that use the interleaved store, each as one of its callers, and other clients next to them. A crash ends
-- an incarnation: the controller continues as a caller that was not used, and its former caller is gone.
use Rattle.std.specs.Prelude.{ℕ, suc, max, Bool, true, false, not, ◌&&◌, ◌==◌, ◌+◌, nat_lt, List, [], ◌∷◌, ◌++◌, drop, length, Option, Some, None, unwrap_or, if◌then◌else◌}
use Rattle.std.specs.List.{find, list_any, range_with_len}
use Rattle.requests.specs.declared.request.Request.{Request}
use Rattle.requests.specs.declared.reply.Reply.{Reply}
use Rattle.interleavings.specs.declared.event.Event.{Event}
use Rattle.interleavings.specs.declared.event.Event.TheVariants as event
use Rattle.interleavings.specs.Trace.{after, reply_in, trace}
use Rattle.interleavings.specs.World.{Size, opening}
use Rattle.interleavings.specs.World as callers
use Rattle.rounds.specs.Phase.{Phase, asks, reading_set, takes}
use Rattle.rounds.specs.Reconciler.{Reconciler}
use Rattle.rounds.specs.Transcript.{Incarnation}
use Rattle.rounds.specs.World.{put}
use Rattle.cluster_runs.specs.declared.event.ClusterEvent.{ClusterEvent}
use Rattle.cluster_runs.specs.declared.event.ClusterEvent.TheVariants.{Next, Outside, Step, Crash}

pub record Cluster : Type 0 where
  -- the events that were passed to the store
  pub events : List Event
  -- for each controller, its phase, how often it crashed, and its caller
  pub phases : ℕ → Phase
  pub crashes : ℕ → ℕ
  pub callers : ℕ → ℕ
  -- the callers that were used, and whose incarnation each caller is or was; none for another client
  pub used : List ℕ
  pub incarnations : ℕ → Option Incarnation

-- the first incarnation of the caller, if it has the number of a controller
abbrev pub first_incarnation : ℕ → ℕ → Option Incarnation
first_incarnation count n = if nat_lt n count then Some (record { controller = n; crashes = 0 }) else None

-- `count` controllers that have read nothing, each with the caller of its own number
abbrev pub start : ℕ → Cluster
start count = record { events = []; phases = λ c. reading_set; crashes = λ c. 0; callers = λ c. c; used = range_with_len 0 count; incarnations = first_incarnation count }

abbrev pub is_used : Cluster → ℕ → Bool
is_used k n = list_any (λ m. m == n) k.used

abbrev pub greatest : List ℕ → ℕ
greatest [] = 0
greatest (n ∷ ns) = max n (greatest ns)

-- the lowest caller that was not used; it is at most one above the greatest that was
unfoldable pub lowest_unused : Cluster → ℕ
lowest_unused k = unwrap_or (find (λ n. not (is_used k n)) (range_with_len 0 (suc (suc (greatest k.used))))) 0

-- passes the event on to the store
abbrev pub hand : Cluster → Event → Cluster
hand k e = record k { events = k.events ++ e ∷ [] }

-- ---- Next: the controller calls its next request
abbrev pub is_idle : callers.Phase → Bool
is_idle callers.Idle = true
is_idle phase = false

abbrev pub with_next : Size → (ℕ → Reconciler) → Cluster → ℕ → Cluster
with_next z reconcilers k c =
    if is_idle ((after z opening k.events).phase (k.callers c)) then hand k (event.Call (k.callers c) (asks (reconcilers c) (k.phases c))) else k

-- ---- Outside: a caller that no controller is or was calls
abbrev pub with_used : Cluster → ℕ → Cluster
with_used k n = if is_used k n then k else record k { used = n ∷ k.used }

abbrev pub with_outside : Cluster → ℕ → Request → Option Incarnation → Cluster
with_outside k n r None = hand (with_used k n) (event.Call n r)
with_outside k n r (Some incarnation) = k

-- ---- Crash: the controller begins another incarnation, as a caller that was not used
abbrev pub incarnation_after : Cluster → ℕ → Incarnation
incarnation_after k c = record { controller = c; crashes = k.crashes c + 1 }

abbrev pub with_crash : Cluster → ℕ → Cluster
with_crash k c = record {
  events = k.events ++ event.Crash (k.callers c) ∷ [];
  phases = put k.phases c reading_set;
  crashes = put k.crashes c (k.crashes c + 1);
  callers = put k.callers c (lowest_unused k);
  used = lowest_unused k ∷ k.used;
  incarnations = put k.incarnations (lowest_unused k) (Some (incarnation_after k c));
}

-- ---- Step: a caller that was used moves, or the frontier does
-- the controller whose caller this now is
abbrev pub controller_by : Cluster → ℕ → Option Incarnation → Option ℕ
controller_by k n None = None
controller_by k n (Some incarnation) = if k.callers incarnation.controller == n then Some incarnation.controller else None

abbrev pub controller_at : Cluster → ℕ → Option ℕ
controller_at k n = controller_by k n (k.incarnations n)

-- the reply that an event gives, if any
unfoldable pub delivered : Size → List Event → Event → Option Reply
delivered z events e = reply_in (drop (length (trace z events)) (trace z (events ++ e ∷ [])))

-- the controller handles the reply
abbrev pub hears : (ℕ → Reconciler) → Cluster → Option ℕ → Option Reply → Cluster
hears reconcilers k (Some c) (Some reply) = record k { phases = put k.phases c (takes (reconcilers c) (k.phases c) reply) }
hears reconcilers k c reply = k

abbrev pub hand_if : Bool → Cluster → Event → Cluster
hand_if b k e = if b then hand k e else k

abbrev pub is_nobody : Option ℕ → Bool
is_nobody None = true
is_nobody (Some c) = false

abbrev pub with_step : Size → (ℕ → Reconciler) → Cluster → Event → Cluster
with_step z reconcilers k (event.Call n r) = k
with_step z reconcilers k (event.Check n) = hand_if (is_used k n) k (event.Check n)
with_step z reconcilers k (event.Reserve n) = hand_if (is_used k n) k (event.Reserve n)
with_step z reconcilers k (event.Publish n) = hand_if (is_used k n) k (event.Publish n)
with_step z reconcilers k event.Raise = hand k event.Raise
with_step z reconcilers k (event.Read n) = hand_if (is_used k n) k (event.Read n)
with_step z reconcilers k (event.ReadAt n) = hand_if (is_used k n) k (event.ReadAt n)
with_step z reconcilers k (event.Compact n) = hand_if (is_used k n) k (event.Compact n)
with_step z reconcilers k (event.Part n) = hand_if (is_used k n) k (event.Part n)
with_step z reconcilers k (event.Reply n) =
    if is_used k n then hand (hears reconcilers k (controller_at k n) (delivered z k.events (event.Reply n))) (event.Reply n) else k
with_step z reconcilers k (event.Crash n) = hand_if (is_used k n && is_nobody (controller_at k n)) k (event.Crash n)

-- ---- the run
-- The existing controllers have the numbers below the count.
abbrev pub happens : Size → ℕ → (ℕ → Reconciler) → Cluster → ClusterEvent → Cluster
happens z count reconcilers k (Next c) = if nat_lt c count then with_next z reconcilers k c else k
happens z count reconcilers k (Outside n r) = with_outside k n r (k.incarnations n)
happens z count reconcilers k (Step e) = with_step z reconcilers k e
happens z count reconcilers k (Crash c) = if nat_lt c count then with_crash k c else k

abbrev pub run : Size → ℕ → (ℕ → Reconciler) → Cluster → List ClusterEvent → Cluster
run z count reconcilers k [] = k
run z count reconcilers k (e ∷ es) = run z count reconcilers (happens z count reconcilers k e) es
