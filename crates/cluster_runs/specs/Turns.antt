-- The events that short lines of a script mean: each line adds those that come next, over the cluster as the lines
-- before left it.
use Rattle.std.specs.Prelude.{ℕ, zero, suc, Bool, true, false, not, ◌&&◌, nat_lt, List, [], ◌∷◌, ◌++◌, length, Option, Some, None, if◌then◌else◌}
use Rattle.std.specs.List.{range_with_len}
use Rattle.objects.specs.declared.kind.Kind.TheVariants.{Pod}
use Rattle.requests.specs.declared.reply.Reply.{Reply}
use Rattle.requests.specs.declared.reply.Reply.TheVariants as reply
use Rattle.requests.specs.declared.request.Request.{Request}
use Rattle.requests.specs.declared.request.Request.TheVariants as request
use Rattle.interleavings.specs.declared.event.Event.{Event}
use Rattle.interleavings.specs.declared.event.Event.TheVariants as event
use Rattle.interleavings.specs.Trace.{after}
use Rattle.interleavings.specs.World.{Size, opening}
use Rattle.history.specs.NextStep.{next_step}
use Rattle.rounds.specs.Kubelet.{turn_requests_of}
use Rattle.rounds.specs.Phase.{asks}
use Rattle.rounds.specs.Reconciler.{Reconciler}
use Rattle.cluster_runs.specs.declared.event.ClusterEvent.{ClusterEvent}
use Rattle.cluster_runs.specs.declared.event.ClusterEvent.TheVariants.{Next, Outside, Step}
use Rattle.cluster_runs.specs.Cluster.{Cluster, happens, is_idle, is_used, lowest_unused, run, start, delivered}
use Rattle.cluster_runs.specs.declared.turn.Turn.{Turn}
use Rattle.cluster_runs.specs.declared.turn.Turn.TheVariants as turn

-- the events to come, depending on the cluster that they find, and the reply that ends them, if any
abbrev pub Course : Type 0
Course = Size → ℕ → (ℕ → Reconciler) → Cluster → List ClusterEvent × Option Reply

abbrev pub ends_with : Option Reply → Course
ends_with reply = λ z count reconcilers k. ([], reply)

abbrev pub nothing : Course
nothing = ends_with None

-- one course, and then another that depends on the reply of the first, over the cluster that it leaves
abbrev pub followed_by : (first : Course) → (next : Option Reply → Course) → Course
followed_by first next = λ z count reconcilers k.
    let one = first z count reconcilers k in
    let two = next one.1 z count reconcilers (run z count reconcilers k one.0) in
    (one.0 ++ two.0, two.1)

-- an event, and then a course over the cluster that it leaves
abbrev pub event_and : ClusterEvent → (next : Course) → Course
event_and e next = λ z count reconcilers k.
    let two = next z count reconcilers (happens z count reconcilers k e) in
    (e ∷ two.0, two.1)

-- ---- run: the steps that bring an open request to its reply while no other caller moves
abbrev pub reply_of : Event → Option ℕ
reply_of (event.Reply n) = Some n
reply_of e = None

-- the event that gives a caller its reply, and the reply
abbrev pub reply_to : (caller : ℕ) → Course
reply_to n = λ z count reconcilers k. (Step (event.Reply n) ∷ [], if is_used k n then delivered z k.events (event.Reply n) else None)

abbrev pub step_by : Event → (replied : Option ℕ) → (next : Course) → Course
step_by e (Some n) next = reply_to n
step_by e None next = event_and (Step e) next

abbrev pub step_and : (step : Option Event) → (next : Course) → Course
step_and None next = nothing
step_and (Some e) next = step_by e (reply_of e) next

-- Each step is the one that helps the caller; there is none after its reply, or if no step helps.
unfoldable pub carried_in : (steps caller : ℕ) → Course
carried_in zero n = nothing
carried_in (suc steps) n = λ z count reconcilers k. step_and (next_step z (after z opening k.events) n) (carried_in steps n) z count reconcilers k

-- No request needs more steps: a write needs a check, a reserve and a publish, a read one step and one for each of at
-- most 64 shards; then the frontier is raised at most once for each of at most 1,048,576 numbers, and there is a reply.
abbrev pub most_steps : ℕ
most_steps = 2097152

unfoldable pub carried : (caller : ℕ) → Course
carried n = carried_in most_steps n

-- only if the controller exists
abbrev pub if_there : (controller : ℕ) → Course → Course
if_there c course = λ z count reconcilers k. if nat_lt c count then course z count reconcilers k else ([], None)

-- the open request of the controller's caller is brought to its reply
abbrev pub own_carried : (controller : ℕ) → Course
own_carried c = λ z count reconcilers k. carried (k.callers c) z count reconcilers k

abbrev pub run_of : (controller : ℕ) → Course
run_of c = if_there c (own_carried c)

-- ---- a controller's round
abbrev pub is_idle_at : Size → Cluster → (caller : ℕ) → Bool
is_idle_at z k n = is_idle ((after z opening k.events).phase n)

-- the controller calls its next request, which is brought to its reply; one that is still open is continued
abbrev pub asked : (controller : ℕ) → Course
asked c = event_and (Next c) (own_carried c)

-- the controller got its reply, and its next request is such a one
abbrev pub is_next : (such : Request → Bool) → Size → (ℕ → Reconciler) → Cluster → (controller : ℕ) → Bool
is_next such z reconcilers k c = is_idle_at z k (k.callers c) && such (asks (reconcilers c) (k.phases c))

-- one course if so, and the other if not
abbrev pub if_next : (such : Request → Bool) → (controller : ℕ) → (one other : Course) → Course
if_next such c one other = λ z count reconcilers k. if is_next such z reconcilers k c then one z count reconcilers k else other z count reconcilers k

-- it sends one request, and then more while its next request is such a one
unfoldable pub asked_while : (such : Request → Bool) → (requests controller : ℕ) → Course
asked_while such zero c = nothing
asked_while such (suc requests) c = followed_by (asked c) (λ delivered. if_next such c (asked_while such requests c) nothing)

-- no round has more requests
abbrev pub most_requests : ℕ
most_requests = 4294967296

-- a round begins with the read of the set
abbrev pub begins : Request → Bool
begins (request.Get k) = true
begins r = false

abbrev pub is_within : Request → Bool
is_within r = not (begins r)

-- up to the end of its round, or to a reply that does not come
unfoldable pub round : (controller : ℕ) → Course
round c = asked_while is_within most_requests c

abbrev pub round_of : (controller : ℕ) → Course
round_of c = if_there c (round c)

-- ---- approach: a controller's round up to its next write
-- a get or a list
abbrev pub is_read : Request → Bool
is_read (request.Get k) = true
is_read (request.List kind namespace exact) = true
is_read r = false

abbrev pub is_write : Request → Bool
is_write r = not (is_read r)

abbrev pub is_read_within : Request → Bool
is_read_within r = is_within r && is_read r

-- It stops before it calls a write, at the end of its round, or if a reply does not come.
unfoldable pub approach : (controller : ℕ) → Course
approach c = if_next is_write c nothing (asked_while is_read_within most_requests c)

abbrev pub approach_of : (controller : ℕ) → Course
approach_of c = if_there c (approach c)

-- one after another
abbrev pub rounds_of : (controllers : List ℕ) → Course
rounds_of [] = nothing
rounds_of (c ∷ cs) = followed_by (round c) (λ delivered. rounds_of cs)

-- ---- the kubelet's turn: it sends requests as another client, if its caller is idle
abbrev pub asked_as : (caller : ℕ) → Request → Course
asked_as n r = λ z count reconcilers k. if is_idle_at z k n then event_and (Outside n r) (carried n) z count reconcilers k else ([], None)

abbrev pub asked_all : (caller : ℕ) → List Request → Course
asked_all n [] = nothing
asked_all n (r ∷ rs) = followed_by (asked_as n r) (λ delivered. asked_all n rs)

-- what it sends after a list
abbrev pub tends : Option Reply → List Request
tends (Some (reply.Listed pods at)) = turn_requests_of pods
tends delivered = []

abbrev pub tended : (caller : ℕ) → (namespace : List ℕ) → Course
tended n namespace = followed_by (asked_as n (request.List Pod namespace 0)) (λ delivered. asked_all n (tends delivered))

abbrev pub tended_all : (caller : ℕ) → (namespaces : List (List ℕ)) → Course
tended_all n [] = nothing
tended_all n (s ∷ ss) = followed_by (tended n s) (λ delivered. tended_all n ss)

-- a request of its last turn that is still open comes first
abbrev pub kubelet_turn : (caller : ℕ) → (namespaces : List (List ℕ)) → Course
kubelet_turn n namespaces = followed_by (carried n) (λ delivered. tended_all n namespaces)

-- ---- settle: so many times, each controller makes a round, and then the kubelet a turn
abbrev pub settled_once : (kubelet : ℕ) → (namespaces : List (List ℕ)) → Course
settled_once n namespaces =
    followed_by (λ z count reconcilers k. rounds_of (range_with_len 0 count) z count reconcilers k) (λ delivered. kubelet_turn n namespaces)

unfoldable pub settled_as : (rounds kubelet : ℕ) → (namespaces : List (List ℕ)) → Course
settled_as zero n namespaces = nothing
settled_as (suc rounds) n namespaces = followed_by (settled_once n namespaces) (λ delivered. settled_as rounds n namespaces)

-- nothing without a kubelet
abbrev pub settled : (kubelet : Option ℕ) → (rounds : ℕ) → (namespaces : List (List ℕ)) → Course
settled None rounds namespaces = nothing
settled (Some n) rounds namespaces = settled_as rounds n namespaces

-- ---- what turns mean
-- the kubelet's caller in this turn: in the first turn that needs one, the lowest caller that was not used; in later
-- turns the same
abbrev pub kubelet_first : Cluster → Turn → Option ℕ
kubelet_first k (turn.Settle rounds) = if nat_lt 0 rounds then Some (lowest_unused k) else None
kubelet_first k t = None

abbrev pub kubelet_at : (kubelet : Option ℕ) → Cluster → Turn → Option ℕ
kubelet_at (Some n) k t = Some n
kubelet_at None k t = kubelet_first k t

abbrev pub course_of : (kubelet : Option ℕ) → (namespaces : List (List ℕ)) → Turn → Course
course_of kubelet namespaces (turn.Event e) = event_and e nothing
course_of kubelet namespaces (turn.Run c) = run_of c
course_of kubelet namespaces (turn.RunCaller n) = carried n
course_of kubelet namespaces (turn.Ask n r) = asked_as n r
course_of kubelet namespaces (turn.Round c) = round_of c
course_of kubelet namespaces (turn.Approach c) = approach_of c
course_of kubelet namespaces (turn.Settle rounds) = settled kubelet rounds namespaces

abbrev pub course_of_all : (kubelet : Option ℕ) → (namespaces : List (List ℕ)) → List Turn → Course
course_of_all kubelet namespaces [] = nothing
course_of_all kubelet namespaces (t ∷ ts) = λ z count reconcilers k.
    let now = kubelet_at kubelet k t in
    followed_by (course_of now namespaces t) (λ delivered. course_of_all now namespaces ts) z count reconcilers k

-- the events of a whole run, if the controllers' sets have these namespaces
unfoldable pub events_of_turns : Size → ℕ → (ℕ → Reconciler) → (namespaces : List (List ℕ)) → List Turn → List ClusterEvent
events_of_turns z count reconcilers namespaces turns = (course_of_all None namespaces turns z count reconcilers (start count)).0

-- how many events had been passed to the store at the end of each turn
abbrev pub ends_from : (kubelet : Option ℕ) → (namespaces : List (List ℕ)) → List Turn → Size → ℕ → (ℕ → Reconciler) → Cluster → List ℕ
ends_from kubelet namespaces [] z count reconcilers k = []
ends_from kubelet namespaces (t ∷ ts) z count reconcilers k =
    let now = kubelet_at kubelet k t in
    let next = run z count reconcilers k (course_of now namespaces t z count reconcilers k).0 in
    length next.events ∷ ends_from now namespaces ts z count reconcilers next

unfoldable pub ends_of_turns : Size → ℕ → (ℕ → Reconciler) → (namespaces : List (List ℕ)) → List Turn → List ℕ
ends_of_turns z count reconcilers namespaces turns = ends_from None namespaces turns z count reconcilers (start count)
