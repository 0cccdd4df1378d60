-- Each round of `settle` is a round of the controller and a kubelet's turn over the plain store.
use Rattle.std.proofs.Common.{◌≡◌, ◌<◌, ◌≤◌, ℕ, zero, suc, true, List, [], ◌∷◌, map, Option, Some, refl, sym, ap, ◌∙◌, subst, arith}
use Rattle.std.specs.FinMap as finite
use Rattle.std.specs.List.{range_with_len}
use Rattle.objects.specs.declared.kind.Kind.TheVariants.{Pod}
use Rattle.objects.specs.declared.object.Object.{Object}
use Rattle.requests.specs.declared.reply.Reply.{Reply}
use Rattle.requests.specs.declared.reply.Reply.TheVariants.{Listed}
use Rattle.requests.specs.declared.request.Request.{Request}
use Rattle.requests.specs.declared.request.Request.TheVariants as request
use Rattle.collector.specs.Collectable.{deletion}
use Rattle.plain_store.specs.Route.{route}
use Rattle.plain_store.specs.Run as plain
use Rattle.plain_store.specs.Store.{Store, collection, step}
use Rattle.interleavings.specs.World.{Size}
use Rattle.rounds.specs.Kubelet.{turn_requests_of}
use Rattle.rounds.specs.Phase.{Phase, asks, reading_set}
use Rattle.rounds.specs.Reconciler.{Reconciler}
use Rattle.cluster_runs.specs.declared.event.ClusterEvent.{ClusterEvent}
use Rattle.cluster_runs.specs.Cluster.{Cluster, run}
use Rattle.cluster_runs.specs.Turns.{Course, asked_all, asked_as, asked_while, begins, carried, followed_by, is_within, kubelet_turn, most_requests, nothing, round, rounds_of, settled_as, settled_once, tended, tended_all, tends}
use Rattle.quiet_runs.specs.Quiet.{is_open}
use Rattle.quiet_runs.proofs.Stays.{none_carried}
use Rattle.resting.specs.Accepting.{AreAccepted}
use Rattle.resting.specs.Acting.{after_turn}
use Rattle.resting.specs.Still.{exchanged, exchanged_times, plan_over}
use Rattle.resting.specs.WholeRounds.{after_round, collection_over}
use Rattle.settling.specs.Settling.{after_settle}
use Rattle.settling.proofs.Asking as asking
use Rattle.settling.proofs.Asking.{asks_all, asks_as, asks_while, follows}
use Rattle.settling.proofs.Inside.{Inside, more_requests, round_done, round_inside}

pub first_of_one : 0 < 1
first_of_one = omega arith

begins_a_round : (c : Reconciler) → begins (asks c reading_set) ≡ true
unfolding asks
begins_a_round c = refl

list_of_pods : (s : Store) (namespace : List ℕ) → step s (request.List Pod namespace 0) ≡ (s, Listed (collection s.objects Pod namespace) s.counter)
unfolding step route
list_of_pods s namespace = refl

module _ (z : Size) (reconcilers : ℕ → Reconciler) (some : 0 < z.shards) (few : z.shards ≤ 64) (n : ℕ) where
  abbrev pub Shows : Cluster → Store × Phase → Type 0
  Shows = asking.Shows z 1 reconcilers some few 0 first_of_one n

  abbrev run_of : Course → Cluster → Cluster
  run_of course k = run z 1 reconcilers k (course z 1 reconcilers k).0

  abbrev on : (first : Course) (next : Option Reply → Course) (k : Cluster) → run_of (followed_by first next) k ≡ run_of (next (first z 1 reconcilers k).1) (run_of first k)
  on = follows z 1 reconcilers some few 0 first_of_one n

  -- ---- the controller's round
  -- over the plain store it is this one
  module _ (c : Reconciler) (own : reconcilers 0 ≡ c) (s : Store) (set : Object) (there : finite.get s.objects c.set ≡ Some set) (all : AreAccepted s (plan_over c s set))
      (os : List Object) (collected : collection_over c (plain.after s (plan_over c s set)) ≡ map deletion os)
      (enough : suc (more_requests c s set there all os collected) ≤ most_requests) where
    now_inside : Inside (more_requests c s set there all os collected) (reconcilers 0) (exchanged (reconcilers 0) (s, reading_set))
    now_inside = subst (λ x. Inside (more_requests c s set there all os collected) x (exchanged x (s, reading_set))) (sym own) (round_inside c s set there all os collected)

    now_done : exchanged_times (more_requests c s set there all os collected) (reconcilers 0) (exchanged (reconcilers 0) (s, reading_set)) ≡ (after_round c s set, reading_set)
    now_done = ap (λ x. exchanged_times (more_requests c s set there all os collected) x (exchanged x (s, reading_set))) own ∙ round_done c s set there all os collected

    pub round_goes : (k : Cluster) → Shows k (s, reading_set) → Shows (run_of (round 0) k) (after_round c s set, reading_set)
    unfolding round
    round_goes k is =
        subst (Shows (run_of (asked_while is_within most_requests 0) k)) now_done
        (asks_while z 1 reconcilers some few 0 first_of_one n (more_requests c s set there all os collected) most_requests k (s, reading_set) is now_inside
        (ap (λ (x : Store × Phase). begins (asks (reconcilers 0) x.1)) now_done ∙ begins_a_round (reconcilers 0)) enough)

  -- ---- the kubelet's turn
  tended_goes : (namespace : List ℕ) (k : Cluster) (s : Store) (ph : Phase) → Shows k (s, ph) → Shows (run_of (tended n namespace) k) (after_turn namespace s, ph)
  tended_goes namespace k s ph is =
      let r : Request = request.List Pod namespace 0 in
      let listed = asks_as z 1 reconcilers some few 0 first_of_one n k s ph r is in
      let next : Cluster = run_of (asked_as n r) k in
      let pods = collection s.objects Pod namespace in
      let same : tends (asked_as n r z 1 reconcilers k).1 ≡ turn_requests_of pods = ap tends (listed.told ∙ ap (λ (x : Store × Reply). Some x.1) (list_of_pods s namespace)) in
      let there : Shows next (s, ph) = subst (λ (x : Store × Reply). Shows next (x.0, ph)) (list_of_pods s namespace) listed.shows in
      subst (λ (x : Cluster). Shows x (after_turn namespace s, ph)) (sym (on (asked_as n r) (λ delivered. asked_all n (tends delivered)) k))
      (subst (λ rs. Shows (run_of (asked_all n rs) next) (after_turn namespace s, ph)) (sym same)
      (asks_all z 1 reconcilers some few 0 first_of_one n (turn_requests_of pods) next s ph there))

  pub turn_goes : (namespace : List ℕ) (k : Cluster) (s : Store) (ph : Phase) → Shows k (s, ph) → Shows (run_of (kubelet_turn n (namespace ∷ [])) k) (after_turn namespace s, ph)
  turn_goes namespace k s ph is =
      let none : run_of (carried n) k ≡ k = ap (λ (o : List ClusterEvent × Option Reply). run z 1 reconcilers k o.0) (none_carried z 1 reconcilers n k (ap is_open is.kubelet_idle)) in
      subst (λ (x : Cluster). Shows x (after_turn namespace s, ph))
      (sym (on (carried n) (λ delivered. tended_all n (namespace ∷ [])) k ∙ ap (run_of (tended_all n (namespace ∷ []))) none ∙ on (tended n namespace) (λ delivered. nothing) k))
      (tended_goes namespace k s ph is)

  -- ---- both
  abbrev pub once : (namespace : List ℕ) → Cluster → Cluster
  once namespace k = run_of (settled_once n (namespace ∷ [])) k

  pub both_go : (namespace : List ℕ) (k : Cluster) (t : Store) → Shows (run_of (round 0) k) (t, reading_set) → Shows (once namespace k) (after_turn namespace t, reading_set)
  both_go namespace k t is =
      subst (λ (x : Cluster). Shows x (after_turn namespace t, reading_set))
      (sym (on (λ z count reconcilers k. rounds_of (range_with_len 0 count) z count reconcilers k) (λ delivered. kubelet_turn n (namespace ∷ [])) k
      ∙ ap (run_of (kubelet_turn n (namespace ∷ []))) (on (round 0) (λ delivered. nothing) k)))
      (turn_goes namespace (run_of (round 0) k) t reading_set is)

  -- ---- so many times
  module _ (namespace : List ℕ) where
    pub none_yet : (k : Cluster) → after_settle z reconcilers n namespace k 0 ≡ k
    unfolding settled_as
    none_yet k = refl

    pub one_first : (k : Cluster) (m : ℕ) → after_settle z reconcilers n namespace k (suc m) ≡ after_settle z reconcilers n namespace (once namespace k) m
    unfolding settled_as
    one_first k m = on (settled_once n (namespace ∷ [])) (λ delivered. settled_as m n (namespace ∷ [])) k

    pub one_last : (k : Cluster) (m : ℕ) → after_settle z reconcilers n namespace k (suc m) ≡ once namespace (after_settle z reconcilers n namespace k m)
    one_last k zero = one_first k 0 ∙ none_yet (once namespace k) ∙ ap (once namespace) (sym (none_yet k))
    one_last k (suc m) = one_first k (suc m) ∙ one_last (once namespace k) m ∙ ap (once namespace) (sym (one_first k m))
