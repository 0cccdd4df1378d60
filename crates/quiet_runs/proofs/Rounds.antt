-- Rounds and turns leave the store quiet.
use Rattle.std.proofs.Common.{◌≡◌, ◌<◌, ◌≤◌, ◌∷◌, [], ℕ, zero, suc, Bool, true, false, List, Option, Some, None, cond, nat_lt, refl}
use Rattle.std.specs.List.{AllByRecursion, range_with_len}
use Rattle.objects.specs.declared.kind.Kind.TheVariants.{Pod}
use Rattle.requests.specs.declared.request.Request.{Request}
use Rattle.requests.specs.declared.request.Request.TheVariants as request
use Rattle.interleavings.specs.World.{Size}
use Rattle.rounds.specs.Reconciler.{Reconciler}
use Rattle.cluster_runs.specs.Cluster.{run, start}
use Rattle.cluster_runs.specs.Turns.{Course, approach, asked, asked_all, asked_as, asked_while, carried, course_of, course_of_all, events_of_turns, if_next, if_there, is_next, is_read_within, is_within, is_write, kubelet_at, kubelet_turn, most_requests, nothing, own_carried, round, rounds_of, settled, settled_as, settled_once, tended, tended_all, tends}
use Rattle.cluster_runs.specs.declared.turn.Turn.{Turn}
use Rattle.cluster_runs.specs.declared.turn.Turn.TheVariants as turn
use Rattle.cluster_runs.proofs.Steps.{start_kept}
use Rattle.quiet_runs.specs.Quiet.{IsAtRest, StaysQuiet, is_single, world_of}
use Rattle.quiet_runs.proofs.Stays.{Calms, asked_as_calms, asked_calms, begins_at_rest, calms_if, calms_nothing, calms_then, carried_calms, nothing_moves}

module _ (z : Size) (count : ℕ) (reconcilers : ℕ → Reconciler) (some : 0 < z.shards) (few : z.shards ≤ 64) where
  -- ---- a controller's round, and its approach to a write
  asked_while_calms : (such : Request → Bool) (requests c : ℕ) → Calms z count reconcilers (asked_while such requests c)
  unfolding asked_while
  asked_while_calms such zero c = calms_nothing z count reconcilers
  asked_while_calms such (suc requests) c =
      calms_then z count reconcilers (asked c) (λ delivered. if_next such c (asked_while such requests c) nothing) (asked_calms z count reconcilers some few c)
      (λ delivered k kept quiet. calms_if z count reconcilers (is_next such z reconcilers k c) (asked_while such requests c z count reconcilers k) k quiet (asked_while_calms such requests c k kept quiet))

  pub round_calms : (c : ℕ) → Calms z count reconcilers (round c)
  unfolding round
  round_calms c = asked_while_calms is_within most_requests c

  pub approach_calms : (c : ℕ) → Calms z count reconcilers (approach c)
  unfolding approach
  approach_calms c k kept quiet = go (is_next is_write z reconcilers k c)
    where
      go : (b : Bool) → StaysQuiet z k (run z count reconcilers k (cond b ([], None) (asked_while is_read_within most_requests c z count reconcilers k)).0)
      go true = nothing_moves z k quiet
      go false = asked_while_calms is_read_within most_requests c k kept quiet

  rounds_calm : (cs : List ℕ) → Calms z count reconcilers (rounds_of cs)
  rounds_calm [] = calms_nothing z count reconcilers
  rounds_calm (c ∷ cs) = calms_then z count reconcilers (round c) (λ delivered. rounds_of cs) (round_calms c) (λ delivered. rounds_calm cs)

  -- ---- the kubelet's turn
  module _ (n : ℕ) where
    all_calm : (rs : List Request) → Calms z count reconcilers (asked_all n rs)
    all_calm [] = calms_nothing z count reconcilers
    all_calm (r ∷ rs) = calms_then z count reconcilers (asked_as n r) (λ delivered. asked_all n rs) (asked_as_calms z count reconcilers some few n r) (λ delivered. all_calm rs)

    tended_calms : (namespace : List ℕ) → Calms z count reconcilers (tended n namespace)
    tended_calms namespace =
        calms_then z count reconcilers (asked_as n (request.List Pod namespace 0)) (λ delivered. asked_all n (tends delivered))
        (asked_as_calms z count reconcilers some few n (request.List Pod namespace 0)) (λ delivered. all_calm (tends delivered))

    tended_all_calms : (namespaces : List (List ℕ)) → Calms z count reconcilers (tended_all n namespaces)
    tended_all_calms [] = calms_nothing z count reconcilers
    tended_all_calms (s ∷ ss) = calms_then z count reconcilers (tended n s) (λ delivered. tended_all n ss) (tended_calms s) (λ delivered. tended_all_calms ss)

    turn_calms : (namespaces : List (List ℕ)) → Calms z count reconcilers (kubelet_turn n namespaces)
    turn_calms namespaces =
        calms_then z count reconcilers (carried n) (λ delivered. tended_all n namespaces) (carried_calms z count reconcilers some few n) (λ delivered. tended_all_calms namespaces)

    -- ---- both, so many times
    once_calms : (namespaces : List (List ℕ)) → Calms z count reconcilers (settled_once n namespaces)
    once_calms namespaces =
        calms_then z count reconcilers (λ z count reconcilers k. rounds_of (range_with_len 0 count) z count reconcilers k) (λ delivered. kubelet_turn n namespaces)
        (rounds_calm (range_with_len 0 count)) (λ delivered. turn_calms namespaces)

    pub settled_calms : (rounds : ℕ) (namespaces : List (List ℕ)) → Calms z count reconcilers (settled_as rounds n namespaces)
    unfolding settled_as
    settled_calms zero namespaces = calms_nothing z count reconcilers
    settled_calms (suc rounds) namespaces =
        calms_then z count reconcilers (settled_once n namespaces) (λ delivered. settled_as rounds n namespaces) (once_calms namespaces) (λ delivered. settled_calms rounds namespaces)

  -- ---- the lines of a script
  there_calms : (c : ℕ) (course : Course) → Calms z count reconcilers course → Calms z count reconcilers (if_there c course)
  there_calms c course calms k kept quiet = calms_if z count reconcilers (nat_lt c count) (course z count reconcilers k) k quiet (calms k kept quiet)

  by_kubelet : (kubelet : Option ℕ) (rounds : ℕ) (namespaces : List (List ℕ)) → Calms z count reconcilers (settled kubelet rounds namespaces)
  by_kubelet None rounds namespaces = calms_nothing z count reconcilers
  by_kubelet (Some n) rounds namespaces = settled_calms n rounds namespaces

  line_calms : (kubelet : Option ℕ) (namespaces : List (List ℕ)) (t : Turn) → is_single t ≡ false → Calms z count reconcilers (course_of kubelet namespaces t)
  line_calms kubelet namespaces (turn.Event e) is = absurd cc
  line_calms kubelet namespaces (turn.Run c) is = there_calms c (own_carried c) (λ k kept quiet. carried_calms z count reconcilers some few (k.callers c) k kept quiet)
  line_calms kubelet namespaces (turn.RunCaller n) is = carried_calms z count reconcilers some few n
  line_calms kubelet namespaces (turn.Ask n r) is = asked_as_calms z count reconcilers some few n r
  line_calms kubelet namespaces (turn.Round c) is = there_calms c (round c) (round_calms c)
  line_calms kubelet namespaces (turn.Approach c) is = there_calms c (approach c) (approach_calms c)
  line_calms kubelet namespaces (turn.Settle rounds) is = by_kubelet kubelet rounds namespaces

  lines_calm : (kubelet : Option ℕ) (namespaces : List (List ℕ)) (ts : List Turn) → AllByRecursion (λ t. is_single t ≡ false) ts → Calms z count reconcilers (course_of_all kubelet namespaces ts)
  lines_calm kubelet namespaces [] all k kept quiet = nothing_moves z k quiet
  lines_calm kubelet namespaces (t ∷ ts) all k kept quiet =
      let now = kubelet_at kubelet k t in
      calms_then z count reconcilers (course_of now namespaces t) (λ delivered. course_of_all now namespaces ts) (line_calms now namespaces t all.0)
      (λ delivered. lines_calm now namespaces ts all.1) k kept quiet

  pub scripts_rest : (namespaces : List (List ℕ)) (ts : List Turn) → AllByRecursion (λ t. is_single t ≡ false) ts
      → IsAtRest (world_of z (run z count reconcilers (start count) (events_of_turns z count reconcilers namespaces ts)))
  unfolding events_of_turns
  scripts_rest namespaces ts all =
      let ends = lines_calm None namespaces ts all (start count) (start_kept z reconcilers count) begins_at_rest.quiet in
      record { quiet = ends.quiet; idle = λ n. ends.idle n refl }
