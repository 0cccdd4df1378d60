-- The line `settle` of a script is what the laws say of so many rounds.
use Rattle.std.proofs.Common.{◌≡◌, ◌<◌, ◌≤◌, ◌+◌, ◌++◌, ℕ, zero, suc, false, cond, List, [], ◌∷◌, Option, Some, None, refl, sym, ap, ◌∙◌, arith, lt-ltb, true≢false}
use Rattle.std.specs.List.{AllByRecursion}
use Rattle.requests.specs.declared.reply.Reply.{Reply}
use Rattle.interleavings.specs.World.{Size}
use Rattle.rounds.specs.Phase.{reading_set}
use Rattle.rounds.specs.Reconciler.{Reconciler}
use Rattle.rounds.specs.Transcript.{Incarnation}
use Rattle.cluster_runs.specs.Cluster.{Cluster, is_used, lowest_unused, run, start}
use Rattle.cluster_runs.specs.Turns.{Course, course_of, course_of_all, events_of_turns, followed_by, kubelet_at, nothing, settled_as, settled_once}
use Rattle.cluster_runs.specs.declared.turn.Turn.{Turn}
use Rattle.cluster_runs.specs.declared.turn.Turn.TheVariants as turn
use Rattle.cluster_runs.proofs.Showing.{run-append}
use Rattle.cluster_runs.proofs.Steps.{Keeps, run_kept, start_kept}
use Rattle.cluster_runs.proofs.Unused.{lowest_is_unused}
use Rattle.quiet_runs.specs.Quiet.{IsAtRest, is_single, world_of}
use Rattle.quiet_runs.proofs.Rounds.{scripts_rest}
use Rattle.settling.specs.Settling.{IsBetweenRounds, after_settle, is_settle}

no_kubelet : (k : Cluster) (t : Turn) → is_settle t ≡ false → kubelet_at None k t ≡ None
no_kubelet k (turn.Event e) is = refl
no_kubelet k (turn.Run c) is = refl
no_kubelet k (turn.RunCaller n) is = refl
no_kubelet k (turn.Ask n r) is = refl
no_kubelet k (turn.Round c) is = refl
no_kubelet k (turn.Approach c) is = refl
no_kubelet k (turn.Settle rounds) is = absurd cc

module _ (z : Size) (reconcilers : ℕ → Reconciler) (namespaces : List (List ℕ)) where
  abbrev run_of : Course → Cluster → Cluster
  run_of course k = run z 1 reconcilers k (course z 1 reconcilers k).0

  on : (first : Course) (next : Option Reply → Course) (k : Cluster) → run_of (followed_by first next) k ≡ run_of (next (first z 1 reconcilers k).1) (run_of first k)
  on first next k = run-append z 1 reconcilers k (first z 1 reconcilers k).0 (next (first z 1 reconcilers k).1 z 1 reconcilers (run_of first k)).0

  -- lines before the first `settle`, and those after them
  then_lines : (ts more : List Turn) (k : Cluster) → AllByRecursion (λ t. is_settle t ≡ false) ts
      → run_of (course_of_all None namespaces (ts ++ more)) k ≡ run_of (course_of_all None namespaces more) (run_of (course_of_all None namespaces ts) k)
  then_lines [] more k none = refl
  then_lines (t ∷ ts) more k none =
      let first : Course = course_of None namespaces t in
      let by : List Turn → Option ℕ → Cluster = λ us kubelet. run_of (followed_by (course_of kubelet namespaces t) (λ delivered. course_of_all kubelet namespaces us)) k in
      ap (by (ts ++ more)) (no_kubelet k t none.0) ∙ on first (λ delivered. course_of_all None namespaces (ts ++ more)) k
      ∙ then_lines ts more (run_of first k) none.1
      ∙ ap (run_of (course_of_all None namespaces more)) (sym (ap (by ts) (no_kubelet k t none.0) ∙ on first (λ delivered. course_of_all None namespaces ts) k))

module _ (z : Size) (reconcilers : ℕ → Reconciler) (namespace : List ℕ) where
  abbrev spaces : List (List ℕ)
  spaces = namespace ∷ []

  -- so many rounds, and then more
  module _ (n : ℕ) where
    pub and_more : (a b : ℕ) (k : Cluster) → after_settle z reconcilers n namespace k (a + b) ≡ after_settle z reconcilers n namespace (after_settle z reconcilers n namespace k a) b
    unfolding settled_as
    and_more zero b k = let same : 0 + b ≡ b = omega arith in ap (after_settle z reconcilers n namespace k) same
    and_more (suc a) b k =
        let same : suc a + b ≡ suc (a + b) = omega arith in
        let first : Course = settled_once n (namespace ∷ []) in
        let once : Cluster = run_of z reconcilers spaces first k in
        ap (after_settle z reconcilers n namespace k) same ∙ on z reconcilers spaces first (λ delivered. settled_as (a + b) n (namespace ∷ [])) k
        ∙ and_more a b once
        ∙ ap (λ x. after_settle z reconcilers n namespace x b) (sym (on z reconcilers spaces first (λ delivered. settled_as a n (namespace ∷ [])) k))

  abbrev with_lines : List Turn → Cluster → Cluster
  with_lines ts k = run_of z reconcilers spaces (course_of_all None spaces ts) k

  abbrev by_kubelet : Turn → List Turn → Cluster → Option ℕ → Cluster
  by_kubelet t ts k kubelet = run_of z reconcilers spaces (followed_by (course_of kubelet spaces t) (λ delivered. course_of_all kubelet spaces ts)) k

  first_kubelet : (k : Cluster) (rounds : ℕ) → 0 < rounds → kubelet_at None k (turn.Settle rounds) ≡ Some (lowest_unused k)
  first_kubelet k rounds low = ap (λ b. cond b (Some (lowest_unused k)) None) (lt-ltb 0 rounds low)

  one_line : (k : Cluster) (rounds : ℕ) → 0 < rounds → with_lines (turn.Settle rounds ∷ []) k ≡ after_settle z reconcilers (lowest_unused k) namespace k rounds
  one_line k rounds low =
      ap (by_kubelet (turn.Settle rounds) [] k) (first_kubelet k rounds low) ∙ on z reconcilers spaces (settled_as rounds (lowest_unused k) spaces) (λ delivered. nothing) k

  two_lines : (k : Cluster) (rounds more : ℕ) → 0 < rounds → with_lines (turn.Settle rounds ∷ turn.Settle more ∷ []) k ≡ after_settle z reconcilers (lowest_unused k) namespace k (rounds + more)
  two_lines k rounds more low =
      let n : ℕ = lowest_unused k in
      let middle : Cluster = after_settle z reconcilers n namespace k rounds in
      ap (by_kubelet (turn.Settle rounds) (turn.Settle more ∷ []) k) (first_kubelet k rounds low)
      ∙ on z reconcilers spaces (settled_as rounds n spaces) (λ delivered. course_of_all (Some n) spaces (turn.Settle more ∷ [])) k
      ∙ on z reconcilers spaces (settled_as more n spaces) (λ delivered. nothing) middle
      ∙ sym (and_more n rounds more k)

  -- ---- a whole script
  abbrev whole : List Turn → Cluster
  whole ts = run z 1 reconcilers (start 1) (events_of_turns z 1 reconcilers spaces ts)

  pub script_settles : (beginning : List Turn) (rounds more : ℕ) → AllByRecursion (λ t. is_settle t ≡ false) beginning → 0 < rounds
      → (whole (beginning ++ turn.Settle rounds ∷ []) ≡ after_settle z reconcilers (lowest_unused (whole beginning)) namespace (whole beginning) rounds)
      × (whole (beginning ++ turn.Settle rounds ∷ turn.Settle more ∷ []) ≡ after_settle z reconcilers (lowest_unused (whole beginning)) namespace (whole beginning) (rounds + more))
  unfolding events_of_turns
  script_settles beginning rounds more none low =
      let k : Cluster = with_lines beginning (start 1) in (
        then_lines z reconcilers spaces beginning (turn.Settle rounds ∷ []) (start 1) none ∙ one_line k rounds low,
        then_lines z reconcilers spaces beginning (turn.Settle rounds ∷ turn.Settle more ∷ []) (start 1) none ∙ two_lines k rounds more low,
      )

  -- ---- where it begins
  nobody : (k : Cluster) → Keeps z reconcilers 1 k → (m : ℕ) → is_used k m ≡ false → (o : Option Incarnation) → k.incarnations m ≡ o → o ≡ None
  nobody k kept m unused None is = refl
  nobody k kept m unused (Some i) is = absurd (true≢false (sym (kept.known m i is) ∙ unused))

  pub script_begins : 0 < z.shards → z.shards ≤ 64 → (beginning : List Turn) → AllByRecursion (λ t. is_single t ≡ false) beginning → (whole beginning).phases 0 ≡ reading_set
      → IsBetweenRounds z (lowest_unused (whole beginning)) (whole beginning)
  script_begins some few beginning lines begins =
      let k : Cluster = whole beginning in
      let rest : IsAtRest (world_of z k) = scripts_rest z 1 reconcilers some few spaces beginning lines in
      let kept : Keeps z reconcilers 1 k = run_kept z reconcilers 1 (start 1) (start_kept z reconcilers 1) (events_of_turns z 1 reconcilers spaces beginning) in
      record {
        quiet = rest.quiet;
        begins = begins;
        idle = rest.idle (k.callers 0);
        kubelet_idle = rest.idle (lowest_unused k);
        kubelet_apart = nobody k kept (lowest_unused k) (lowest_is_unused k) (k.incarnations (lowest_unused k)) refl;
      }
