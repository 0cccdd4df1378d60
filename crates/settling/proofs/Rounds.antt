-- Rounds of `settle` with a set's controller are rounds over the plain store, as the laws of sets at rest have them.
use Rattle.std.proofs.Common.{◌≡◌, ◌≢◌, ◌+◌, ◌<◌, ◌≤◌, ℕ, zero, suc, List, [], length, filter, map, refl, sym, ap, ◌∙◌, subst, arith}
use Rattle.objects.specs.declared.key.Key.{Key}
use Rattle.objects.specs.declared.kind.Kind.TheVariants.{PersistentVolumeClaim}
use Rattle.objects.specs.declared.object.Object.{Object}
use Rattle.set_views.specs.Set.{SetParts}
use Rattle.collector.specs.Collectable.{deletion, is_collectable, is_listed}
use Rattle.plain_store.specs.Reached.{most_revisions}
use Rattle.plain_store.specs.Run as plain
use Rattle.plain_store.specs.Store.{Store}
use Rattle.interleavings.specs.World.{Size}
use Rattle.rounds.specs.Phase.{reading_set}
use Rattle.rounds.specs.Reconciler.{Reconciler}
use Rattle.controllers.specs.Reconciler.{reconciler_with}
use Rattle.cluster_runs.specs.Cluster.{Cluster}
use Rattle.quiet_runs.specs.Plain.{plain_of}
use Rattle.quiet_runs.specs.Quiet.{world_of}
use Rattle.resting.specs.Accepting.{AreAccepted}
use Rattle.resting.specs.Acting.{after_turn}
use Rattle.resting.specs.RoundsOver.{AreRoundsOver, IsRoundOver}
use Rattle.resting.specs.Still.{listed_in, owners_in, plan_over}
use Rattle.resting.specs.WholeRounds.{after_round}
use Rattle.resting.proofs.AllAccepted.{unrefused_accepted}
use Rattle.resting.proofs.WholeRounds.{controller_round, plan_over_is}
use Rattle.settling.specs.Settling.{MayRound, after_settle, settled_store}
use Rattle.settling.proofs.Few.{AreFew, few_at, few_both}
use Rattle.settling.proofs.Settled.{Shows, both_go, none_yet, once, one_last, round_goes}

module _ (set : SetParts) (digits : ℕ) (moment : List ℕ) (timed : moment ≢ []) where
  -- the controller, by the key of the set as it is read
  abbrev own_of : (s : Store) → MayRound set digits moment s → Reconciler
  own_of s may = reconciler_with may.now.object.key digits moment

  -- what the controller leaves, and then the kubelet
  abbrev pub between : (s : Store) → MayRound set digits moment s → Store
  between s may = after_round (own_of s may) s may.now.object

  abbrev pub left_by : (s : Store) → MayRound set digits moment s → Store
  left_by s may = after_turn may.now.object.key.namespace (between s may)

  accepted : (s : Store) (may : MayRound set digits moment s) → AreAccepted s (plan_over (reconciler_with may.now.object.key digits moment) s may.now.object)
  accepted s may =
      subst (AreAccepted s) (sym (plan_over_is may.now digits moment s may.is_read.read))
      (unrefused_accepted may.now digits moment s timed may.may_act may.is_read may.whole may.given may.plan)

  abbrev pub round_over : (s t : Store) (may : MayRound set digits moment s) → t ≡ left_by s may → IsRoundOver set digits s t
  round_over s t may left = record {
    now = may.now;
    key_is = may.key_is;
    is_read = may.is_read;
    plan = may.plan;
    moment = moment;
    is_time = timed;
    may_act = may.may_act;
    between = between s may;
    ends = controller_round may.now digits moment s may.is_read.there may.is_read.read (unrefused_accepted may.now digits moment s timed may.may_act may.is_read may.whole may.given may.plan);
    may_turn = may.may_turn;
    left = left;
  }

  module _ (z : Size) (reconcilers : ℕ → Reconciler) (some : 0 < z.shards) (few : z.shards ≤ 64) (small : z.capacity ≤ most_revisions) (n : ℕ) (is_of : reconcilers 0 ≡ reconciler_with set.object.key digits moment) where
    abbrev space : List ℕ
    space = set.object.key.namespace

    abbrev pub Now : Cluster → Store → Type 0
    Now k s = Shows z reconcilers some few n k (s, reading_set)

    -- the cluster after one of them
    abbrev pub next : Cluster → Cluster
    next = once z reconcilers some few n space

    pub once_goes : (k : Cluster) (s : Store) (may : MayRound set digits moment s) → Now k s → Now (next k) (left_by s may)
    once_goes k s may is =
        let key : Key = may.now.object.key in
        let c : Reconciler = reconciler_with key digits moment in
        let own : reconcilers 0 ≡ c = is_of ∙ ap (λ x. reconciler_with x digits moment) (sym may.key_is) in
        let planned : Store = plain.after s (plan_over c s may.now.object) in
        let os : List Object = filter (is_collectable planned.counter (is_listed (owners_in planned key))) (listed_in planned key PersistentVolumeClaim) in
        let p = length (plan_over c s may.now.object) in
        let q = length (map deletion os) in
        let sparse : AreFew s = subst AreFew is.store (few_at (world_of z k).log (world_of z k).frontier) in
        let capacity : s.capacity ≡ z.capacity = ap (λ (x : Store). x.capacity) (sym is.store) in
        let both : p + q ≤ s.capacity + s.capacity =
        few_both may.now digits moment s timed may.may_act (plan_over c s may.now.object) (is_collectable planned.counter (is_listed (owners_in planned key))) key.namespace may.plan sparse
        (plan_over_is may.now digits moment s may.is_read.read) in
        let P : Key → Type 0 = λ x. Now (next k) (after_turn x.namespace (between s may)) in
        subst P (sym may.key_is)
        (both_go z reconcilers some few n space k (between s may)
        (round_goes z reconcilers some few n c own s may.now.object may.is_read.there (accepted s may) os refl (omega (arith, both, capacity, small)) k is))

    -- ---- from a cluster, after so many of them
    module _ (k : Cluster) where
      abbrev pub At : ℕ → Cluster
      At = after_settle z reconcilers n space k

      abbrev pub In : ℕ → Store
      In = settled_store z reconcilers n space k

      pub one_more : (i j : ℕ) → suc i ≡ j → after_settle z reconcilers n space k j ≡ next (after_settle z reconcilers n space k i)
      one_more i j is = ap (after_settle z reconcilers n space k) (sym is) ∙ one_last z reconcilers some few n space k i

      pub begun : Now k (plain_of z k) → Now (after_settle z reconcilers n space k 0) (settled_store z reconcilers n space k 0)
      begun is = let P : Cluster → Type 0 = λ x. Now x (plain_of z x) in subst P (sym (none_yet z reconcilers some few n space k)) is

      -- one round more
      pub goes_to : (i j : ℕ) → suc i ≡ j → Now (At i) (In i) → MayRound set digits moment (In i) → Now (At j) (In j)
      goes_to i j is now may =
          let P : Cluster → Type 0 = λ x. Now x (plain_of z x) in
          let then : Now (next (At i)) (left_by (In i) may) = once_goes (At i) (In i) may now in
          subst P (sym (one_more i j is)) (subst (Now (next (At i))) (sym then.store) then)

      abbrev pub over_to : (i j : ℕ) → suc i ≡ j → Now (At i) (In i) → MayRound set digits moment (In i) → IsRoundOver set digits (In i) (In j)
      over_to i j is now may =
          let then : Now (next (At i)) (left_by (In i) may) = once_goes (At i) (In i) may now in
          round_over (In i) (In j) may (ap (plain_of z) (one_more i j is) ∙ then.store)

      -- several
      pub all_go : (m a : ℕ) → Now (At a) (In a) → ((i : ℕ) → i < m → MayRound set digits moment (In (a + i))) → Now (At (a + m)) (In (a + m)) × AreRoundsOver set digits m (In a) (In (a + m))
      all_go zero a now may = let same : a ≡ a + 0 = omega arith in let P : ℕ → Type 0 = λ j. Now (At j) (In j) × AreRoundsOver set digits 0 (In a) (In j) in subst P same (now, refl)
      all_go (suc m) a now may =
          let here : a + 0 ≡ a = omega arith in
          let shift : (i : ℕ) → a + suc i ≡ suc a + i = λ i. omega arith in
          let Q : ℕ → Type 0 = λ j. MayRound set digits moment (In j) in
          let first : MayRound set digits moment (In a) = subst Q here (may 0 (omega arith)) in
          let rest = all_go m (suc a) (goes_to a (suc a) refl now first) (λ i low. subst Q (shift i) (may (suc i) (omega (arith, low)))) in
          let P : ℕ → Type 0 = λ j. Now (At j) (In j) × AreRoundsOver set digits (suc m) (In a) (In j) in
          subst P (sym (shift m)) (rest.0, (In (suc a), over_to a (suc a) refl now first, rest.1))
