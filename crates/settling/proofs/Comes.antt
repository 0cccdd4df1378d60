-- A set comes to rest while its cluster settles.
use Rattle.std.proofs.Common.{◌≡◌, ◌≢◌, ◌⊎◌, inl, inr, ◌+◌, ◌<◌, ◌≤◌, ℕ, suc, false, List, [], Ok, subst, arith}
use Rattle.serde_json.specs.Written.{members_have_float}
use Rattle.objects.specs.declared.kind.Kind.TheVariants.{PersistentVolumeClaim}
use Rattle.objects.specs.declared.object.Object.{Object}
use Rattle.set_views.specs.declared.policies.Policy.TheVariants.{OrderedReady}
use Rattle.set_views.specs.Set.{SetParts}
use Rattle.pod_steps.specs.Listed.{replicas_in}
use Rattle.pod_steps.specs.Replicas.{Pods}
use Rattle.collector.specs.Collectable.{collection as collectable}
use Rattle.manifests.specs.BuiltStatus.{old_status}
use Rattle.plain_store.specs.Reached.{most_revisions}
use Rattle.plain_store.specs.Store.{Store}
use Rattle.interleavings.specs.World.{Size}
use Rattle.rounds.specs.Reconciler.{Reconciler}
use Rattle.controllers.specs.Reconciler.{reconciler_with}
use Rattle.convergence.specs.Left.{most_rounds}
use Rattle.convergence.specs.Stopped.{IsStopped}
use Rattle.cluster_runs.specs.Cluster.{Cluster}
use Rattle.resting.specs.Acting.{IsReadIn, IsUnrefusedOver, after_plan, views_in}
use Rattle.resting.specs.RoundsOver.{AreRoundsOver, CondemnsNoMore, IsInPlace}
use Rattle.resting.specs.Still.{ShowsRest, listed_in, owners_in}
use Rattle.resting.specs.WholeRounds.{MayCollect}
use Rattle.resting.proofs.PutInPlace.{put_in_place}
use Rattle.resting.proofs.RestRounds.{come_to_rest, seen_tended, tended_by, tended_last, tended_then}
use Rattle.resting.proofs.RoundsOver.{alike_as_is}
use Rattle.settling.specs.Settling.{ComesToRest, MayRound, after_settle, settled_store}
use Rattle.settling.proofs.Rest.{stays}
use Rattle.settling.proofs.Rounds.{Now, all_go, goes_to, over_to}

module _ (set : SetParts) (digits : ℕ) (moment : List ℕ) (timed : moment ≢ []) (z : Size) (reconcilers : ℕ → Reconciler) (some : 0 < z.shards) (few : z.shards ≤ 64) (small : z.capacity ≤ most_revisions) (n : ℕ)
    (is_of : reconcilers 0 ≡ reconciler_with set.object.key digits moment) (k : Cluster) where
  abbrev At : ℕ → Cluster
  At = after_settle z reconcilers n set.object.key.namespace k

  abbrev In : ℕ → Store
  In = settled_store z reconcilers n set.object.key.namespace k

  abbrev pub Stands : ℕ → Type 0
  Stands i = Now set digits moment timed z reconcilers some few small n is_of (after_settle z reconcilers n set.object.key.namespace k i) (settled_store z reconcilers n set.object.key.namespace k i)

  -- so it is after a round that leaves the set at rest
  comes : (i j : ℕ) → suc i ≡ j → Stands i → MayRound set digits moment (In i) → ShowsRest set.object.key digits (In j) → ComesToRest set.object.key digits (settled_store z reconcilers n set.object.key.namespace k) j
  comes i j is now may rests =
      let over = over_to set digits moment timed z reconcilers some few small n is_of k i j is now may in
      let tended = tended_then set digits (In i) (In j) over in
      let then = goes_to set digits moment timed z reconcilers some few small n is_of k i j is now may in
      record {
        rests = rests;
        stays = λ more. (stays set digits moment timed z reconcilers some few small n is_of (In j) rests tended k more j then).store;
      }

  pub comes_in_place : (update : Object) (m : ℕ) (current : List ℕ) (pods last : Pods) → Stands 0 → IsReadIn (In 0) set → IsInPlace set digits update (In 0)
      → ((i : ℕ) → i < m → MayRound set digits moment (In i))
      → replicas_in set update.key.name current (views_in set (In 0)) ≡ Ok pods → replicas_in set update.key.name current (views_in set (In m)) ≡ Ok last → most_rounds set pods + 1 ≤ m
      → (round : MayRound set digits moment (In m)) → members_have_float (old_status round.now) ≡ false
      → (next : SetParts) → IsReadIn (In (m + 1)) next → next.object.key ≡ set.object.key → IsUnrefusedOver next digits (In (m + 1))
      → (collectable (listed_in (In (m + 1)) set.object.key PersistentVolumeClaim) (owners_in (In (m + 1)) set.object.key) (In (m + 1)).counter ≡ [])
      ⊎ MayCollect (reconciler_with set.object.key digits moment) (after_plan round.now digits moment (In m))
      → ComesToRest set.object.key digits (settled_store z reconcilers n set.object.key.namespace k) (m + 1) ⊎ ((set.policy ≡ OrderedReady) × IsStopped set pods)
  comes_in_place update m current pods last now read at may shown end enough round whole next is_read key unrefused collected =
      let from_zero : 0 + m ≡ m = omega arith in
      let P : ℕ → Type 0 = λ j. Stands j × AreRoundsOver set digits m (In 0) (In j) in
      let Q : ℕ → Type 0 = λ j. MayRound set digits moment (In j) in
      let shift : (i : ℕ) → i ≡ 0 + i = λ i. omega arith in
      let all = subst P from_zero (all_go set digits moment timed z reconcilers some few small n is_of k m 0 now (λ i low. subst Q (shift i) (may i low))) in
      let is : suc m ≡ m + 1 = omega arith in
      let over = over_to set digits moment timed z reconcilers some few small n is_of k m (m + 1) is all.0 round in
      elim (come_to_rest set current digits update m (In 0) (In m) (In (m + 1)) pods last (set, read, alike_as_is set) at all.1 shown end (inl enough)
      (tended_by set digits m (In 0) (In m) (omega (arith, enough)) all.1) over whole next is_read key unrefused collected) [
        | inl rests ↦ inl (comes m (m + 1) is all.0 round rests)
        | inr stopped ↦ inr stopped
      ]

  pub comes_from_any : (m : ℕ) → Stands 0 → IsReadIn (In 0) set → ((i : ℕ) → i ≤ m → MayRound set digits moment (In i))
      → (update : Object) × IsInPlace set digits update (In 1) × CondemnsNoMore set update.key.name (In 0) (In 1) × ((current : List ℕ) (pods last : Pods)
      → replicas_in set update.key.name current (views_in set (In 1)) ≡ Ok pods → replicas_in set update.key.name current (views_in set (In (1 + m))) ≡ Ok last → most_rounds set pods ≤ m
      → (round : MayRound set digits moment (In (1 + m))) → members_have_float (old_status round.now) ≡ false
      → (next : SetParts) → IsReadIn (In (2 + m)) next → next.object.key ≡ set.object.key → IsUnrefusedOver next digits (In (2 + m))
      → (collectable (listed_in (In (2 + m)) set.object.key PersistentVolumeClaim) (owners_in (In (2 + m)) set.object.key) (In (2 + m)).counter ≡ [])
      ⊎ MayCollect (reconciler_with set.object.key digits moment) (after_plan round.now digits moment (In (1 + m)))
      → ComesToRest set.object.key digits (settled_store z reconcilers n set.object.key.namespace k) (2 + m) ⊎ ((set.policy ≡ OrderedReady) × IsStopped set pods))
  comes_from_any m now read may =
      let one : suc 0 ≡ 1 = omega arith in
      let is : suc (1 + m) ≡ 2 + m = omega arith in
      let begin : MayRound set digits moment (In 0) = may 0 (omega arith) in
      let first = over_to set digits moment timed z reconcilers some few small n is_of k 0 1 one now begin in
      let now_one = goes_to set digits moment timed z reconcilers some few small n is_of k 0 1 one now begin in
      let p = put_in_place set digits (In 0) (In 1) first begin.whole begin.given in
      let all = all_go set digits moment timed z reconcilers some few small n is_of k m 1 now_one (λ i low. may (1 + i) (omega (arith, low))) in (
        p.0,
        p.1,
        p.3 (set, read, alike_as_is set),
        λ current pods last shown end enough round whole next is_read key unrefused collected.
            let over = over_to set digits moment timed z reconcilers some few small n is_of k (1 + m) (2 + m) is all.0 round in
            elim (come_to_rest set current digits p.0 m (In 1) (In (1 + m)) (In (2 + m)) pods last (p.2 (set, read, alike_as_is set)) p.1 all.1 shown end
            (inr (seen_tended set p.0.key.name current (In 1) pods (tended_then set digits (In 0) (In 1) first) shown, enough))
            (tended_last set digits m (In 0) (In (1 + m)) (In 1, first, all.1)) over whole next is_read key unrefused collected) [
              | inl rests ↦ inl (comes (1 + m) (2 + m) is all.0 round rests)
              | inr stopped ↦ inr stopped
            ],
      )
