-- A set at rest stays so while a cluster settles, and it comes to rest.
use Rattle.std.proofs.Common.{◌≡◌, ◌≢◌, ◌+◌, ◌<◌, ◌≤◌, ℕ, zero, suc, List, [], length, map, Ok, sym, ap, ◌∙◌, subst, arith}
use Rattle.std.specs.List.{AllByRecursion}
use Rattle.objects.specs.declared.key.Key.{Key}
use Rattle.objects.specs.declared.kind.Kind.TheVariants.{ControllerRevision, PersistentVolumeClaim, Pod}
use Rattle.set_views.specs.Set.{SetParts}
use Rattle.set_views.specs.Steps.{◌>>=◌}
use Rattle.collector.specs.Collectable.{deletion}
use Rattle.plain_store.specs.Run as plain
use Rattle.plain_store.specs.Reached.{most_revisions}
use Rattle.plain_store.specs.Store.{Store, collection}
use Rattle.interleavings.specs.World.{Size}
use Rattle.rounds.specs.Reconciler.{Reconciler}
use Rattle.controllers.specs.Planned.{or_none, requested, requested_for, requests_of}
use Rattle.controllers.specs.Reconciler.{reconciler_with}
use Rattle.cluster_runs.specs.Cluster.{Cluster}
use Rattle.resting.specs.Accepting.{AreAccepted}
use Rattle.resting.specs.Acting.{after_turn}
use Rattle.resting.specs.Still.{IsTendedPod, ShowsRest, listed_in, plan_over}
use Rattle.resting.specs.WholeRounds.{after_round, collection_over}
use Rattle.resting.proofs.Lists.{rest_is_empty}
use Rattle.resting.proofs.Still.{turns_ask_none}
use Rattle.settling.specs.Settling.{after_settle}
use Rattle.settling.proofs.Rounds.{Now, next, one_more}
use Rattle.settling.proofs.Settled.{both_go, round_goes}

-- ---- over the plain store
module _ (key : Key) (digits : ℕ) (moment : List ℕ) (u : Store) (rests : ShowsRest key digits u) where
  abbrev c : Reconciler
  c = reconciler_with key digits moment

  plans_nothing : plan_over (reconciler_with key digits moment) u rests.object ≡ []
  unfolding requested requested_for
  plans_nothing =
      let revisions = listed_in u key ControllerRevision in
      let pods = listed_in u key Pod in
      let claims = listed_in u key PersistentVolumeClaim in
      ap (λ r. or_none (r >>= λ x. requested_for x digits moment revisions pods claims)) rests.is_read
      ∙ ap (λ r. or_none (r >>= λ actions. Ok (requests_of rests.set.object.key.namespace moment actions))) (rest_is_empty rests.set digits revisions pods claims rests.at_rest)

  pub none_accepted : AreAccepted u (plan_over (reconciler_with key digits moment) u rests.object)
  none_accepted = subst (AreAccepted u) (sym plans_nothing) tt

  still_there : plain.after u (plan_over (reconciler_with key digits moment) u rests.object) ≡ u
  still_there = ap (plain.after u) plans_nothing

  pub collects_nothing : collection_over (reconciler_with key digits moment) (plain.after u (plan_over (reconciler_with key digits moment) u rests.object)) ≡ map deletion []
  collects_nothing = ap (collection_over c) still_there ∙ rests.none_left

  pub round_leaves : after_round (reconciler_with key digits moment) u rests.object ≡ u
  round_leaves = ap (plain.after (plain.after u (plan_over c u rests.object))) collects_nothing ∙ still_there

  pub few_requests : length (plan_over (reconciler_with key digits moment) u rests.object) ≡ 0
  few_requests = ap length plans_nothing

-- ---- while a cluster settles
module _ (set : SetParts) (digits : ℕ) (moment : List ℕ) (timed : moment ≢ []) (z : Size) (reconcilers : ℕ → Reconciler) (some : 0 < z.shards) (few : z.shards ≤ 64) (small : z.capacity ≤ most_revisions) (n : ℕ)
    (is_of : reconcilers 0 ≡ reconciler_with set.object.key digits moment) where
  abbrev key : Key
  key = set.object.key

  abbrev Here : Cluster → Store → Type 0
  Here = Now set digits moment timed z reconcilers some few small n is_of

  abbrev then : Cluster → Cluster
  then = next set digits moment timed z reconcilers some few small n is_of

  module _ (u : Store) (rests : ShowsRest set.object.key digits u) (tended : AllByRecursion IsTendedPod (listed_in u set.object.key Pod)) where
    once_more : (k : Cluster) → Here k u → Here (then k) u
    once_more k is =
        let none = few_requests key digits moment u rests in
        let left : after_turn key.namespace (after_round (reconciler_with key digits moment) u rests.object) ≡ u =
        ap (after_turn key.namespace) (round_leaves key digits moment u rests) ∙ ap (plain.after u) (turns_ask_none (collection u.objects Pod key.namespace) tended) in
        subst (Here (then k)) left
        (both_go z reconcilers some few n key.namespace k (after_round (reconciler_with key digits moment) u rests.object)
        (round_goes z reconcilers some few n (reconciler_with key digits moment) is_of u rests.object rests.found (none_accepted key digits moment u rests) [] (collects_nothing key digits moment u rests)
        (omega (arith, none)) k is))

    pub stays : (k : Cluster) (m a : ℕ) → Here (after_settle z reconcilers n set.object.key.namespace k a) u → Here (after_settle z reconcilers n set.object.key.namespace k (a + m)) u
    stays k zero a is = let same : a ≡ a + 0 = omega arith in let P : ℕ → Type 0 = λ j. Here (after_settle z reconcilers n set.object.key.namespace k j) u in subst P same is
    stays k (suc m) a is =
        let P : Cluster → Type 0 = λ x. Here x u in
        subst P (sym (one_more set digits moment timed z reconcilers some few small n is_of k (a + m) (a + suc m) (omega arith))) (once_more (after_settle z reconcilers n set.object.key.namespace k (a + m)) (stays k m a is))
