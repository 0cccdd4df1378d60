-- From a cluster between two rounds, as the laws name it, to what the proofs carry along, and back.
use Rattle.std.proofs.Common.{◌≡◌, ◌≢◌, ◌<◌, ◌≤◌, ℕ, List, [], refl}
use Rattle.set_views.specs.Set.{SetParts}
use Rattle.interleavings.specs.World.{Size}
use Rattle.plain_store.specs.Reached.{most_revisions}
use Rattle.plain_store.specs.Store.{Store}
use Rattle.rounds.specs.Reconciler.{Reconciler}
use Rattle.controllers.specs.Reconciler.{reconciler_with}
use Rattle.cluster_runs.specs.declared.event.ClusterEvent.{ClusterEvent}
use Rattle.cluster_runs.specs.Cluster.{Cluster, run, start}
use Rattle.cluster_runs.proofs.Steps.{run_kept, start_kept}
use Rattle.settling.specs.Settling.{IsBetweenRounds, after_settle, settled_store}
use Rattle.settling.proofs.Rounds.{Now, begun}

module _ (set : SetParts) (digits : ℕ) (moment : List ℕ) (timed : moment ≢ []) (z : Size) (reconcilers : ℕ → Reconciler) (some : 0 < z.shards) (few : z.shards ≤ 64) (small : z.capacity ≤ most_revisions) (n : ℕ)
    (is_of : reconcilers 0 ≡ reconciler_with set.object.key digits moment) where
  pub now_begun : (events : List ClusterEvent) → IsBetweenRounds z n (run z 1 reconcilers (start 1) events)
      → Now set digits moment timed z reconcilers some few small n is_of (after_settle z reconcilers n set.object.key.namespace (run z 1 reconcilers (start 1) events) 0)
      (settled_store z reconcilers n set.object.key.namespace (run z 1 reconcilers (start 1) events) 0)
  now_begun events is =
      let k : Cluster = run z 1 reconcilers (start 1) events in
      begun set digits moment timed z reconcilers some few small n is_of k (record {
        kept = run_kept z reconcilers 1 (start 1) (start_kept z reconcilers 1) events;
        quiet = is.quiet;
        idle = is.idle;
        kubelet_idle = is.kubelet_idle;
        kubelet_apart = is.kubelet_apart;
        store = refl;
        phase = is.begins;
      })

  pub between : (k : Cluster) (s : Store) → Now set digits moment timed z reconcilers some few small n is_of k s → IsBetweenRounds z n k
  between k s is = record { quiet = is.quiet; begins = is.phase; idle = is.idle; kubelet_idle = is.kubelet_idle; kubelet_apart = is.kubelet_apart }
