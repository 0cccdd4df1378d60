use Rattle.cluster_runs.specs.Cluster.{run, start}
use Rattle.cluster_runs.proofs.Steps.{run_kept, start_kept}
use Rattle.quiet_runs.proofs.Asked.{controllers_are_answered_plainly, others_are_answered_plainly}
use Rattle.quiet_runs.proofs.laws.quiet_stores_are_plain_stores.Goals as goal

pub returns : goal.returns
returns c = record {
  controllers = λ z count reconcilers events controller sized low quiet idle.
      controllers_are_answered_plainly z count reconcilers sized.0 sized.1 (run z count reconcilers (start count) events)
      (run_kept z reconcilers count (start count) (start_kept z reconcilers count) events) controller low quiet idle;
  others = λ z count reconcilers k n r sized quiet idle nobody. others_are_answered_plainly z count reconcilers sized.0 sized.1 k n r quiet idle nobody;
}
