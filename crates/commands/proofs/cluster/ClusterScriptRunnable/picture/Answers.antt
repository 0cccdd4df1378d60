use Rattle.std.proofs.Common.{List, length, sym, subst}
use Rattle.std.specs.Option.{IfSome}
use Rattle.std.proofs.lemmas.Result.{IfErr-weaker, IfOk-weaker}
use Rattle.cluster_runs.specs.Ran.{IsClusterRun}
use Rattle.cluster_runs.specs.Turns.{events_of_turns}
use Rattle.cluster_runs.specs.declared.turn.Turn.{Turn}
use Rattle.controllers.specs.Cluster.{namespaces_of, reconciler_named, size_of}
use Rattle.commands.specs.Clustering.{IsClusterRunRefusal}
use Rattle.commands.proofs.cluster.ClusterScriptRunnable.picture.Goals as goal

pub returns-clause-shown : goal.returns-clause-shown
returns-clause-shown c =
    let spec = c.args.self.now.spec in
    let found = c.in_ok-found.found in
    let Is : List Turn → Type 0 =
    λ turns. IsClusterRun (size_of spec) (length spec.sets.items) (reconciler_named spec.sets.items)
    (events_of_turns (size_of spec) (length spec.sets.items) (reconciler_named spec.sets.items) (namespaces_of spec.sets.items) turns) found.run in
    IfOk-weaker c.picture_of_run-text.result _ _ (λ text is. (found.run, subst Is c.as_slice.ensures.value c.in_ok-found.ensures.run, is)) c.picture_of_run-text.ensures.drawn

pub returns-clause-refused : goal.returns-clause-refused
returns-clause-refused c =
    IfErr-weaker c.picture_of_run-text.result _ _ (λ halt none. subst (λ o. IfSome o (IsClusterRunRefusal c.args.self.now)) (sym none) tt) c.picture_of_run-text.ensures.refused
