-- The full plan of a StatefulSet whose update revision is in place: first what its pods call for, then the history
-- of its revisions, and its status last.
use Rattle.std.specs.Prelude.{ℕ, List, [], ◌∷◌, ◌++◌, map, if◌then◌else◌}
use Rattle.std.specs.List.{flat_map, list_any}
use Rattle.std.specs.Option.{option_map_or}
use Rattle.objects.specs.declared.object.Object.{Object}
use Rattle.set_views.specs.Pod.{PodParts}
use Rattle.set_views.specs.Set.{SetParts}
use Rattle.revisions.specs.History.{expired_revisions}
use Rattle.pod_steps.specs.Replicas.{Pods}
use Rattle.pod_steps.specs.Status.{counts_of, is_rolled_out}
use Rattle.pod_steps.specs.Step.{is_of_pod}
use Rattle.pod_steps.specs.FullSteps.{full_steps}
use Rattle.pod_steps.specs.declared.status.Counts.{Counts}
use Rattle.pod_steps.specs.declared.step.Step.{Step}
use Rattle.manifests.specs.BuiltStatus.{StatusParts, built_status}
use Rattle.sets.specs.declared.action.Action.{Action}
use Rattle.sets.specs.declared.action.Action.TheVariants.{DeleteRevision, WriteStatus}
use Rattle.sets.specs.Actions.{Claims, actions_of}

-- the name that the status has for the current revision: once a rolling update is done it is that of the update
-- revision
abbrev pub current_name : SetParts → Pods → Object → Object → List ℕ
current_name set pods current update = if is_rolled_out set pods then update.key.name else current.key.name

-- the revision that was listed is deleted
abbrev pub deletion : Object → Action
deletion o = DeleteRevision o.key.name o.meta.uid o.meta.revision

-- the revisions that are deleted, unless one of these steps creates, deletes or waits for a pod
abbrev pub deletions : SetParts → List PodParts → List Object → List ℕ → List ℕ → List Step → List Action
deletions set listed owned current update steps = if list_any is_of_pod steps then [] else map deletion (expired_revisions set listed current update owned)

abbrev pub status_with : Counts → List ℕ → List ℕ → StatusParts
status_with counts current update = record {
  replicas = counts.replicas;
  ready_replicas = counts.ready;
  current_replicas = counts.current;
  updated_replicas = counts.updated;
  current_revision = current;
  update_revision = update;
}

-- what is counted of the pods as listed, and the names of the revisions
abbrev pub status_of : SetParts → Pods → List ℕ → List ℕ → StatusParts
status_of set pods current update = status_with (counts_of set pods) current update

-- the status, if it differs from the one that the set has
abbrev pub status_write : SetParts → StatusParts → List Action
status_write set status = option_map_or (λ o. WriteStatus o ∷ []) (built_status set status) []

-- all actions, given the listed claims, the listed pods, the owned revisions with the current and the update one, and
-- the set's pods among the listed ones
unfoldable pub full_plan : SetParts → Claims → List PodParts → List Object → Object → Object → Pods → List Action
full_plan set claims listed owned current update pods = let name = current_name set pods current update in
    flat_map (actions_of set claims current update) (full_steps set pods)
    ++ deletions set listed owned name update.key.name (full_steps set pods)
    ++ status_write set (status_of set pods name update.key.name)
