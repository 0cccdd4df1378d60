-- The members of a set's `spec` that choose how its pods are treated (Kubernetes API reference, apps/v1,
-- StatefulSetSpec). A value that the API does not have gives none.
use Rattle.std.specs.Prelude.{ℕ, codes, Option, Some, None, if◌then◌else◌}
use Rattle.serde_json.specs.Data.{Data}
use Rattle.objects.specs.Object.{is_text}
use Rattle.set_views.specs.declared.policies.Policy.{Policy}
use Rattle.set_views.specs.declared.policies.Policy.TheVariants.{OrderedReady, Parallel}
use Rattle.set_views.specs.declared.policies.Retention.{Retention}
use Rattle.set_views.specs.declared.policies.Retention.TheVariants.{Retain, Delete}
use Rattle.set_views.specs.declared.policies.Strategy.{Strategy}
use Rattle.set_views.specs.declared.policies.Strategy.TheVariants.{RollingUpdate, OnDelete}
use Rattle.set_views.specs.Values.{◌>>=◌, present, inside, count_or}

-- `podManagementPolicy`
abbrev pub policy_of : Option Data → Option Policy
policy_of None = Some OrderedReady
policy_of (Some d) = if is_text (codes "OrderedReady") d then Some OrderedReady else if is_text (codes "Parallel") d then Some Parallel else None

-- `whenDeleted` and `whenScaled` of `persistentVolumeClaimRetentionPolicy`
abbrev pub retention_of : Option Data → Option Retention
retention_of None = Some Retain
retention_of (Some d) = if is_text (codes "Retain") d then Some Retain else if is_text (codes "Delete") d then Some Delete else None

-- the `type` of `updateStrategy`
abbrev pub strategy_named : ℕ → Option Data → Option Strategy
strategy_named partition None = Some (RollingUpdate partition)
strategy_named partition (Some d) = if is_text (codes "RollingUpdate") d then Some (RollingUpdate partition) else if is_text (codes "OnDelete") d then Some OnDelete else None

-- `updateStrategy`, of which the partition is read whatever the type
abbrev pub strategy_of : Option Data → Option Strategy
strategy_of found = do
  partition ← count_or 0 (present (inside (codes "partition") (inside (codes "rollingUpdate") found)))
  strategy_named partition (present (inside (codes "type") found))
