-- What `spec` and `status` of a StatefulSet say of its pods (Kubernetes API reference, apps/v1: StatefulSetSpec and
-- StatefulSetStatus). What is missing or `null` has the default of the API; another value that the API does not know
-- gives none.
use Rattle.std.specs.Prelude.{ℕ, nat_lt, codes, List, Option, Some, None, option_and_then, if◌then◌else◌}
use Rattle.serde_json.specs.Data.{Data, Members}
use Rattle.serde_json.specs.Find.{get_member, as_object}
use Rattle.objects.specs.declared.object.Object.{Object}
use Rattle.objects.specs.Object.{object_at}
use Rattle.objects.specs.Status.{member_of}
use Rattle.set_views.specs.declared.reading.Counts.{Counts}
use Rattle.set_views.specs.declared.reading.Choices.{Choices}
use Rattle.set_views.specs.declared.reading.Specified.{Specified}
use Rattle.set_views.specs.Policies.{policy_of, retention_of, strategy_of}
use Rattle.set_views.specs.Values.{◌>>=◌, present, inside, count_or}

-- the value of a member, unless it is `null`
abbrev pub found : List ℕ → Members → Option Data
found k ms = present (get_member k ms)

-- `start` of `spec.ordinals`, which is an object
abbrev pub start_of : Option Data → Option ℕ
start_of None = Some 0
start_of (Some d) = do
  ordinals ← as_object d
  count_or 0 (found (codes "start") ordinals)

-- the numbers of `spec`, and the collision count of `status`
unfoldable pub counts_in : Members → Option Data → Option Counts
counts_in spec status = do
  start ← start_of (found (codes "ordinals") spec)
  replicas ← count_or 1 (found (codes "replicas") spec)
  history_limit ← count_or 10 (found (codes "revisionHistoryLimit") spec)
  collisions ← count_or 0 (present (inside (codes "collisionCount") status))
  Some (record { start = start; replicas = replicas; history_limit = history_limit; collisions = collisions })

-- the policies of `spec`
unfoldable pub choices_in : Members → Option Choices
choices_in spec = let retention = found (codes "persistentVolumeClaimRetentionPolicy") spec in do
  policy ← policy_of (found (codes "podManagementPolicy") spec)
  strategy ← strategy_of (found (codes "updateStrategy") spec)
  when_deleted ← retention_of (present (inside (codes "whenDeleted") retention))
  when_scaled ← retention_of (present (inside (codes "whenScaled") retention))
  Some (record { policy = policy; strategy = strategy; when_deleted = when_deleted; when_scaled = when_scaled })

-- what `spec` and `status` say
pub record SpecifiedParts : Type 0 where
  pub spec : Members
  pub template : Members
  pub counts : Counts
  pub choices : Choices

abbrev pub specified_parts : Specified → SpecifiedParts
specified_parts s = record { spec = s.spec.now; template = s.template.now; counts = s.counts; choices = s.choices }

unfoldable pub specified_in : Object → Option SpecifiedParts
specified_in o = do
  spec ← option_and_then as_object (member_of (codes "spec") o.body)
  template ← object_at (codes "template") spec
  counts ← counts_in spec (member_of (codes "status") o.body)
  choices ← choices_in spec
  if nat_lt 0 o.meta.uid then Some (record { spec = spec; template = template; counts = counts; choices = choices }) else None
