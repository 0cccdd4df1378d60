-- How many rounds are left until the pods stand as the spec says, where each is ready or has ended.
use Rattle.std.specs.Prelude.{ℕ, ◌+◌, ◌*◌, not, ◌&&◌, ◌||◌, filter, length, Option, Some, None, if◌then◌else◌}
use Rattle.std.specs.List.{sum_by}
use Rattle.set_views.specs.Set.{SetParts}
use Rattle.pod_steps.specs.declared.replica.Replica.{Replica}
use Rattle.pod_steps.specs.Replicas.{Pods, is_failed, is_out_of_range, ordinals, pod_at}
use Rattle.convergence.specs.Standing.{is_reached}

-- a missing pod is made in one; one that has failed, or that the update has to replace, goes in one and is made again in another
abbrev pub rounds_at : SetParts → ℕ → Option Replica → ℕ
rounds_at set i None = 1
rounds_at set i (Some pod) = if is_failed pod.readiness || (is_reached set.strategy i && not pod.updated) then 2 else 0

-- how many pods are out of range
abbrev pub condemned : SetParts → Pods → ℕ
condemned set pods = length (filter (is_out_of_range set) pods)

abbrev pub rounds_left : SetParts → Pods → ℕ
rounds_left set pods = sum_by (λ i. rounds_at set i (pod_at pods i)) (ordinals set) + condemned set pods

-- the most that may be left, whatever the pods are
abbrev pub most_rounds : SetParts → Pods → ℕ
most_rounds set pods = 2 * set.replicas + condemned set pods
