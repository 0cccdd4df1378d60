-- What an operator sends who changes the set during a race (Kubernetes, "StatefulSets": scaling and rolling updates).
use Rattle.std.specs.Prelude.{ℕ, ◌+◌, ◌-◌, ◌^◌, ◌/◌, ◌%◌, ◌==◌, min, codes, decimal, None, if◌then◌else◌}
use Rattle.serde_json.specs.Data.{Members, string, object, no_members, put}
use Rattle.objects.specs.declared.kind.Kind.TheVariants.{Pod}
use Rattle.objects.specs.Key.{key_parts}
use Rattle.objects.specs.New.{new_object}
use Rattle.requests.specs.declared.request.Request.{Request}
use Rattle.requests.specs.declared.request.Request.TheVariants.{Update, UpdateStatus}
use Rattle.race_log.specs.RaceSet.{set_draft, set_namespace}

-- one pod more, at most the greatest number of 64 bits
abbrev pub one_more : ℕ → ℕ
one_more replicas = min (replicas + 1) (2 ^ 64 - 1)

-- `{"metadata":{"labels":{"release":"N"}}}`
abbrev pub template_of : ℕ → Members
template_of release = put (codes "metadata") (object (put (codes "labels") (object (put (codes "release") (string (decimal release)) no_members)) no_members)) no_members

-- the set as it shall be from now on, whatever it was before
abbrev pub changes_set : (replicas release : ℕ) → Request
changes_set replicas release = Update (set_draft replicas (template_of release))

-- the status `{"phase":"Failed"}` of the pod `web-0`
abbrev pub fails_pod : Request
fails_pod = UpdateStatus (record {
  object = new_object (key_parts Pod set_namespace (codes "web-0")) no_members
      (put (codes "status") (object (put (codes "phase") (string (codes "Failed")) no_members)) no_members);
  uid = None;
  version = None;
})

-- A release takes four turns: one pod more, the next template, a pod that fails, and one pod less.
abbrev pub asks_in : (replicas release step : ℕ) → Request
asks_in replicas release step =
    if step == 0 then changes_set (one_more replicas) release
    else if step == 1 then changes_set (one_more replicas) (release + 1)
    else if step == 2 then fails_pod
    else changes_set replicas (release + 1)

-- the request of a turn, counted from 0
abbrev pub operator_asks : (replicas turn : ℕ) → Request
operator_asks replicas turn = asks_in replicas (turn / 4) (turn % 4)
