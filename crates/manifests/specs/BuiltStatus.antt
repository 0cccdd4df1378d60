-- The StatefulSet with its new status (Kubernetes API reference, apps/v1: StatefulSetStatus).
use Rattle.std.specs.Prelude.{ℕ, Bool, true, not, List, codes, Option, Some, None, option_and_then, unwrap_or, if◌then◌else◌}
use Rattle.std.specs.Option.{option_map_or}
use Rattle.serde_json.specs.Data.{Data, string, object, Members, no_members, put}
use Rattle.serde_json.specs.Find.{as_object}
use Rattle.objects.specs.declared.object.Object.{Object}
use Rattle.objects.specs.Building.{put_number}
use Rattle.objects.specs.Same.{same_data}
use Rattle.objects.specs.Status.{member_of, with_member}
use Rattle.set_views.specs.Set.{SetParts}
use Rattle.manifests.specs.declared.status.Status.{Status}

-- the numbers, and the names of the revisions
pub record StatusParts : Type 0 where
  pub replicas : ℕ
  pub ready_replicas : ℕ
  pub current_replicas : ℕ
  pub updated_replicas : ℕ
  pub current_revision : List ℕ
  pub update_revision : List ℕ

abbrev pub status_parts : Status → StatusParts
status_parts s = record {
  replicas = s.replicas;
  ready_replicas = s.ready_replicas;
  current_replicas = s.current_replicas;
  updated_replicas = s.updated_replicas;
  current_revision = s.current_revision.now;
  update_revision = s.update_revision.now;
}

-- what was counted and named, put over the members of the old status
abbrev pub new_status : SetParts → StatusParts → Members → Members
new_status set s old =
    put_number (codes "collisionCount") set.collisions
    (put_number (codes "currentReplicas") s.current_replicas
    (put (codes "currentRevision") (string s.current_revision)
    (put_number (codes "observedGeneration") set.object.meta.generation
    (put_number (codes "readyReplicas") s.ready_replicas
    (put_number (codes "replicas") s.replicas
    (put (codes "updateRevision") (string s.update_revision)
    (put_number (codes "updatedReplicas") s.updated_replicas old)))))))

abbrev pub status_in : SetParts → Option Data
status_in set = member_of (codes "status") set.object.body

-- what is no object counts as missing
abbrev pub old_status : SetParts → Members
old_status set = unwrap_or (option_and_then as_object (status_in set)) no_members

abbrev pub set_with : SetParts → Data → Object
set_with set status = record { key = set.object.key; meta = set.object.meta; body = with_member (codes "status") (Some status) set.object.body }

-- it has no status, or another one
abbrev pub differs : SetParts → Data → Bool
differs set status = option_map_or (λ old. not (same_data status old)) (status_in set) true

-- the set with its new status, if that differs from the old one
unfoldable pub built_status : SetParts → StatusParts → Option Object
built_status set s = let status = object (new_status set s (old_status set)) in if differs set status then Some (set_with set status) else None
