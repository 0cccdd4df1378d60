-- The line of an action: compact JSON with keys in byte order.
use Rattle.std.specs.Prelude.{ℕ, ◌^◌, nat_lt, List, [], codes, if◌then◌else◌}
use Rattle.serde_json.specs.Data.{Data, string, object, no_members, member}
use Rattle.objects.specs.declared.object.Object.{Object}
use Rattle.objects.specs.Text.{printed}
use Rattle.objects.specs.Uid.{uid_text}
use Rattle.pod_steps.specs.declared.step.Cause.{Cause}
use Rattle.pod_steps.specs.declared.step.Cause.TheVariants.{Terminating, NotReady}
use Rattle.sets.specs.Actions.{version_or_empty}
use Rattle.sets.specs.declared.action.Action.{Action}
use Rattle.sets.specs.declared.action.Action.TheVariants.{CreateClaim, CreatePod, DeletePod, UpdateClaim, WriteRevision, DeleteRevision, WriteStatus, Wait}

-- the text of a UID; for 0, and for a number that is no UID, the empty text
abbrev pub uid_or_empty : ℕ → List ℕ
uid_or_empty n = if nat_lt n (2 ^ 48) then uid_text n else []

abbrev pub cause_name : Cause → List ℕ
cause_name Terminating = codes "Terminating"
cause_name NotReady = codes "NotReady"

-- `{"do":A,"object":O}`
abbrev pub with_object : List ℕ → Object → Data
with_object word o = object (member (codes "do") (string word) (member (codes "object") (printed o) no_members))

-- `{"do":"DeletePod","name":N,"uid":U}`
abbrev pub pod_deletion : List ℕ → ℕ → Data
pod_deletion name uid =
    object (member (codes "do") (string (codes "DeletePod")) (member (codes "name") (string name) (member (codes "uid") (string (uid_or_empty uid)) no_members)))

-- `{"do":"DeleteRevision","name":N,"resourceVersion":V,"uid":U}`
abbrev pub revision_deletion : List ℕ → (version uid : ℕ) → Data
revision_deletion name version uid =
    object (member (codes "do") (string (codes "DeleteRevision")) (member (codes "name") (string name) (member (codes "resourceVersion") (string (version_or_empty version)) (member (codes "uid") (string (uid_or_empty uid)) no_members))))

-- `{"cause":C,"do":"Wait","name":N}`
abbrev pub wait_data : Cause → List ℕ → Data
wait_data cause name =
    object (member (codes "cause") (string (cause_name cause)) (member (codes "do") (string (codes "Wait")) (member (codes "name") (string name) no_members)))

abbrev pub action_data : Action → Data
action_data (CreateClaim claim) = with_object (codes "CreateClaim") claim
action_data (CreatePod pod) = with_object (codes "CreatePod") pod
action_data (DeletePod name uid) = pod_deletion name uid
action_data (UpdateClaim claim) = with_object (codes "UpdateClaim") claim
action_data (WriteRevision revision) = with_object (codes "WriteRevision") revision
action_data (DeleteRevision name uid version) = revision_deletion name version uid
action_data (WriteStatus set) = with_object (codes "WriteStatus") set
action_data (Wait cause name) = wait_data cause name
