-- The line of an action in words: what is done to the object of which kind and name, as all are of the set's namespace,
-- and why. After all lines come the claims that will be deleted.
use Rattle.std.specs.Prelude.{ℕ, List, [], ◌∷◌, ◌++◌, codes}
use Rattle.objects.specs.declared.object.Object.{Object}
use Rattle.objects.specs.PodNames.{pod_name}
use Rattle.pod_steps.specs.declared.step.Cause.{Cause}
use Rattle.pod_steps.specs.declared.step.Cause.TheVariants.{Terminating, NotReady}
use Rattle.sets.specs.declared.action.Action.{Action}
use Rattle.sets.specs.declared.action.Action.TheVariants.{CreateClaim, CreatePod, DeletePod, UpdateClaim, WriteRevision, DeleteRevision, WriteStatus, Wait}
use Rattle.reasons.specs.declared.reason.Reason.{Reason}
use Rattle.reasons.specs.declared.reason.Reason.TheVariants.{Unstated, OutOfRange, Failed, Outdated, Stays, DeletedWithSet, DeletedWithPod, HoldsUpItself, HoldsUp}
use Rattle.reasons.specs.Lost.{claims_with_pods, claims_with_set}
use Rattle.reasons.specs.Reasons.{Grounds, reason_of}

-- how a pod is that the plan waits for
abbrev pub cause_words : Cause → List ℕ
cause_words Terminating = codes ", which is terminating"
cause_words NotReady = codes ", which is not ready"

abbrev pub action_words : Action → List ℕ
action_words (CreateClaim claim) = codes "Create PersistentVolumeClaim " ++ claim.key.name
action_words (CreatePod pod) = codes "Create Pod " ++ pod.key.name
action_words (DeletePod name uid) = codes "Delete Pod " ++ name
action_words (UpdateClaim claim) = codes "Update PersistentVolumeClaim " ++ claim.key.name
action_words (WriteRevision revision) = codes "Write ControllerRevision " ++ revision.key.name
action_words (DeleteRevision name uid version) = codes "Delete ControllerRevision " ++ name
action_words (WriteStatus set) = codes "Write the status of StatefulSet " ++ set.key.name
action_words (Wait cause name) = codes "Wait for Pod " ++ (name ++ cause_words cause)

-- the set's pod of that ordinal among these words
abbrev pub pod_words : List ℕ → Grounds → ℕ → List ℕ → List ℕ
pod_words before g i after = before ++ (pod_name g.set.object.key.name i ++ after)

abbrev pub reason_words : Grounds → Reason → List ℕ
reason_words g Unstated = []
reason_words g OutOfRange = codes ": out of range"
reason_words g Failed = codes ": failed"
reason_words g Outdated = codes ": update to " ++ g.update
reason_words g Stays = codes ": nobody will own it, and it stays"
reason_words g DeletedWithSet = codes ": StatefulSet " ++ (g.set.object.key.name ++ codes " will own it, and it goes with the set")
reason_words g (DeletedWithPod i) = pod_words (codes ": Pod ") g i (codes " will own it, and it goes with the pod")
reason_words g HoldsUpItself = codes ": it holds up its own update"
reason_words g (HoldsUp i) = pod_words (codes ": it holds up the update of ") g i []

abbrev pub brief_line : Grounds → Action → List ℕ
brief_line g a = action_words a ++ reason_words g (reason_of g a)

-- each action on a line of its own
abbrev pub brief_text : Grounds → List Action → List ℕ
brief_text g [] = []
brief_text g (a ∷ actions) = brief_line g a ++ 10 ∷ brief_text g actions

-- ---- the claims that will be deleted
abbrev pub further_names : List (List ℕ) → List ℕ
further_names [] = []
further_names (name ∷ names) = codes ", " ++ (name ++ further_names names)

-- no line if there are none
abbrev pub lost_line : (head : List ℕ) → List (List ℕ) → List ℕ
lost_line head [] = []
lost_line head (name ∷ names) = head ++ (name ++ (further_names names ++ codes "\n"))

abbrev pub closing : Grounds → List Action → List Object → List ℕ
closing g actions claims =
    lost_line (codes "Claims that go with these pods: ") (claims_with_pods g.set actions claims)
    ++ lost_line (codes "Claims that go with the set: ") (claims_with_set g.set actions claims)
