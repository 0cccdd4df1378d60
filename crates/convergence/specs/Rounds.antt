-- A round, over the pods of a set alone: a controller carries out the steps of its plan, and then a kubelet has its turn.
-- Nobody else writes.
use Rattle.std.specs.Prelude.{◌≡◌, ℕ, zero, suc, ◌==◌, Bool, true, false, List, Option, Some, None, if◌then◌else◌}
use Rattle.std.specs.List.{list_any}
use Rattle.set_views.specs.declared.readiness.Readiness.TheVariants.{Ready}
use Rattle.set_views.specs.Set.{SetParts}
use Rattle.set_views.specs.Predicates.{is_ready}
use Rattle.pod_steps.specs.declared.replica.Replica.{Replica}
use Rattle.pod_steps.specs.declared.step.Revision.TheVariants.{Update}
use Rattle.pod_steps.specs.declared.step.Step.{Step}
use Rattle.pod_steps.specs.declared.step.Step.TheVariants.{CreatePod, DeletePod}
use Rattle.pod_steps.specs.Replicas.{AreInOrder, Pods, is_failed, pod_at}
use Rattle.pod_steps.specs.Step.{pod_steps}
use Rattle.pod_steps.specs.FullSteps.{full_steps, revision_at}

abbrev pub creates : ℕ → Step → Bool
creates i (CreatePod j revision) = j == i
creates i step = false

abbrev pub deletes : ℕ → Step → Bool
deletes i (DeletePod j uid) = j == i
deletes i step = false

-- a kubelet makes each pod ready that has not ended
abbrev pub made_ready : Replica → Replica
made_ready pod = if is_failed pod.readiness then pod else record pod { readiness = Ready }

-- and takes a marked one away
abbrev pub tended : Option Replica → Option Replica
tended None = None
tended (Some pod) = if pod.terminating then None else Some (made_ready pod)

-- What stands at an ordinal after the round: a pod that a step deletes is marked, and then gone; one that a step creates is `new`
-- by then.
abbrev pub after_round : List Step → ℕ → Replica → Option Replica → Option Replica
after_round steps i new here = if list_any (deletes i) steps then None else if list_any (creates i) steps then Some new else tended here

-- a pod that the round created and made ready
pub record IsNew (set : SetParts) (i : ℕ) (pod : Replica) : Type 0 where
  pub ready : is_ready pod.readiness ≡ true
  pub staying : pod.terminating ≡ false
  pub updated : revision_at set.strategy i ≡ Update → pod.updated ≡ true

pub record IsRound (set : SetParts) (pods next : Pods) : Type 0 where
  pub in_order : AreInOrder next
  pub new : ℕ → Replica
  pub are_new : (i : ℕ) → IsNew set i (new i)
  pub is_next : (i : ℕ) → pod_at next i ≡ after_round (pod_steps (full_steps set pods)) i (new i) (pod_at pods i)

-- so many rounds, one after another
abbrev pub AreRounds : SetParts → ℕ → Pods → Pods → Type 0
AreRounds set zero pods last = pods ≡ last
AreRounds set (suc k) pods last = (next : Pods) × IsRound set pods next × AreRounds set k next last
