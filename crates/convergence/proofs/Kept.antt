-- What holds after a round, whatever the pods were.
use Rattle.std.proofs.Common.{◌≡◌, ℕ, ◌≤◌, true, false, not, if◌then◌else◌, List, Option, Some, None, refl, sym, ap, ◌∙◌, subst}
use Rattle.std.proofs.lemmas.Bool.{eqb-true}
use Rattle.std.specs.List.{Contains, list_any}
use Rattle.set_views.specs.declared.readiness.Readiness.TheVariants.{Ready}
use Rattle.set_views.specs.Set.{SetParts}
use Rattle.set_views.specs.Predicates.{in_range}
use Rattle.pod_steps.specs.declared.replica.Replica.{Replica}
use Rattle.pod_steps.specs.declared.step.Revision.{Revision}
use Rattle.pod_steps.specs.declared.step.Step.{Step}
use Rattle.pod_steps.specs.declared.step.Step.TheVariants.{MakeClaims, KeepClaims, ReleaseClaims, CreatePod, DeletePod, Wait}
use Rattle.pod_steps.specs.Replicas.{AreInOrder, Pods, is_failed, pod_at}
use Rattle.pod_steps.specs.Step.{is_of_pod}
use Rattle.pod_steps.specs.FullSteps.{full_steps}
use Rattle.pod_steps.proofs.Causes.{created_is_absent}
use Rattle.pod_steps.proofs.OrderedReadyPlans.{not_false}
use Rattle.pod_steps.proofs.ParallelPlans.{was_there, some_of}
use Rattle.convergence.specs.Left.{condemned}
use Rattle.convergence.specs.Rounds.{IsNew, IsRound, after_round, creates, deletes, made_ready, tended}
use Rattle.convergence.specs.Standing.{AreTended, IsTended}
use Rattle.convergence.specs.Stopped.{IsUnstopped}
use Rattle.convergence.proofs.Counts.{count_most}
use Rattle.convergence.proofs.Moves.{steps_on}

-- ---- each pod is ready or has ended
made_ready_is_tended : (pod : Replica) → pod.terminating ≡ false → IsTended (made_ready pod)
made_ready_is_tended pod stays =
    elim (is_failed pod.readiness) as (λ f. is_failed pod.readiness ≡ f → IsTended (if f then pod else record pod { readiness = Ready })) [
      | true ↦ λ h. record { staying = stays; ready = λ g. absurd (cc) }
      | false ↦ λ h. record { staying = stays; ready = λ g. refl }
    ] refl

tended_is_tended : (here : Option Replica) (pod : Replica) → tended here ≡ Some pod → IsTended pod
tended_is_tended None pod e = absurd (cc)
tended_is_tended (Some p) pod e =
    elim (p.terminating) as (λ t. p.terminating ≡ t → (if t then None else Some (made_ready p)) ≡ Some pod → IsTended pod) [
      | true ↦ λ h k. absurd (cc)
      | false ↦ λ h k. let same : made_ready p ≡ pod = cc in let P : Replica → Type 0 = λ x. IsTended x in subst P same (made_ready_is_tended p h)
    ] refl e

new_is_tended : (set : SetParts) (i : ℕ) (pod : Replica) → IsNew set i pod → IsTended pod
new_is_tended set i pod new = record { staying = new.staying; ready = λ h. new.ready }

after_is_tended : (set : SetParts) (steps : List Step) (i : ℕ) (new : Replica) (here : Option Replica) (pod : Replica) → IsNew set i new → after_round steps i new here ≡ Some pod → IsTended pod
after_is_tended set steps i new here pod is e =
    elim (list_any (deletes i) steps) as (λ d. (if d then None else if list_any (creates i) steps then Some new else tended here) ≡ Some pod → IsTended pod) [
      | true ↦ λ h. absurd (cc)
      | false ↦ λ h. elim (list_any (creates i) steps) as (λ c. (if c then Some new else tended here) ≡ Some pod → IsTended pod) [
        | true ↦ λ k. let same : new ≡ pod = cc in let P : Replica → Type 0 = λ x. IsTended x in subst P same (new_is_tended set i new is)
        | false ↦ λ k. tended_is_tended here pod k
      ] h
    ] e

pub next_are_tended : (set : SetParts) (pods next : Pods) → IsRound set pods next → AreTended next
next_are_tended set pods next round i pod here =
    after_is_tended set (steps_on set pods) i (round.new i) (pod_at pods i) pod (round.are_new i) (sym (round.is_next i) ∙ here)

-- ---- out of range nothing is made
pub is_create : (i : ℕ) (a : Step) → creates i a ≡ true → (revision : Revision) × (a ≡ CreatePod i revision)
is_create i (CreatePod j revision) h = (revision, ap (λ (n : ℕ). CreatePod n revision) (eqb-true j i h))
is_create i (MakeClaims j) h = absurd (cc)
is_create i (KeepClaims j) h = absurd (cc)
is_create i (ReleaseClaims j uid) h = absurd (cc)
is_create i (DeletePod j uid) h = absurd (cc)
is_create i (Wait j cause) h = absurd (cc)

created_within : (set : SetParts) (pods : Pods) (i : ℕ) → AreInOrder pods → list_any (creates i) (steps_on set pods) ≡ true → in_range set i ≡ true
created_within set pods i sorted h =
    let one = some_of (creates i) (steps_on set pods) h in
    let what = is_create i one.0 one.2 in
    let P : Step → Type 0 = λ a. Contains (full_steps set pods) a in
    (created_is_absent set pods i what.0 sorted (subst P what.1 (was_there is_of_pod (full_steps set pods) one.0 one.1).0)).0

-- what stands out of range after a round stood there before, and had failed if it has
pub made_ready_keeps : (pod : Replica) → (made_ready pod).terminating ≡ pod.terminating
made_ready_keeps pod = elim (is_failed pod.readiness) as (λ f. (if f then pod else record pod { readiness = Ready }).terminating ≡ pod.terminating) [ true ↦ refl | false ↦ refl ]

pub made_ready_fails : (pod : Replica) → is_failed (made_ready pod).readiness ≡ is_failed pod.readiness
made_ready_fails pod =
    elim (is_failed pod.readiness) as (λ f. is_failed pod.readiness ≡ f → is_failed (if f then pod else record pod { readiness = Ready }).readiness ≡ is_failed pod.readiness) [
      | true ↦ λ h. refl
      | false ↦ λ h. sym h
    ] refl

abbrev WasThere : Option Replica → Replica → Type 0
WasThere here pod = (p : Replica) × (here ≡ Some p) × (p.terminating ≡ false) × (is_failed pod.readiness ≡ is_failed p.readiness)

tended_was_there : (here : Option Replica) (pod : Replica) → tended here ≡ Some pod → WasThere here pod
tended_was_there None pod e = absurd (cc)
tended_was_there (Some p) pod e =
    elim (p.terminating) as (λ t. p.terminating ≡ t → (if t then None else Some (made_ready p)) ≡ Some pod → WasThere (Some p) pod) [
      | true ↦ λ h k. absurd (cc)
      | false ↦ λ h k. let same : made_ready p ≡ pod = cc in (p, refl, h, sym (ap (λ (x : Replica). is_failed x.readiness) same) ∙ made_ready_fails p)
    ] refl e

after_was_there : (steps : List Step) (i : ℕ) (new : Replica) (here : Option Replica) (pod : Replica) → list_any (creates i) steps ≡ false → after_round steps i new here ≡ Some pod → WasThere here pod
after_was_there steps i new here pod none e =
    elim (list_any (deletes i) steps) as (λ d. (if d then None else if list_any (creates i) steps then Some new else tended here) ≡ Some pod → WasThere here pod) [
      | true ↦ λ h. absurd (cc)
      | false ↦ λ h. tended_was_there here pod (sym (ap (λ b. if b then Some new else tended here) none) ∙ h)
    ] e

pub made_nowhere : (set : SetParts) (pods : Pods) (i : ℕ) → AreInOrder pods → in_range set i ≡ false → list_any (creates i) (steps_on set pods) ≡ false
made_nowhere set pods i sorted out =
    elim (list_any (creates i) (steps_on set pods)) as (λ b. list_any (creates i) (steps_on set pods) ≡ b → b ≡ false) [
      | true ↦ λ h. let within : in_range set i ≡ true = created_within set pods i sorted h in absurd (cc)
      | false ↦ λ h. refl
    ] refl

next_was_there : (set : SetParts) (pods next : Pods) (i : ℕ) (pod : Replica) → AreInOrder pods → IsRound set pods next → in_range set i ≡ false → pod_at next i ≡ Some pod → WasThere (pod_at pods i) pod
next_was_there set pods next i pod sorted round out here =
    after_was_there (steps_on set pods) i (round.new i) (pod_at pods i) pod (made_nowhere set pods i sorted out) (sym (round.is_next i) ∙ here)

pub next_is_unstopped : (set : SetParts) (pods next : Pods) → AreInOrder pods → IsRound set pods next → IsUnstopped set pods → IsUnstopped set next
next_is_unstopped set pods next sorted round free i j pod other left failed right =
    let p = next_was_there set pods next i pod sorted round left.0 left.1 in
    let o = next_was_there set pods next j other sorted round right.0 right.1 in
    free i j p.0 o.0 (left.0, p.1, p.2) (sym p.3 ∙ failed) (right.0, o.1, o.2)

pub next_is_no_more : (set : SetParts) (pods next : Pods) → AreInOrder pods → IsRound set pods next → condemned set next ≤ condemned set pods
next_is_no_more set pods next sorted round =
    count_most (λ j. not (in_range set j)) pods next sorted round.in_order (λ j out gone.
    elim (pod_at next j) as (λ o. pod_at next j ≡ o → o ≡ None) [
      | None ↦ λ h. refl
      | Some pod ↦ λ h. let was = next_was_there set pods next j pod sorted round (not_false (in_range set j) out) h in absurd (cc)
    ] refl)
