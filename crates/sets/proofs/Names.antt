-- The names of the pods in range are no longer than that of the last.
use Rattle.std.proofs.Common.{◌≡◌, ℕ, zero, suc, ◌+◌, ◌-◌, ◌*◌, ◌/◌, ◌%◌, ◌^◌, ◌≤◌, ◌<◌, List, [], ◌∷◌, ◌++◌, length, take, arith, refl, sym, ap, ◌∙◌, subst, length-append, codes, add-one}
use Rattle.std.proofs.lemmas.Bool.{eqb-true, leb-true, le-leb}
use Rattle.std.proofs.lemmas.Fmt.{decimal_by_steps, decimal_nonempty, length-decimal-le}
use Rattle.std.proofs.lemmas.List.{get_or_default}
use Rattle.std.proofs.lemmas.List.Elements.{Contains-append_left}
use Rattle.std.specs.List.{Contains}
use Rattle.std.proofs.Math.Nat.{pow-suc}
use Rattle.std.specs.Prelude.{◌==◌, ◌||◌, Bool, true, false, decimal, get_or, nat_le, Result, Ok, Err}
use Rattle.objects.specs.PodNames.{pod_name}
use Rattle.set_views.specs.Set.{SetParts}
use Rattle.pod_steps.specs.declared.step.Step.{Step}
use Rattle.pod_steps.specs.declared.step.Step.TheVariants.{MakeClaims, KeepClaims, ReleaseClaims, CreatePod, DeletePod, Wait}
use Rattle.pod_steps.specs.Replicas.{AreInOrder, Pods}
use Rattle.pod_steps.specs.Step.{truncated}
use Rattle.pod_steps.specs.FullSteps.{full_steps}
use Rattle.pod_steps.proofs.Causes.{created_is_absent}
use Rattle.pod_steps.proofs.Truncation.{truncated_is_a_beginning}
use Rattle.pod_steps.proofs.OrderedReadyPlans.{bounds}
use Rattle.objects.specs.declared.object.Object.{Object}
use Rattle.set_views.specs.declared.fault.PlanError.{PlanError}
use Rattle.set_views.specs.declared.fault.PlanError.TheVariants as errors
use Rattle.set_views.specs.Steps.{Fails, guarded}
use Rattle.manifests.specs.BuiltPod.{built_pod}
use Rattle.claims.specs.declared.change.ClaimChange.{ClaimChange}
use Rattle.sets.specs.Actions.{Claims, actions_of, changes_in, name_at, new_pod}
use Rattle.sets.specs.Truncation.{AreNameable, is_nameable}
use Rattle.sets.specs.Plan.{names_fit}
use Rattle.sets.proofs.Truncation.{ActsOnPods}

abbrev IsBelow : ℕ → List ℕ → Type 0
IsBelow n ds = n < 10 ^ length ds

below_one : (n : ℕ) → n < 10 → IsBelow n ((48 + n) ∷ [])
below_one n h = h

tenfold : (n b c : ℕ) → c ≡ b * 10 → n / 10 < b → n < c
tenfold n b c e below = omega arith

below_more : (n : ℕ) (ds : List ℕ) → 10 ≤ n → IsBelow (n / 10) ds → IsBelow n (ds ++ ((48 + n % 10) ∷ []))
below_more n ds h below =
    let long : length (ds ++ ((48 + n % 10) ∷ [])) ≡ suc (length ds) = length-append ds ((48 + n % 10) ∷ []) ∙ add-one (length ds) in
    let power : 10 ^ suc (length ds) ≡ 10 ^ length ds * 10 = pow-suc 10 (length ds) in
    subst (λ (k : ℕ). n < 10 ^ k) (sym long) (tenfold n (10 ^ length ds) (10 ^ suc (length ds)) power below)

-- a number has no more digits than a greater one
no_longer : (i j : ℕ) → i ≤ j → j < 2 ^ 64 → length (decimal i) ≤ length (decimal j)
no_longer i j le small =
    let below : j < 10 ^ length (decimal j) = decimal_by_steps IsBelow below_one below_more j small in
    length-decimal-le (length (decimal j)) i (decimal_nonempty j small) (omega arith) (omega arith)

length_of_name : (name : List ℕ) (i : ℕ) → length (pod_name name i) ≡ length name + 1 + length (decimal i)
length_of_name name i = length-append (name ++ codes "-") (decimal i) ∙ ap (λ n. n + length (decimal i)) (length-append name (codes "-"))

fits_below : (name : List ℕ) (i j : ℕ) → i ≤ j → j < 2 ^ 64 → length (pod_name name j) ≤ 63 → length (pod_name name i) ≤ 63
fits_below name i j le small fit =
    let digits : length (decimal i) ≤ length (decimal j) = no_longer i j le small in
    let a = length_of_name name i in
    let b = length_of_name name j in
    omega arith

last_fits : (set : SetParts) → 1 ≤ set.replicas → names_fit set ≡ true → nat_le (length (name_at set (set.start + set.replicas - 1))) 63 ≡ true
last_fits set some fit =
    let last : Bool = nat_le (length (name_at set (set.start + set.replicas - 1))) 63 in
    elim (set.replicas == 0) as (λ b. set.replicas == 0 ≡ b → (b || last) ≡ true → last ≡ true) [
      | true ↦ λ e h. let none : set.replicas ≡ 0 = eqb-true set.replicas 0 e in absurd (omega arith)
      | false ↦ λ e h. h
    ] refl fit

pub created_fits : (set : SetParts) (i : ℕ) → set.start ≤ i → i < set.start + set.replicas → set.start + set.replicas ≤ 2 ^ 31 → names_fit set ≡ true → nat_le (length (name_at set i)) 63 ≡ true
created_fits set i from to small fit =
    let last : length (name_at set (set.start + set.replicas - 1)) ≤ 63 = leb-true _ 63 (last_fits set (omega arith) fit) in
    le-leb _ 63 (fits_below set.object.key.name i (set.start + set.replicas - 1) (omega arith) (omega arith) last)

-- the creates of a plan are of names that are not too long
planned_fits : (set : SetParts) (pods : Pods) (x : Step) → AreInOrder pods → set.start + set.replicas ≤ 2 ^ 31 → names_fit set ≡ true → Contains (full_steps set pods) x → is_nameable set x ≡ true
planned_fits set pods (MakeClaims i) sorted small fit there = refl
planned_fits set pods (KeepClaims i) sorted small fit there = refl
planned_fits set pods (ReleaseClaims i uid) sorted small fit there = refl
planned_fits set pods (CreatePod i revision) sorted small fit there =
    let at = bounds set i (created_is_absent set pods i revision sorted there).0 in
    created_fits set i at.0 at.1 small fit
planned_fits set pods (DeletePod i uid) sorted small fit there = refl
planned_fits set pods (Wait i cause) sorted small fit there = refl

pub nameable : (set : SetParts) (pods : Pods) (steps : List Step) → AreInOrder pods → set.start + set.replicas ≤ 2 ^ 31 → names_fit set ≡ true → steps ≡ truncated (full_steps set pods) → AreNameable set steps
nameable set pods steps sorted small fit is k d inside =
    let begun = truncated_is_a_beginning (full_steps set pods) in
    let x : Step = get_or steps k d in
    let here : Contains steps x = (k, inside, get_or_default steps k x d inside) in
    let truncated_there : Contains (truncated (full_steps set pods)) x = subst (λ (l : List Step). Contains l x) is here in
    planned_fits set pods x sorted small fit
    (subst (λ (l : List Step). Contains l x) (sym begun.1) (Contains-append_left (truncated (full_steps set pods)) begun.0 x truncated_there))

pub acts : (set : SetParts) (claims : Claims) (current update : Object) → ActsOnPods (actions_of set claims current update)
unfolding actions_of
acts set claims current update (MakeClaims i) t = absurd (cc)
acts set claims current update (KeepClaims i) t = absurd (cc)
acts set claims current update (ReleaseClaims i uid) t = absurd (cc)
acts set claims current update (CreatePod i revision) t = omega arith
acts set claims current update (DeletePod i uid) t = omega arith
acts set claims current update (Wait i cause) t = omega arith

-- ---- a pod whose name fits is built
built_fits : (set : SetParts) (revision : Object) (i : ℕ) → nat_le (length (name_at set i)) 63 ≡ true → built_pod set revision i ≡ Ok (new_pod set revision i)
unfolding built_pod
built_fits set revision i fit = rw fit refl

value_or : {A : Type 0} → A → Result A PlanError → A
value_or d (Ok x) = x
value_or d (Err e) = d

is_made : {A : Type 0} → Result A PlanError → Bool
is_made (Ok x) = true
is_made (Err e) = false

pub made_pod : (set : SetParts) (revision pod : Object) (i : ℕ) → nat_le (length (name_at set i)) 63 ≡ true → built_pod set revision i ≡ Ok pod → pod ≡ new_pod set revision i
unfolding value_or
made_pod set revision pod i fit built = ap (value_or pod) (sym built ∙ built_fits set revision i fit)

fails_never : {A : Type 0} (e : PlanError) (r : Result A PlanError) (x : A) → r ≡ Ok x → Fails e r → e ≡ errors.Memory
unfolding is_made
fails_never errors.Memory r x ok h = refl
fails_never e r x ok h = let clash : true ≡ false = ap is_made (sym ok ∙ h) in absurd (cc)

pub only_memory : (set : SetParts) (revision : Object) (i : ℕ) (e : PlanError) → nat_le (length (name_at set i)) 63 ≡ true → Fails e (built_pod set revision i) → e ≡ errors.Memory
only_memory set revision i e fit h = fails_never e (built_pod set revision i) (new_pod set revision i) (built_fits set revision i fit) h

-- ---- a pod whose name is too long has no claims made
pub no_changes : (e : PlanError) (r : Result (List ClaimChange) PlanError) → (e ≡ errors.Memory → ⊥) → Fails e r → [] ≡ changes_in r
no_changes errors.Memory r other h = absurd (other refl)
no_changes e r other h = sym (ap changes_in h)

-- the first ones of a pod's changes
pub first_changes : (fits : Bool) (n : ℕ) (changes : List ClaimChange) → changes_in (guarded errors.NameTooLong fits (take n changes)) ≡ take n (changes_in (guarded errors.NameTooLong fits changes))
first_changes true n changes = refl
first_changes false zero changes = refl
first_changes false (suc n) changes = refl
