-- What a plan is, by what is due of the revisions.
use Rattle.std.proofs.Common.{◌≡◌, ℕ, ◌≤◌, List, [], ◌∷◌, ◌++◌, length, map, take, Result, Ok, Err, Bool, true, false, refl, sym, ap, ◌∙◌, subst}
use Rattle.std.specs.List.{flat_map}
use Rattle.std.specs.Option.{option_map_or}
use Rattle.std.specs.Prelude.{None, if◌then◌else◌}
use Rattle.objects.specs.declared.object.Object.{Object}
use Rattle.set_views.specs.declared.fault.PlanError.{PlanError}
use Rattle.set_views.specs.declared.fault.PlanError.TheVariants as errors
use Rattle.set_views.specs.declared.pod.PodView.{PodView}
use Rattle.set_views.specs.Pod.{PodParts, pod_parts}
use Rattle.set_views.specs.Set.{SetParts}
use Rattle.set_views.specs.Steps.{◌>>=◌, Fails, Gives, guarded}
use Rattle.set_views.proofs.Chains.{fails_then}
use Rattle.revisions.specs.declared.plan.RevisionPlan.{RevisionPlan}
use Rattle.revisions.specs.History.{expired_revisions}
use Rattle.revisions.specs.Plan as revisions
use Rattle.pod_steps.specs.declared.step.Step.{Step}
use Rattle.pod_steps.specs.Listed.{replicas_in}
use Rattle.pod_steps.specs.Replicas.{Pods}
use Rattle.pod_steps.specs.Step.{truncated}
use Rattle.pod_steps.specs.Views.{AreViews, listed_pods}
use Rattle.pod_steps.specs.FullSteps.{full_steps}
use Rattle.manifests.specs.BuiltStatus.{StatusParts, built_status}
use Rattle.claims.specs.Listed.{listed_claim}
use Rattle.sets.specs.declared.action.Action.{Action}
use Rattle.sets.specs.declared.action.Action.TheVariants.{WriteStatus}
use Rattle.sets.specs.declared.action.Plan.{Plan}
use Rattle.sets.specs.Actions.{Claims, actions_of}
use Rattle.sets.specs.Truncation.{Adds}
use Rattle.sets.specs.Plan.{IsPlan, fitting_pods, names_fit, plan_by, plan_of_pods, refusal}
use Rattle.sets.specs.FullPlan.{current_name, deletion, deletions, status_of, status_write, full_plan}
use Rattle.sets.proofs.Truncation.{adds_none, first_actions_are}
use Rattle.sets.proofs.Names.{acts}

pub no_write : (set : SetParts) (status : StatusParts) (xs : List Action) → length xs ≤ 1024 → built_status set status ≡ None → Adds xs xs (status_write set status)
no_write set status xs few e = adds_none xs few ∙ ap (λ o. take 1024 (xs ++ option_map_or (λ p. WriteStatus p ∷ []) o [])) (sym e)

pub full_plan_by_name : (set : SetParts) (claims : Claims) (listed : List PodParts) (owned : List Object) (current update : Object) (pods : Pods) (name : List ℕ) (steps again : List Step) (none acted old new : List Action) → none ≡ [] → steps ≡ truncated (full_steps set pods) → again ≡ truncated (full_steps set pods) → name ≡ current_name set pods current update → Adds none acted (flat_map (actions_of set claims current update) steps) → Adds acted old (deletions set listed owned name update.key.name again) → Adds old new (status_write set (status_of set pods name update.key.name)) → new ≡ take 1024 (full_plan set claims listed owned current update pods)
unfolding full_plan
full_plan_by_name set claims listed owned current update pods name steps again none acted old new empty is too named first second third =
    first_actions_are (actions_of set claims current update) (full_steps set pods) steps again (λ b. if b then [] else map deletion (expired_revisions set listed name update.key.name owned)) (status_write set (status_of set pods name update.key.name)) none acted old new
    (acts set claims current update) empty is too first second third
    ∙ ap (λ n. take 1024 (flat_map (actions_of set claims current update) (full_steps set pods) ++ deletions set listed owned n update.key.name (full_steps set pods) ++ status_write set (status_of set pods n update.key.name))) named

-- ---- over the pods
same_names : (set : SetParts) (listed : List PodParts) (current update : Object) (u v : List ℕ) → u ≡ update.key.name → v ≡ current.key.name → fitting_pods set u v listed ≡ fitting_pods set update.key.name current.key.name listed
same_names set listed current update u v p q = ap (λ n. fitting_pods set n v listed) p ∙ ap (λ n. fitting_pods set update.key.name n listed) q

pub pods_refused : (set : SetParts) (claims : Claims) (listed : List PodParts) (owned : List Object) (current update : Object) (u v : List ℕ) (e : PlanError) → u ≡ update.key.name → v ≡ current.key.name → Fails e (fitting_pods set u v listed) → Fails e (plan_of_pods set claims listed owned current update)
unfolding plan_of_pods
pods_refused set claims listed owned current update u v e p q h =
    let F : Result Pods PlanError → Type 0 = λ r. Fails e r in
    fails_then e (fitting_pods set update.key.name current.key.name listed) (λ replicas. Ok (take 1024 (full_plan set claims listed owned current update replicas))) (subst F (same_names set listed current update u v p q) h)

pub pods_planned : (set : SetParts) (claims : Claims) (listed : List PodParts) (owned : List Object) (current update : Object) (u v : List ℕ) (pods : Pods) (actions : List Action) → u ≡ update.key.name → v ≡ current.key.name → fitting_pods set u v listed ≡ Ok pods → actions ≡ take 1024 (full_plan set claims listed owned current update pods) → plan_of_pods set claims listed owned current update ≡ Ok actions
unfolding plan_of_pods
pods_planned set claims listed owned current update u v pods actions p q e is =
    ap (λ r. r >>= (λ replicas. Ok (take 1024 (full_plan set claims listed owned current update replicas)))) (sym (same_names set listed current update u v p q) ∙ e)
    ∙ ap (λ l. Ok l) (sym is)

is_made : Result Pods PlanError → Bool
is_made (Ok pods) = true
is_made (Err e) = false

fits_of : (b : Bool) (f : List PodParts → Result Pods PlanError) (listed : List PodParts) (pods : Pods) → (guarded errors.NameTooLong b listed >>= f) ≡ Ok pods → b ≡ true
unfolding is_made
fits_of true f listed pods e = refl
fits_of false f listed pods e = let clash : false ≡ true = ap is_made e in absurd (cc)

pub fitting_pods_fit : (set : SetParts) (listed : List PodParts) (u v : List ℕ) (pods : Pods) → fitting_pods set u v listed ≡ Ok pods → names_fit set ≡ true
unfolding fitting_pods
fitting_pods_fit set listed u v pods e = fits_of (names_fit set) (λ fit. replicas_in set u v fit) listed pods e

-- ---- by the revisions
pub by_planned : {V : Type 0} (view : V → List Action) (set : SetParts) (claims : Claims) (listed : List PodParts) (p q : Result revisions.PlanParts PlanError) (result : Result V PlanError) → q ≡ p → Gives view result (plan_by set claims listed p) → Gives view result (plan_by set claims listed q)
by_planned view set claims listed p q result e g =
    let G : Result revisions.PlanParts PlanError → Type 0 = λ r. Gives view result (plan_by set claims listed r) in
    subst G (sym e) g

pub by_refusal : {V : Type 0} (view : V → List Action) (set : SetParts) (claims : Claims) (listed : List PodParts) (e : PlanError) (q : Result revisions.PlanParts PlanError) (result : Result V PlanError) → (e ≡ errors.Memory → result ≡ Err errors.Memory) → Gives view result (refusal set listed e) → Fails e q → Gives view result (plan_by set claims listed q)
unfolding plan_by
by_refusal view set claims listed errors.Memory q result memory g h =
    subst (λ (r : Result _ PlanError). Gives view r (plan_by set claims listed q)) (sym (memory refl)) tt
by_refusal view set claims listed e q result memory g h = by_planned view set claims listed (Err e) q result h g

pub refused_by : (set : SetParts) (listed : List PodParts) (e : PlanError) → (e ≡ errors.NoRevisionName → ⊥) → Fails e (refusal set listed e)
refused_by set listed errors.Memory other = tt
refused_by set listed errors.NoRevisionName other = absurd (other refl)
refused_by set listed e other = refl

is_memory : Result Plan PlanError → Bool
is_memory (Err errors.Memory) = true
is_memory r = false

-- equal lists of claims
pub for_claims : (set : SetParts) (given claims : Claims) (listed : List PodParts) (found : Result RevisionPlan PlanError) (result : Result Plan PlanError) → given ≡ claims → ((q : Result revisions.PlanParts PlanError) → Gives revisions.plan_parts found q → Gives (λ p. p.actions.items) result (plan_by set given listed q)) → (q : Result revisions.PlanParts PlanError) → Gives revisions.plan_parts found q → Gives (λ p. p.actions.items) result (plan_by set claims listed q)
for_claims set given claims listed found result same gives =
    let G : Claims → Type 0 = λ c. (q : Result revisions.PlanParts PlanError) → Gives revisions.plan_parts found q → Gives (λ p. p.actions.items) result (plan_by set c listed q) in
    subst G same gives

pub is_plan : (set : SetParts) (pods claims os : List Object) (digits : ℕ) (views : List PodView) (found : Result RevisionPlan PlanError) (result : Result Plan PlanError) → revisions.IsPlan set os digits found → AreViews (listed_pods set pods) views → ((q : Result revisions.PlanParts PlanError) → Gives revisions.plan_parts found q → Gives (λ p. p.actions.items) result (plan_by set (listed_claim set claims) (map pod_parts views) q)) → (found ≡ Err errors.Memory → result ≡ Err errors.Memory) → IsPlan set pods claims os digits result
unfolding is_memory
is_plan set pods claims os digits views found (Err errors.Memory) due seen gives memory = tt
is_plan set pods claims os digits views (Err errors.Memory) result due seen gives memory = let clash : false ≡ true = ap is_memory (memory refl) in absurd (cc)
is_plan set pods claims os digits views found result due seen gives memory = (due.0, due.1, (views, seen, gives _ due.2))
