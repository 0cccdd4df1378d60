-- With equal lists the plan is equal.
use Rattle.std.proofs.Common.{◌≡◌, ℕ, false, List, map, Result, Ok, Err, sym, ◌∙◌, subst}
use Rattle.std.specs.Prelude.{MatchBool, ⊤}
use Rattle.objects.specs.declared.object.Object.{Object}
use Rattle.set_views.specs.declared.fault.PlanError.{PlanError}
use Rattle.set_views.specs.declared.fault.PlanError.TheVariants as errors
use Rattle.set_views.specs.Firsts.{is_held}
use Rattle.set_views.specs.Pod.{PodParts, pod_parts}
use Rattle.set_views.specs.Set.{SetParts}
use Rattle.set_views.specs.Steps.{Gives, is_memory}
use Rattle.revisions.specs.Plan.{plan_of}
use Rattle.revisions.specs.Revision.{listed}
use Rattle.pod_steps.specs.Views.{listed_pods}
use Rattle.claims.specs.Listed.{listed_claim}
use Rattle.sets.specs.declared.action.Plan.{Plan}
use Rattle.sets.specs.Plan.{IsPlan, plan_by}
use Rattle.sets.specs.PlanOfLists.{owned_of, plan_of_lists, views_of}
use Rattle.sets.proofs.Owned.{owned_is}
use Rattle.sets.proofs.SplitNames.{same_views}

pub one_plan : (set : SetParts) (pods claims revisions : List Object) (digits : ℕ) (result : Result Plan PlanError) → IsPlan set pods claims revisions digits result
    → Gives (λ p. p.actions.items) result (plan_of_lists set digits revisions pods claims)
unfolding plan_of_lists views_of
one_plan set pods claims revisions digits (Err errors.Memory) is = tt
one_plan set pods claims revisions digits result is =
    let owned : is.0 ≡ owned_of set revisions = owned_is set revisions is.0 is.1 in
    let views : map pod_parts is.2.0 ≡ views_of set pods = same_views (listed_pods set pods) is.2.0 is.2.1 in
    let P : List Object → List PodParts → Type 0 = λ os ps. Gives (λ (p : Plan). p.actions.items) result (plan_by set (listed_claim set claims) ps (plan_of set (is_held (listed set revisions)) digits os)) in
    subst (λ (os : List Object). P os (views_of set pods)) owned (subst (P is.0) views is.2.2)

module _ (set : SetParts) (pods claims revisions : List Object) (digits : ℕ) where
  planned_is : (plan : Plan) → IsPlan set pods claims revisions digits (Ok plan) → plan_of_lists set digits revisions pods claims ≡ Ok plan.actions.items
  planned_is plan is = one_plan set pods claims revisions digits (Ok plan) is

  refused_is : (e : PlanError) → is_memory e ≡ false → IsPlan set pods claims revisions digits (Err e) → plan_of_lists set digits revisions pods claims ≡ Err e
  refused_is e ample is =
      subst (λ b. MatchBool b ⊤ (plan_of_lists set digits revisions pods claims ≡ Err e)) ample (one_plan set pods claims revisions digits (Err e) is)

  pub one_list : (one other : Plan) → IsPlan set pods claims revisions digits (Ok one) → IsPlan set pods claims revisions digits (Ok other) → one.actions.items ≡ other.actions.items
  one_list one other a b = let same = sym (planned_is one a) ∙ planned_is other b in cc

  pub one_refusal : (one other : PlanError) → is_memory one ≡ false → is_memory other ≡ false → IsPlan set pods claims revisions digits (Err one) → IsPlan set pods claims revisions digits (Err other) → one ≡ other
  one_refusal one other first second a b = let same = sym (refused_is one first a) ∙ refused_is other second b in cc

  pub not_both : (plan : Plan) (e : PlanError) → is_memory e ≡ false → IsPlan set pods claims revisions digits (Ok plan) → IsPlan set pods claims revisions digits (Err e) → ⊥
  not_both plan e ample a b = let clash : Ok plan.actions.items ≡ Err e = sym (planned_is plan a) ∙ refused_is e ample b in absurd (cc)
