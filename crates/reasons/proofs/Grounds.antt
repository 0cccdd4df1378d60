-- What the reasons of a plan depend on is what was listed.
use Rattle.std.proofs.Common.{◌≡◌, ℕ, false, List, [], map, Option, Some, None, Result, Ok, Err, Bor, sym, ap, ◌∙◌}
use Rattle.std.specs.Prelude.{option_map, IfNone, IfSome}
use Rattle.objects.specs.declared.object.Object.{Object}
use Rattle.objects.specs.PodNames.{IsPodName}
use Rattle.set_views.specs.declared.fault.PlanError.{PlanError}
use Rattle.set_views.specs.declared.fault.PlanError.TheVariants as errors
use Rattle.set_views.specs.declared.pod.PodView.{PodView}
use Rattle.set_views.specs.Firsts.{is_held}
use Rattle.set_views.specs.Pod.{pod_parts}
use Rattle.set_views.specs.Set.{SetParts}
use Rattle.revisions.specs.declared.plan.RevisionPlan.{RevisionPlan}
use Rattle.revisions.specs.declared.plan.RevisionPlan.TheVariants.{Create, Renumber, Settled}
use Rattle.revisions.specs.Plan.{IsPlan, PlanParts, plan_of}
use Rattle.revisions.specs.Revision.{listed}
use Rattle.pod_steps.specs.Listed.{by_ordinal}
use Rattle.pod_steps.specs.Replicas.{Pods}
use Rattle.pod_steps.specs.Views.{AreViews, listed_pods}
use Rattle.sets.specs.PlanOfLists.{owned_of, views_of}
use Rattle.sets.proofs.Owned.{owned_is}
use Rattle.sets.proofs.SplitNames.{same_views, seen_split_name}
use Rattle.reasons.specs.Found.{is_out_of_memory, name_found}
use Rattle.reasons.specs.Reasons.{Grounds, grounds_of_lists, grounds_with, ordinal_of, update_name}

-- the ordinal that was split off a name
pub split_ordinal : (name : List ℕ) (p : Option (Bor (List ℕ) × ℕ)) → IfSome p (λ s. IsPodName name s.0.now s.1)
    → IfNone p ((set : List ℕ) (ordinal : ℕ) → IsPodName name set ordinal → ⊥) → option_map (λ s. s.1) p ≡ ordinal_of name
split_ordinal name None some none = ap (option_map (λ s. s.1)) (seen_split_name name None some none)
split_ordinal name (Some s) some none = ap (option_map (λ s. s.1)) (seen_split_name name (Some s) some none)

-- the pods of the lists
pub same_pods : (set : SetParts) (update : List ℕ) (objects : List Object) (views : List PodView) (pods : Pods) → AreViews (listed_pods set objects) views
    → pods ≡ by_ordinal set update [] (map pod_parts views) → pods ≡ by_ordinal set update [] (views_of set objects)
unfolding views_of
same_pods set update objects views pods are is = is ∙ ap (by_ordinal set update []) (same_views (listed_pods set objects) views are)

module _ (set : SetParts) (objects : List Object) (digits : ℕ) where
  abbrev planned : List Object → Result PlanParts PlanError
  planned owned = plan_of set (is_held (listed set objects)) digits owned

  -- the name of the update revision is that of the plan of the revisions
  pub found_name : (found : Result RevisionPlan PlanError) → IsPlan set objects digits found → is_out_of_memory found ≡ false
      → name_found found ≡ update_name (planned (owned_of set objects))
  found_name (Ok (Create o)) is ample = sym (ap update_name (ap planned (sym (owned_is set objects is.0 is.1)) ∙ is.2))
  found_name (Ok (Renumber o)) is ample = sym (ap update_name (ap planned (sym (owned_is set objects is.0 is.1)) ∙ is.2))
  found_name (Ok (Settled revisions)) is ample = sym (ap update_name (ap planned (sym (owned_is set objects is.0 is.1)) ∙ is.2))
  found_name (Err errors.NameTooLong) is ample = sym (ap update_name (ap planned (sym (owned_is set objects is.0 is.1)) ∙ is.2))
  found_name (Err errors.BadSpec) is ample = sym (ap update_name (ap planned (sym (owned_is set objects is.0 is.1)) ∙ is.2))
  found_name (Err (errors.Foreign name)) is ample = sym (ap update_name (ap planned (sym (owned_is set objects is.0 is.1)) ∙ is.2))
  found_name (Err errors.OrdinalTooLarge) is ample = sym (ap update_name (ap planned (sym (owned_is set objects is.0 is.1)) ∙ is.2))
  found_name (Err errors.NoRevisionName) is ample = sym (ap update_name (ap planned (sym (owned_is set objects is.0 is.1)) ∙ is.2))
  found_name (Err errors.Memory) is ample = absurd (cc)

-- both together
pub same_grounds : (set : SetParts) (digits : ℕ) (revisions objects : List Object) (update : List ℕ) (pods : Pods)
    → update ≡ update_name (plan_of set (is_held (listed set revisions)) digits (owned_of set revisions)) → pods ≡ (grounds_with set update objects).pods
    → record { set = set; update = update; pods = pods } ≡ grounds_of_lists set digits revisions objects
unfolding grounds_of_lists
same_grounds set digits revisions objects update pods named placed =
    ap (λ (p : Pods). let g : Grounds = record { set = set; update = update; pods = p } in g) placed ∙ ap (λ u. grounds_with set u objects) named
