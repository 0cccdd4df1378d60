-- An update revision that is in place is the newest one that the set controls, and has the set's template.
use Rattle.std.proofs.Common.{◌≡◌, ◌+◌, ℕ, Bool, true, false, if◌then◌else◌, List, [], ◌∷◌, reverse, find, unwrap_or, Some, None, Result, Ok, Err, refl, sym, ap, ◌∙◌}
use Rattle.std.specs.Option.{option_map_or}
use Rattle.serde_json.specs.Data.{Data}
use Rattle.objects.specs.declared.object.Object.{Object}
use Rattle.set_views.specs.declared.fault.PlanError.{PlanError}
use Rattle.set_views.specs.declared.fault.PlanError.TheVariants.{BadSpec}
use Rattle.set_views.specs.Set.{SetParts}
use Rattle.set_views.specs.Steps.{◌>>=◌, guarded}
use Rattle.revisions.specs.Choice.{Choice, choice_from, choice_of, data_with, greatest, has_data, in_place, named_current, to_create, to_renumber}
use Rattle.revisions.specs.Plan.{PlanParts, created, creation, is_sound, plan_by, plan_of, settled}

-- the newest of the revisions in order has this data
pub record IsNewest (d : Data) (owned : List Object) (update : Object) : Type 0 where
  pub older : List Object
  pub last : reverse owned ≡ update ∷ older
  pub data_is : has_data d update ≡ true

newest_from : (d : Data) (owned : List Object) (update : Object) → choice_of d owned ≡ in_place update → IsNewest d owned update
newest_from d owned update is =
    elim (reverse owned) as (λ r. reverse owned ≡ r → choice_from d r ≡ in_place update → IsNewest d owned update) [
      | [] ↦ λ e h. absurd (cc)
      | newest ∷ older ↦ λ e h. elim (has_data d newest) as (λ b. has_data d newest ≡ b → (if b then in_place newest else option_map_or to_renumber (find (has_data d) older) to_create) ≡ in_place update → IsNewest d owned update) [
        | true ↦ λ t g.
            let same : newest ≡ update = cc in
            record { older = older; last = e ∙ ap (λ x. x ∷ older) same; data_is = ap (has_data d) (sym same) ∙ t }
        | false ↦ λ t g. elim (find (has_data d) older) as (λ o. option_map_or to_renumber o to_create ≡ in_place update → IsNewest d owned update) [
          | None ↦ λ k. absurd (cc)
          | Some o ↦ λ k. absurd (cc)
        ] g
      ] refl h
    ] refl is

from_newest : (d : Data) (owned : List Object) (update : Object) → IsNewest d owned update → choice_of d owned ≡ in_place update
from_newest d owned update is = ap (choice_from d) is.last ∙ ap (λ b. if b then in_place update else option_map_or to_renumber (find (has_data d) is.older) to_create) is.data_is

module _ (set : SetParts) (held : List ℕ → Bool) (digits : ℕ) where
  never_settled : (made : Result Object PlanError) (owned : List Object) (current update : Object) (c : Choice) → (made >>= λ o. Ok (created o)) ≡ Ok (settled owned current update) → c ≡ in_place update
  never_settled (Ok o) owned current update c is = absurd (cc)
  never_settled (Err e) owned current update c is = absurd (cc)

  by_choice : (all owned : List Object) (current update : Object) (c : Choice) → plan_by set held digits all c ≡ Ok (settled owned current update) → c ≡ in_place update
  by_choice all owned current update (in_place o) is = let same : o ≡ update = cc in ap in_place same
  by_choice all owned current update (to_renumber o) is = absurd (cc)
  by_choice all owned current update to_create is = never_settled (creation set held digits (greatest all + 1)) owned current update to_create is

  pub newest_of : (all owned : List Object) (current update : Object) → plan_of set held digits all ≡ Ok (settled owned current update) → IsNewest (data_with set.template) all update
  unfolding plan_of
  newest_of all owned current update is =
      let c = choice_of (data_with set.template) all in
      newest_from (data_with set.template) all update
      (elim (is_sound set all c) as (λ b. (guarded BadSpec b c >>= λ x. plan_by set held digits all x) ≡ Ok (settled owned current update) → c ≡ in_place update) [
        | true ↦ λ h. by_choice all owned current update c h
        | false ↦ λ h. let clash : ◌≡◌ {A = Result PlanParts PlanError} (Err BadSpec) (Ok (settled owned current update)) = h in absurd (cc)
      ] is)

  -- if it is so, and the plan is not refused, then this one is in place
  pub in_place_by : (owned : List Object) (update : Object) (parts : PlanParts) → IsNewest (data_with set.template) owned update → plan_of set held digits owned ≡ Ok parts
      → parts ≡ settled owned (unwrap_or (named_current set owned) update) update
  unfolding plan_of
  in_place_by owned update parts newest is =
      let c = choice_of (data_with set.template) owned in
      let chosen : (guarded BadSpec (is_sound set owned (in_place update)) (in_place update) >>= λ x. plan_by set held digits owned x) ≡ Ok parts =
      ap (λ x. guarded BadSpec (is_sound set owned x) x >>= λ y. plan_by set held digits owned y) (sym (from_newest (data_with set.template) owned update newest)) ∙ is in
      elim (is_sound set owned (in_place update)) as (λ b. (guarded BadSpec b (in_place update) >>= λ x. plan_by set held digits owned x) ≡ Ok parts → parts ≡ settled owned (unwrap_or (named_current set owned) update) update) [
        | true ↦ λ h. same_plan (settled owned (unwrap_or (named_current set owned) update) update) parts h
        | false ↦ λ h. let clash : ◌≡◌ {A = Result PlanParts PlanError} (Err BadSpec) (Ok parts) = h in absurd (cc)
      ] chosen
    where
      same_plan : (a b : PlanParts) → ◌≡◌ {A = Result PlanParts PlanError} (Ok a) (Ok b) → b ≡ a
      same_plan a b e = cc
