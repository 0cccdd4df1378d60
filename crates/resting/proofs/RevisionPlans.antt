-- What a plan writes of revisions: a new one of a free name, or an owned one that has the set's template; its number is above all.
use Rattle.std.proofs.Common.{◌≡◌, ◌==◌, ◌+◌, ◌≤◌, inr, ℕ, Bool, true, false, cond, not, if◌then◌else◌, List, [], ◌∷◌, length, map, reverse, find, Some, None, Result, Ok, Err, Less, Equal, Greater, is_lt, refl, sym, subst, true≢false}
use Rattle.std.specs.Prelude.{nat_le, nat_lt}
use Rattle.std.specs.Cmp.Lexicographic.{slice_cmp}
use Rattle.std.specs.List.{range_with_len}
use Rattle.std.specs.Option.{option_map_or}
use Rattle.std.specs.Ordering.{nat_cmp, ordering_then}
use Rattle.std.proofs.lemmas.Bool.{ltb-false}
use Rattle.serde_json.specs.Data.{Data}
use Rattle.serde_json.specs.Written.{compact_text}
use Rattle.objects.specs.declared.object.Object.{Object}
use Rattle.objects.specs.Names.{most_label}
use Rattle.requests.specs.Lists.{Has as Among}
use Rattle.set_views.specs.declared.fault.PlanError.{PlanError}
use Rattle.set_views.specs.declared.fault.PlanError.TheVariants.{BadSpec, NameTooLong, NoRevisionName}
use Rattle.set_views.specs.Set.{SetParts}
use Rattle.set_views.specs.Steps.{◌>>=◌, guarded, required}
use Rattle.revisions.specs.Built.{new_revision, with_number}
use Rattle.revisions.specs.Choice.{Choice, choice_from, choice_of, data_with, first_number, greatest, has_data, in_place, to_create, to_renumber}
use Rattle.revisions.specs.Name.{first_free, most_tries, revision_name}
use Rattle.revisions.specs.Plan.{PlanParts, created, creation, is_sound, plan_by, plan_of, renumbered}
use Rattle.revisions.specs.Revision.{number_of, revision_cmp}
use Rattle.pod_steps.proofs.OrderedReadyPlans.{not_false}
use Rattle.pod_steps.proofs.Searches.{passes_in}
use Rattle.sets.specs.Order.{in_order}
use Rattle.sets.proofs.Owned.{total}
use Rattle.resting.proofs.Newest.{among_reverse, ascends, last_is}
use Rattle.resting.proofs.Pairs.{in_reverse}
use Rattle.resting.proofs.StepsApart.{found_among}

-- ---- numbers
at_most : (h x : Object) → is_lt (revision_cmp h x) ≡ false → number_of x ≤ number_of h
at_most h x is =
    elim (nat_lt (number_of h) (number_of x)) as (λ b. nat_lt (number_of h) (number_of x) ≡ b
    → is_lt (ordering_then (cond b Less (cond (number_of h == number_of x) Equal Greater)) (slice_cmp nat_cmp h.key.name x.key.name)) ≡ false → number_of x ≤ number_of h) [
      | true ↦ λ e k. absurd (true≢false k)
      | false ↦ λ e k. ltb-false (number_of h) (number_of x) e
    ] refl is

pub no_greater : (xs : List Object) (x : Object) → Among x (in_order revision_cmp xs) → number_of x ≤ greatest (in_order revision_cmp xs)
no_greater xs x at =
    let owned = in_order revision_cmp xs in
    elim (reverse owned) as (λ r. reverse owned ≡ r → number_of x ≤ first_number r) [
      | [] ↦ λ e. absurd (subst (Among x) e (among_reverse owned x at))
      | h ∷ older ↦ λ e. at_most h x (last_is revision_cmp total owned h older (ascends revision_cmp total xs) e x at)
    ] refl

-- ---- an owned revision that is to become the newest
abbrev pub IsToRenumber : Data → List Object → Object → Type 0
IsToRenumber d owned o = Among o owned × (has_data d o ≡ true)

renumbers : (d : Data) (owned : List Object) (o : Object) → choice_of d owned ≡ to_renumber o → IsToRenumber d owned o
renumbers d owned o is =
    elim (reverse owned) as (λ r. reverse owned ≡ r → choice_from d r ≡ to_renumber o → IsToRenumber d owned o) [
      | [] ↦ λ e h. absurd (cc)
      | newest ∷ older ↦ λ e h. elim (has_data d newest) as (λ b. (if b then in_place newest else option_map_or to_renumber (find (has_data d) older) to_create) ≡ to_renumber o → IsToRenumber d owned o) [
        | true ↦ λ g. absurd (cc)
        | false ↦ λ g. elim (find (has_data d) older) as (λ x. find (has_data d) older ≡ x → option_map_or to_renumber x to_create ≡ to_renumber o → IsToRenumber d owned o) [
          | None ↦ λ f k. absurd (cc)
          | Some p ↦ λ f k.
              let same : p ≡ o = cc in
              let at : Among p owned = in_reverse owned p (subst (Among p) (sym e) (inr (found_among (has_data d) older p f))) in
              subst (IsToRenumber d owned) same (at, passes_in (has_data d) older p f)
        ] refl g
      ] h
    ] refl is

module _ (set : SetParts) (held : List ℕ → Bool) (digits : ℕ) (owned : List Object) where
  abbrev next_number : ℕ
  next_number = greatest owned + 1

  -- the object is made of the set's template, under a name that no listed revision has
  abbrev pub IsNew : Object → Type 0
  IsNew o = (name : List ℕ) × (o ≡ new_revision set name next_number) × (held name ≡ false)

  -- it is one of these with the next number
  abbrev pub IsRenumbered : Object → Type 0
  IsRenumbered o = (old : Object) × IsToRenumber (data_with set.template) owned old × (o ≡ with_number old next_number)

  free_is : (named : ℕ → List ℕ) (from tries : ℕ) (free : List ℕ) → first_free held named from tries ≡ Some free → held free ≡ false
  unfolding first_free
  free_is named from tries free is = not_false (held free) (passes_in (λ s. not (held s)) (map named (range_with_len from tries)) free is)

  same_object : (a b : Object) → ◌≡◌ {A = Result Object PlanError} (Ok a) (Ok b) → b ≡ a
  same_object a b e = cc

  by_creation : (o : Object) → creation set held digits next_number ≡ Ok o → IsNew o
  unfolding creation
  by_creation o is =
      let named = revision_name set.object.key.name (compact_text (data_with set.template)) digits in
      elim (nat_le (length set.object.key.name + 1 + digits) most_label) as (λ b. (guarded NameTooLong b set.object.key.name >>= λ name. required NoRevisionName (first_free held (revision_name name (compact_text (data_with set.template)) digits) set.collisions most_tries) >>= λ free. Ok (new_revision set free next_number)) ≡ Ok o → IsNew o) [
        | false ↦ λ h. let clash : ◌≡◌ {A = Result Object PlanError} (Err NameTooLong) (Ok o) = h in absurd (cc)
        | true ↦ λ h. elim (first_free held named set.collisions most_tries) as (λ f. first_free held named set.collisions most_tries ≡ f → (required NoRevisionName f >>= λ free. Ok (new_revision set free next_number)) ≡ Ok o → IsNew o) [
          | None ↦ λ e k. let clash : ◌≡◌ {A = Result Object PlanError} (Err NoRevisionName) (Ok o) = k in absurd (cc)
          | Some free ↦ λ e k. (free, same_object (new_revision set free next_number) o k, free_is named set.collisions most_tries free e)
        ] refl h
      ] is

  made_by : (made : Result Object PlanError) (o : Object) → ((x : Object) → made ≡ Ok x → IsNew x) → (made >>= λ x. Ok (created x)) ≡ Ok (created o) → IsNew o
  made_by (Ok x) o each is = let same : x ≡ o = cc in subst IsNew same (each x refl)
  made_by (Err e) o each is = absurd (cc)

  created_by : (c : Choice) (o : Object) → plan_by set held digits owned c ≡ Ok (created o) → IsNew o
  created_by (in_place u) o is = absurd (cc)
  created_by (to_renumber u) o is = absurd (cc)
  created_by to_create o is = made_by (creation set held digits next_number) o by_creation is

  never_renumbered : (made : Result Object PlanError) (o : Object) → (made >>= λ x. Ok (created x)) ≡ Ok (renumbered o) → ⊥
  never_renumbered (Ok x) o is = cc
  never_renumbered (Err e) o is = cc

  renumbered_by : (c : Choice) (o : Object) → plan_by set held digits owned c ≡ Ok (renumbered o) → (old : Object) × (c ≡ to_renumber old) × (o ≡ with_number old next_number)
  renumbered_by (in_place u) o is = absurd (cc)
  renumbered_by (to_renumber u) o is = let same : o ≡ with_number u next_number = cc in (u, refl, same)
  renumbered_by to_create o is = absurd (never_renumbered (creation set held digits next_number) o is)

  pub created_from : (o : Object) → plan_of set held digits owned ≡ Ok (created o) → IsNew o
  unfolding plan_of
  created_from o is =
      let c = choice_of (data_with set.template) owned in
      elim (is_sound set owned c) as (λ b. (guarded BadSpec b c >>= λ x. plan_by set held digits owned x) ≡ Ok (created o) → IsNew o) [
        | true ↦ λ h. created_by c o h
        | false ↦ λ h. let clash : ◌≡◌ {A = Result PlanParts PlanError} (Err BadSpec) (Ok (created o)) = h in absurd (cc)
      ] is

  pub renumbered_from : (o : Object) → plan_of set held digits owned ≡ Ok (renumbered o) → IsRenumbered o
  unfolding plan_of
  renumbered_from o is =
      let c = choice_of (data_with set.template) owned in
      elim (is_sound set owned c) as (λ b. (guarded BadSpec b c >>= λ x. plan_by set held digits owned x) ≡ Ok (renumbered o) → IsRenumbered o) [
        | true ↦ λ h. let r = renumbered_by c o h in (r.0, renumbers (data_with set.template) owned r.0 r.1, r.2)
        | false ↦ λ h. let clash : ◌≡◌ {A = Result PlanParts PlanError} (Err BadSpec) (Ok (renumbered o)) = h in absurd (cc)
      ] is
