-- Each request of a plan is accepted by the store that the plan was made over, one after another.
use Rattle.std.proofs.Common.{◌≡◌, ◌≢◌, inl, inr, ◌+◌, ◌≤◌, ℕ, Bool, true, false, List, [], length, codes, bytes_eq, Some, None, Result, Ok, Err, arith, refl, sym, subst}
use Rattle.std.specs.Prelude.{◌&&◌}
use Rattle.std.proofs.lemmas.Bool.{and_parts}
use Rattle.std.proofs.lemmas.Slice.Eq.{bytes_eq-Decides}
use Rattle.objects.specs.declared.kind.Kind.TheVariants as kinds
use Rattle.objects.specs.declared.object.Object.{Object}
use Rattle.objects.specs.Key.{key_parts}
use Rattle.objects.specs.PodNames.{most_ordinal}
use Rattle.requests.specs.declared.request.Request.{Request}
use Rattle.set_views.specs.declared.fault.PlanError.{PlanError}
use Rattle.set_views.specs.declared.fault.PlanError.TheVariants.{BadSpec, OrdinalTooLarge}
use Rattle.set_views.specs.Claims.{Claim, are_distinct, claims_in, names_of}
use Rattle.set_views.specs.Firsts.{is_held}
use Rattle.set_views.specs.Predicates.{in_namespace, is_kind}
use Rattle.set_views.specs.Set.{SetParts}
use Rattle.set_views.specs.SetReading.{range_fits, set_of, set_with}
use Rattle.set_views.specs.Specified.{SpecifiedParts, found, specified_in}
use Rattle.set_views.specs.Steps.{◌>>=◌, guarded, required}
use Rattle.revisions.specs.Revision.{listed}
use Rattle.claims.specs.Listed.{listed_claim}
use Rattle.pod_steps.specs.Listed.{replicas_in}
use Rattle.pod_steps.proofs.Firsts.{is_listed, replicas_in_order}
use Rattle.pod_steps.proofs.OrderedReadyPlans.{bounds}
use Rattle.pod_steps.proofs.Searches.{passes_in}
use Rattle.plain_store.specs.AtKey.{Has}
use Rattle.plain_store.specs.Store.{Store}
use Rattle.sets.specs.FullPlan.{full_plan}
use Rattle.sets.specs.Plan.{most_actions}
use Rattle.sets.specs.PlanOfLists.{owned_of}
use Rattle.resting.specs.Accepting.{AreAccepted, NameApart}
use Rattle.resting.specs.Acting.{IsPlannedOver, MayAct, planned_requests, views_in}
use Rattle.resting.specs.Still.{listed_in}
use Rattle.resting.proofs.Accepting.{all_accepted}
use Rattle.resting.proofs.Pairs.{ArePaired}
use Rattle.resting.proofs.PlanApart.{NameOthers, owned_named, plan_paired, requests_apart}
use Rattle.resting.proofs.PlansOnPods.{low}
use Rattle.resting.proofs.RoundsOnPods.{are_claims, claims_there, may_send, replicas_are, sent_is}
use Rattle.resting.proofs.StepsApart.{IsKnown}
use Rattle.resting.proofs.TemplateNames.{claims_differ}
use Rattle.resting.proofs.TurnsOnPods.{found_some}
use Rattle.resting.proofs.UpToDate.{all_acceptable, settled_owned}

-- ---- the set that was read
same_set : (a b : SetParts) → ◌≡◌ {A = Result SetParts PlanError} (Ok a) (Ok b) → b ≡ a
same_set a b e = cc

abbrev pub IsReadAs : Object → SetParts → Type 0
IsReadAs o set =
    (parts : SpecifiedParts) × (made : List Claim) × (specified_in o ≡ Some parts) × (claims_in (found (codes "volumeClaimTemplates") parts.spec) ≡ Some made) × (range_fits parts.counts ≡ true) × (set ≡ set_with o parts made)

pub read_as : (o : Object) (set : SetParts) → set_of o ≡ Ok set → IsReadAs o set
unfolding set_of
read_as o set is =
    elim (specified_in o) as (λ s. specified_in o ≡ s
    → (required BadSpec s >>= λ x. required BadSpec (claims_in (found (codes "volumeClaimTemplates") x.spec)) >>= λ claims. guarded OrdinalTooLarge (range_fits x.counts) (set_with o x claims)) ≡ Ok set → IsReadAs o set) [
      | None ↦ λ e h. let clash : ◌≡◌ {A = Result SetParts PlanError} (Err BadSpec) (Ok set) = h in absurd (cc)
      | Some parts ↦ λ e h.
          let templates = claims_in (found (codes "volumeClaimTemplates") parts.spec) in
          elim templates as (λ m. templates ≡ m → (required BadSpec m >>= λ claims. guarded OrdinalTooLarge (range_fits parts.counts) (set_with o parts claims)) ≡ Ok set → IsReadAs o set) [
            | None ↦ λ f k. let clash : ◌≡◌ {A = Result SetParts PlanError} (Err BadSpec) (Ok set) = k in absurd (cc)
            | Some made ↦ λ f k. elim (range_fits parts.counts) as (λ b. range_fits parts.counts ≡ b → guarded OrdinalTooLarge b (set_with o parts made) ≡ Ok set → IsReadAs o set) [
              | true ↦ λ fits g. (parts, made, e, f, fits, same_set (set_with o parts made) set g)
              | false ↦ λ fits g. let clash : ◌≡◌ {A = Result SetParts PlanError} (Err OrdinalTooLarge) (Ok set) = g in absurd (cc)
            ] refl k
          ] refl h
    ] refl is

-- ---- the claims that were listed
pub claim_key_is : (set : SetParts) (objects : List Object) (name : List ℕ) (o : Object) → listed_claim set objects name ≡ Some o → o.key ≡ key_parts kinds.PersistentVolumeClaim set.object.key.namespace name
claim_key_is set objects name o at =
    let test : Object → Bool = λ x. in_namespace set kinds.PersistentVolumeClaim x && bytes_eq x.key.name name in
    let both = and_parts (in_namespace set kinds.PersistentVolumeClaim o) (bytes_eq o.key.name name) (passes_in test objects o at) in
    let near = and_parts (is_kind kinds.PersistentVolumeClaim o.key.kind) (bytes_eq o.key.namespace set.object.key.namespace) both.0 in
    let kind = are_claims set objects name o at in
    let space = (bytes_eq-Decides o.key.namespace set.object.key.namespace).0 near.1 in
    let called = (bytes_eq-Decides o.key.name name).0 both.1 in
    λ j. key_parts (kind j) (space j) (called j)

-- ---- the plan
module _ (set : SetParts) (digits : ℕ) (moment : List ℕ) (s : Store) (plan : IsPlannedOver set digits s) (some : moment ≢ []) (may : MayAct set most_actions s) (is_there : Has s set.object.key set.object) (is_read : set_of set.object ≡ Ok set) where
  pub distinct : are_distinct (names_of set.claims) ≡ true
  distinct =
      let r = read_as set.object set is_read in
      let P : SetParts → Type 0 = λ x. are_distinct (names_of x.claims) ≡ true in
      subst P (sym r.5) (claims_differ (found (codes "volumeClaimTemplates") r.0.spec) r.1 r.3)

  shown : replicas_in set plan.update.key.name plan.current.key.name (views_in set s) ≡ Ok plan.pods
  shown = replicas_are set digits moment s plan

  pub known_low : (i : ℕ) → IsKnown set plan.pods i → i ≤ most_ordinal
  known_low i (inl within) = let b = (bounds set i within).1 in let o = may.ordinals in omega (arith, b, o)
  known_low i (inr here) =
      let l = is_listed set plan.update.key.name plan.current.key.name (views_in set s) plan.pods i here.0 shown here.1 in
      let f = found_some set s i l.0 may.filed l.1 in
      low set i f.0.key f.1.1

  named : ArePaired (NameOthers set) plan.owned
  named =
      let os = listed_in s set.object.key kinds.ControllerRevision in
      subst (ArePaired (NameOthers set)) (sym (settled_owned set (is_held (listed set os)) digits (owned_of set os) plan.owned plan.current plan.update plan.in_place)) (owned_named set os)

  pub keys_differ : NameApart (planned_requests set digits moment s)
  keys_differ =
      let claims = claims_there set digits moment s plan in
      subst NameApart (sym (sent_is set digits moment s plan))
      (requests_apart set moment (full_plan set claims (views_in set s) plan.owned plan.current plan.update plan.pods)
      (plan_paired set claims (views_in set s) plan.owned plan.current plan.update plan.pods (claim_key_is set (listed_in s set.object.key kinds.PersistentVolumeClaim)) distinct
      (replicas_in_order set plan.update.key.name plan.current.key.name (views_in set s) plan.pods shown) known_low may.kind named))

  pub all_are_accepted : AreAccepted s (planned_requests set digits moment s)
  all_are_accepted =
      let rs = planned_requests set digits moment s in
      let room : s.counter + length rs ≤ s.capacity = subst (λ (sending : List Request). s.counter + length sending ≤ s.capacity) (sym (sent_is set digits moment s plan)) (may_send set digits moment s plan some may).room in
      all_accepted s rs keys_differ (all_acceptable set digits moment s plan some may is_there) room
