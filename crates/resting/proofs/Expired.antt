-- Where a plan takes no pod step, it removes each revision that has expired.
use Rattle.std.proofs.Common.{◌≡◌, ◌≢◌, ◌-◌, ℕ, Bool, true, false, not, if◌then◌else◌, List, [], ◌∷◌, ◌++◌, inl, length, map, Option, Some, None, Ok, refl, sym, ap, ◌∙◌, subst, true≢false}
use Rattle.std.specs.FinMap as finite
use Rattle.std.specs.List.{AllByRecursion, flat_map}
use Rattle.std.proofs.lemmas.Bool.{lt-ltb}
use Rattle.std.proofs.lemmas.Option.{same_Some}
use Rattle.objects.specs.declared.key.Key.{Key}
use Rattle.objects.specs.declared.kind.Kind.{Kind}
use Rattle.objects.specs.declared.kind.Kind.TheVariants as kinds
use Rattle.objects.specs.declared.object.Object.{Object}
use Rattle.objects.specs.Key.{is_key, key_parts}
use Rattle.objects.specs.Uid.{uid_text}
use Rattle.requests.specs.declared.request.Request.{Request}
use Rattle.requests.specs.declared.request.Request.TheVariants.{Delete}
use Rattle.requests.specs.declared.reply.Reason.TheVariants.{Conflict}
use Rattle.requests.specs.declared.verdict.Verdict.{Verdict}
use Rattle.requests.specs.declared.verdict.Verdict.TheVariants.{Refuse}
use Rattle.requests.specs.Lists.{Has as Among}
use Rattle.requests.specs.Verdict.{conflicts, deleted, graceful, on_delete}
use Rattle.set_views.specs.Set.{SetParts}
use Rattle.set_views.specs.SetReading.{set_of}
use Rattle.revisions.specs.History.{expired_revisions, history, is_live}
use Rattle.pod_steps.specs.declared.step.Step.{Step}
use Rattle.pod_steps.specs.FullSteps.{full_steps}
use Rattle.pod_steps.specs.Step.{is_of_pod, pod_steps}
use Rattle.plain_store.specs.AtKey.{Has}
use Rattle.plain_store.specs.Store.{Store}
use Rattle.sets.specs.declared.action.Action.{Action}
use Rattle.sets.specs.Actions.{actions_of, version_or_empty}
use Rattle.sets.specs.FullPlan.{current_name, deletion, full_plan, status_of, status_write}
use Rattle.sets.specs.Plan.{most_actions}
use Rattle.sets.specs.PlanOfLists.{owned_of}
use Rattle.sets.proofs.Ordered.{all_among}
use Rattle.controllers.specs.Planned.{deletions as delete_requests, request_of}
use Rattle.controllers.proofs.PlannedActions.{among_all}
use Rattle.resting.specs.Accepting.{DoesAsAlone, IsAcceptable, IsLeftBy, is_refused}
use Rattle.resting.specs.Acting.{IsPlannedOver, MayAct, after_plan, planned_requests, views_in}
use Rattle.resting.proofs.Alone.{plan_alone}
use Rattle.resting.proofs.Empty.{none_any}
use Rattle.resting.proofs.OwnedAgain.{key_is, owned_there, revisions_in}
use Rattle.resting.proofs.Pairs.{all_filtered, all_taken, among_flat, among_left, among_map, among_right}
use Rattle.resting.proofs.RoundsOnPods.{claims_there, sent_is}
use Rattle.resting.proofs.UpdateStays.{owned_is}
use Rattle.resting.proofs.UpToDate.{all_acceptable}

-- ---- one delete
ungraceful : (kind : Kind) → graceful kind None ≡ None
ungraceful kinds.StatefulSet = refl
ungraceful kinds.Pod = refl
ungraceful kinds.PersistentVolumeClaim = refl
ungraceful kinds.ControllerRevision = refl

gone_by : (conflict : Bool) (o : Object) (now : Option Object) → is_refused (if conflict then Refuse Conflict else deleted (graceful o.key.kind None) o) ≡ false
    → IsLeftBy (if conflict then Refuse Conflict else deleted (graceful o.key.kind None) o) (Some o) now → now ≡ None
gone_by true o now kept left = absurd (true≢false kept)
gone_by false o now kept left =
    let P : Option (List ℕ) → Type 0 = λ at. IsLeftBy (deleted at o) (Some o) now in
    (subst P (ungraceful o.key.kind) left).1

-- ---- the deletes of a plan
module _ (set : SetParts) (digits : ℕ) (moment : List ℕ) (s : Store) (plan : IsPlannedOver set digits s) (some : moment ≢ []) (may : MayAct set most_actions s) (is_there : Has s set.object.key set.object) (is_read : set_of set.object ≡ Ok set) where
  abbrev space : List ℕ
  space = set.object.key.namespace

  abbrev name : List ℕ
  name = current_name set plan.pods plan.current plan.update

  abbrev all : List Step
  all = full_steps set plan.pods

  abbrev full : List Action
  full = full_plan set (claims_there set digits moment s plan) (views_in set s) plan.owned plan.current plan.update plan.pods

  abbrev sent : List Request
  sent = planned_requests set digits moment s

  abbrev now : Key → Option Object
  now k = finite.get (after_plan set digits moment s).objects k

  abbrev expired : List Object
  expired = expired_revisions set (views_in set s) name plan.update.key.name plan.owned

  abbrev IsListed : Object → Type 0
  IsListed o = Has s o.key o × (o.key ≡ key_parts kinds.ControllerRevision space o.key.name)

  owned_listed : AllByRecursion IsListed plan.owned
  owned_listed =
      subst (AllByRecursion IsListed) (sym (owned_is set digits moment s plan some may is_there is_read))
      (all_among IsListed (owned_of set (revisions_in s set)) (λ o at. let is = owned_there s set may.filed o at in (is.0, key_is space o.key is.1)))

  expired_listed : AllByRecursion IsListed expired
  expired_listed =
      let past = history set (views_in set s) name plan.update.key.name plan.owned in
      all_taken IsListed (length past - set.history_limit) past (all_filtered IsListed (λ o. not (is_live set (views_in set s) name plan.update.key.name o.key.name)) plan.owned owned_listed)

  planned : pod_steps all ≡ [] → (o : Object) → Among o expired → Among (deletion o) full
  unfolding full_plan
  planned none o at =
      let claims = claims_there set digits moment s plan in
      let done = flat_map (actions_of set claims plan.current plan.update) all in
      let gone : Bool → List Action = λ b. if b then [] else map deletion expired in
      let last = status_write set (status_of set plan.pods name plan.update.key.name) in
      let P : Bool → Type 0 = λ b. Among (deletion o) ((done ++ gone b) ++ last) in
      subst P (sym (none_any is_of_pod all none)) (among_left (done ++ gone false) last (deletion o) (among_right done (gone false) (deletion o) (among_map deletion expired o at)))

  abbrev delete_of : Object → Request
  delete_of o = Delete (key_parts kinds.ControllerRevision space o.key.name) (Some (uid_text o.meta.uid)) (Some (version_or_empty o.meta.revision)) None

  requested : (o : Object) → IsListed o → request_of space moment (deletion o) ≡ delete_of o ∷ []
  requested o is =
      let k : Key = key_parts kinds.ControllerRevision space o.key.name in
      let named : is_key k ≡ true = ap is_key (sym is.1) ∙ may.keys o.key o is.0 in
      ap (λ b. delete_requests (if b then Some k else None) o.meta.uid (Some (version_or_empty o.meta.revision)) None) named
      ∙ ap (λ b. if b then delete_of o ∷ [] else []) (lt-ltb _ _ (may.uids o.key o is.0))

  among_sent : pod_steps all ≡ [] → (o : Object) → Among o expired → IsListed o → Among (delete_of o) sent
  among_sent none o at is =
      let P : List Request → Type 0 = λ rs. Among (delete_of o) rs in
      subst P (sym (sent_is set digits moment s plan))
      (among_flat (request_of space moment) full (deletion o) (delete_of o) (planned none o at) (subst P (sym (requested o is)) (inl refl)))

  removed : pod_steps all ≡ [] → (o : Object) → Among o expired → IsListed o → now o.key ≡ None
  removed none o at is =
      let k : Key = key_parts kinds.ControllerRevision space o.key.name in
      let here : finite.get s.objects k ≡ Some o = ap (finite.get s.objects) (sym is.1) ∙ is.0 in
      let sends = among_sent none o at is in
      let alone = among_all (DoesAsAlone s (after_plan set digits moment s)) sent (delete_of o) (plan_alone set digits moment s plan some may is_there is_read) sends k refl in
      let fits = among_all (IsAcceptable s) sent (delete_of o) (all_acceptable set digits moment s plan some may is_there) sends in
      let key : fits.key ≡ k = same_Some fits.key k (sym fits.named) in
      let V : Option Object → Verdict = λ x. on_delete (Some (version_or_empty o.meta.revision)) (Some (uid_text o.meta.uid)) None x in
      let kept : is_refused (V (Some o)) ≡ false = ap (λ x. is_refused (V x)) (sym here) ∙ (ap (λ (q : Key). is_refused (V (finite.get s.objects q))) (sym key) ∙ fits.fits) in
      let P : Option Object → Type 0 = λ x. IsLeftBy (V x) x (now k) in
      ap now is.1 ∙ gone_by (conflicts (Some (version_or_empty o.meta.revision)) (Some (uid_text o.meta.uid)) o) o (now k) kept (subst P here alone)

  pub expired_gone : pod_steps all ≡ [] → AllByRecursion (λ (o : Object). finite.get (after_plan set digits moment s).objects o.key ≡ None) expired
  expired_gone none = all_among (λ (o : Object). now o.key ≡ None) expired (λ o at. removed none o at (among_all IsListed expired o expired_listed at))
