-- After a round whose plan takes no pod step the set has no revision that has expired.
use Rattle.std.proofs.Common.{◌≡◌, ◌≢◌, ◌⊎◌, inl, inr, ◌+◌, ◌-◌, ◌≤◌, ℕ, zero, suc, Bool, true, false, cond, not, List, [], ◌∷◌, length, length-drop, drop, filter, map, take, bytes_eq, Some, None, arith, refl, sym, ap, ◌∙◌, subst}
use Rattle.std.specs.Prelude.{◌&&◌, ◌||◌}
use Rattle.std.specs.FinMap as finite
use Rattle.std.specs.List.{AllByRecursion, list_any}
use Rattle.std.specs.Option.{option_map_or}
use Rattle.std.proofs.lemmas.Slice.Eq.{bytes_eq-Decides}
use Rattle.objects.specs.declared.key.Key.{Key}
use Rattle.objects.specs.declared.kind.Kind.TheVariants.{ControllerRevision, Pod}
use Rattle.objects.specs.declared.object.Object.{Object}
use Rattle.requests.specs.Lists.{Has as Among}
use Rattle.set_views.specs.Firsts.{first_of_each}
use Rattle.set_views.specs.Owners.{is_controlled}
use Rattle.set_views.specs.Pod.{PodParts}
use Rattle.set_views.specs.Predicates.{is_kind}
use Rattle.set_views.specs.Set.{SetParts}
use Rattle.revisions.specs.History.{expired_revisions, history, is_live}
use Rattle.pod_steps.specs.FullSteps.{full_steps}
use Rattle.pod_steps.specs.Step.{pod_steps}
use Rattle.plain_store.specs.AtKey.{Has}
use Rattle.plain_store.specs.Store.{Store, collection}
use Rattle.sets.specs.FullPlan.{current_name}
use Rattle.sets.specs.PlanOfLists.{owned_of, view_of, views_of}
use Rattle.sets.proofs.FirstPods.{kept_among}
use Rattle.sets.proofs.Owned.{filtered}
use Rattle.controllers.proofs.PlannedActions.{among_all}
use Rattle.resting.specs.Acting.{IsReadIn, views_in}
use Rattle.resting.specs.RoundsOver.{IsAlike}
use Rattle.resting.specs.Still.{IsTendedPod, listed_in}
use Rattle.resting.proofs.Expired.{expired_gone}
use Rattle.resting.proofs.OwnedAgain.{IsOwnedIn, kind_of, owned_by, owned_there, revisions_in, there_owned}
use Rattle.resting.proofs.Acts.{untouched}
use Rattle.resting.proofs.Pairs.{ArePaired, pairs_filtered}
use Rattle.resting.proofs.PlanApart.{NameOthers, owned_named}
use Rattle.resting.proofs.PodsStay.{by_the_plan, same_pods_there, then_planned}
use Rattle.resting.proofs.RevisionRounds.{filed_then, part}
use Rattle.resting.proofs.RoundsOver.{IsPlacedRound, like_then, read_like_before}
use Rattle.resting.proofs.ReadAgain.{IsReadLike}
use Rattle.resting.proofs.UpdateStays.{elsewhere_of, owned_is}
use Rattle.resting.specs.Acting.{planned_requests}

-- ---- lists
among_dropped : {X : Type 0} (n : ℕ) (xs : List X) (x : X) → Among x xs → Among x (take n xs) ⊎ Among x (drop n xs)
among_dropped zero xs x at = inr at
among_dropped (suc n) [] x at = absurd at
among_dropped (suc n) (y ∷ ys) x (inl is) = inl (inl is)
among_dropped (suc n) (y ∷ ys) x (inr more) =
    elim (among_dropped n ys x more) [
      | inl taken ↦ inl (inr taken)
      | inr left ↦ inr left
    ]

no_longer_filtered : {X : Type 0} (p : X → Bool) (xs : List X) → length (filter p xs) ≤ length xs
no_longer_filtered p [] = omega arith
no_longer_filtered p (x ∷ xs) =
    let rest = no_longer_filtered p xs in
    elim (p x) as (λ b. length (cond b (x ∷ filter p xs) (filter p xs)) ≤ suc (length xs)) [ true ↦ omega (arith, rest) | false ↦ omega (arith, rest) ]

shorter_without : {X : Type 0} (p : X → Bool) (xs : List X) (x : X) → Among x xs → p x ≡ false → length (filter p xs) + 1 ≤ length xs
shorter_without p [] x at out = absurd at
shorter_without p (y ∷ ys) x (inl is) out =
    let rest = no_longer_filtered p ys in
    let here : p y ≡ false = ap p (sym is) ∙ out in
    subst (λ b. length (cond b (y ∷ filter p ys) (filter p ys)) + 1 ≤ suc (length ys)) (sym here) (omega (arith, rest))
shorter_without p (y ∷ ys) x (inr more) out =
    let rest = shorter_without p ys x more out in
    elim (p y) as (λ b. length (cond b (y ∷ filter p ys) (filter p ys)) + 1 ≤ suc (length ys)) [ true ↦ omega (arith, rest) | false ↦ omega (arith, rest) ]

-- objects of different names that are all in a list are no more than the list has
no_more : (set : SetParts) (xs ys : List Object) → ArePaired (NameOthers set) xs → ((x : Object) → Among x xs → Among x ys) → length xs ≤ length ys
no_more set [] ys apart each = omega arith
no_more set (x ∷ xs) ys apart each =
    let other : Object → Bool = λ y. not (bytes_eq x.key.name y.key.name) in
    let out : other x ≡ false = ap not ((bytes_eq-Decides x.key.name x.key.name).1 refl) in
    let rest = no_more set xs (filter other ys) apart.1 (λ y at. kept_among other y ys (differs y (among_all (NameOthers set x) xs y apart.0 at)) (each y (inr at))) in
    let less = shorter_without other ys x (each x (inl refl)) out in
    omega (arith, rest, less)
  where
    differs : (y : Object) → x.key.name ≢ y.key.name → not (bytes_eq x.key.name y.key.name) ≡ true
    differs y unlike =
        elim (bytes_eq x.key.name y.key.name) as (λ b. bytes_eq x.key.name y.key.name ≡ b → not b ≡ true) [
          | true ↦ λ h. absurd (unlike ((bytes_eq-Decides x.key.name y.key.name).0 h))
          | false ↦ λ h. refl
        ] refl

-- ---- a round
module _ (set : SetParts) (update : List ℕ) (digits : ℕ) (s t : Store) (round : IsPlacedRound set update digits s t)
    (none : pod_steps (full_steps round.now round.plan.pods) ≡ []) (tended : AllByRecursion IsTendedPod (listed_in s round.now.object.key Pod)) where
  abbrev now : SetParts
  now = round.now

  -- the names that the plan takes for those of the current and the update revision
  abbrev pub name : List ℕ
  name = current_name now round.plan.pods round.plan.current round.plan.update

  abbrev pub newest_name : List ℕ
  newest_name = round.plan.update.key.name

  abbrev pub owned_now : List Object
  owned_now = owned_of now (revisions_in s now)

  abbrev past : List Object
  past = history now (views_in now s) name newest_name round.plan.owned

  abbrev pub expired : List Object
  expired = expired_revisions now (views_in now s) name newest_name round.plan.owned

  owned_are : round.plan.owned ≡ owned_now
  owned_are = owned_is now digits round.moment s round.plan round.is_time round.may_act round.is_read.there round.is_read.read

  gone : (o : Object) → Among o expired → o.key.kind ≡ ControllerRevision → finite.get t.objects o.key ≡ None
  gone o at kind =
      by_the_plan set update digits s t round none tended ControllerRevision o.key refl kind
      ∙ among_all (λ (x : Object). finite.get (then_planned set update digits s t round none tended).objects x.key ≡ None) expired o
      (expired_gone now digits round.moment s round.plan round.is_time round.may_act round.is_read.there round.is_read.read none) at

  module _ (next : SetParts) (is_read : IsReadIn t next) (key : next.object.key ≡ set.object.key) where
    pub read_then : IsReadLike now next.object next
    read_then = read_like_before now next round.is_read.read t (like_then set update update digits s t round) is_read (key ∙ sym round.key_is)

    abbrev alike : IsAlike now next
    alike = read_then.alike

    abbrev pub owned_then : List Object
    owned_then = owned_of next (revisions_in t next)

    pub same_views : views_in next t ≡ views_in now s
    unfolding views_of
    same_views =
        let space = now.object.key.namespace in
        let shown : collection t.objects Pod next.object.key.namespace ≡ collection s.objects Pod space =
        ap (λ (k : Key). collection t.objects Pod k.namespace) alike.key ∙ same_pods_there set update digits s t round none tended space in
        λ j. map view_of (first_of_each (filter (λ (o : Object). is_kind Pod o.key.kind && bytes_eq o.key.namespace (alike.key j).namespace) (shown j)))

    -- a revision that has not expired is still there
    pub stays_owned : (o : Object) → Among o owned_now → ((x : Object) → Among x expired → x.key.name ≢ o.key.name) → Among o owned_then
    stays_owned o at other =
        let is : IsOwnedIn s now o = owned_there s now round.may_act.filed o at in
        let kind : o.key.kind ≡ ControllerRevision = kind_of now.object.key.namespace o.key is.1 in
        let here : Has t o.key o =
        by_the_plan set update digits s t round none tended ControllerRevision o.key refl kind
        ∙ (untouched s o.key (planned_requests now digits round.moment s) (elsewhere_of now digits round.moment s round.plan round.is_time round.may_act round.is_read.there round.is_read.read o kind other) ∙ is.0) in
        there_owned t next (filed_then set update digits s t round) o (owned_by s t now next o alike is here)

    same_live : (called : List ℕ) → is_live next (views_in next t) name newest_name called ≡ is_live now (views_in now s) name newest_name called
    same_live called =
        λ j. list_any (λ (pod : PodParts). is_controlled (alike.uid j) pod.owners && option_map_or (bytes_eq called) pod.revision false) (same_views j) || (bytes_eq called newest_name || bytes_eq called name)

    abbrev past_then : List Object
    past_then = history next (views_in next t) name newest_name owned_then

    -- what is history then was history, and has not expired
    left : (o : Object) → Among o past_then → Among o (drop (length past - now.history_limit) past)
    left o at =
        let f = filtered (λ x. not (is_live next (views_in next t) name newest_name x.key.name)) o owned_then at in
        let there : IsOwnedIn t next o = owned_there t next (filed_then set update digits s t round) o f.0 in
        let before : Among o round.plan.owned = subst (Among o) (sym owned_are) (part set update digits s t round next is_read key o f.0) in
        let old : Among o past = kept_among (λ x. not (is_live now (views_in now s) name newest_name x.key.name)) o round.plan.owned (ap not (sym (same_live o.key.name)) ∙ f.1) before in
        elim (among_dropped (length past - now.history_limit) past o old) [
          | inl taken ↦
              let clash : None ≡ Some o = sym (gone o taken (kind_of next.object.key.namespace o.key there.1)) ∙ there.0 in
              absurd (cc)
          | inr rest ↦ rest
        ]

    few : length past_then ≤ now.history_limit
    few =
        let apart = pairs_filtered (NameOthers now) (λ x. not (is_live next (views_in next t) name newest_name x.key.name)) owned_then (owned_named next (revisions_in t next)) in
        let fewer = no_more now past_then (drop (length past - now.history_limit) past) apart left in
        let rest = length-drop (length past - now.history_limit) past in
        omega (arith, fewer, rest)

    pub none_expired_then : expired_revisions next (views_in next t) name newest_name owned_then ≡ []
    none_expired_then =
        let low = few in
        let limit = read_then.history_limit in
        let nothing : length past_then - next.history_limit ≡ 0 = omega (arith, low, limit) in
        ap (λ n. take n past_then) nothing
