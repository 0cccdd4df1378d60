-- The first listed pod of each name, and what is read of them.
use Rattle.std.proofs.Common.{◌≡◌, inl, inr, ℕ, length, Bool, true, false, not, cond, List, [], ◌∷◌, Option, Some, None, map, filter, find, refl, sym, ap, ◌∙◌, subst, true≢false}
use Rattle.std.specs.List.{list_any}
use Rattle.std.specs.Option.{is_some, option_map_or}
use Rattle.std.specs.Prelude.{◌==◌, ◌&&◌, ◌||◌, bytes_eq, option_and_then, if◌then◌else◌}
use Rattle.std.proofs.lemmas.Bool.{eqb-true}
use Rattle.std.proofs.lemmas.Slice.Eq.{bytes_eq-Decides}
use Rattle.objects.specs.declared.kind.Kind.TheVariants as kinds
use Rattle.objects.specs.declared.object.Object.{Object}
use Rattle.objects.specs.PodNames.{IsPodName, pod_name}
use Rattle.set_views.specs.declared.pod.PodView.{PodView}
use Rattle.set_views.specs.Firsts.{first_of_each}
use Rattle.set_views.specs.Pod.{PodParts}
use Rattle.set_views.specs.Set.{SetParts}
use Rattle.set_views.specs.Predicates.{in_namespace, owns_pod}
use Rattle.revisions.specs.History.{has_pod}
use Rattle.pod_steps.specs.Listed.{is_named}
use Rattle.pod_steps.specs.Views.{AreViews, IsViewOf, listed_pod, listed_pods}
use Rattle.requests.specs.Lists.{Has}
use Rattle.sets.specs.Actions.{name_at}
use Rattle.sets.specs.SplitName.{split_name_in}
use Rattle.sets.specs.PlanOfLists.{view_of, views_of}
use Rattle.sets.proofs.Owned.{filtered, one_of_a_name}
use Rattle.sets.proofs.SplitNames.{found_below}

-- ---- what is found

pub found_in_map : (p : PodParts → Bool) (os : List Object) (pod : PodParts) → find p (map view_of os) ≡ Some pod → (o : Object) × Has o os × (view_of o ≡ pod) × (p (view_of o) ≡ true)
found_in_map p [] pod is = let clash : false ≡ true = ap is_some is in absurd (true≢false (sym clash))
found_in_map p (o ∷ os) pod is =
    elim (p (view_of o)) as (λ b. p (view_of o) ≡ b → cond b (Some (view_of o)) (find p (map view_of os)) ≡ Some pod → (q : Object) × Has q (o ∷ os) × (view_of q ≡ pod) × (p (view_of q) ≡ true)) [
      | true ↦ λ e h. (o, inl refl, ap (λ x. option_map_or (λ (v : PodParts). v) x pod) h, e)
      | false ↦ λ e h. let r = found_in_map p os pod h in (r.0, inr r.1, r.2, r.3)
    ] refl is

pub missed_in_map : (p : PodParts → Bool) (os : List Object) (q : Object) → find p (map view_of os) ≡ None → Has q os → p (view_of q) ≡ false
missed_in_map p [] q is at = absurd at
missed_in_map p (o ∷ os) q is at =
    elim (p (view_of o)) as (λ b. p (view_of o) ≡ b → cond b (Some (view_of o)) (find p (map view_of os)) ≡ None → p (view_of q) ≡ false) [
      | true ↦ λ e h. let clash : true ≡ false = ap is_some h in absurd (true≢false clash)
      | false ↦ λ e h. elim at [ inl same ↦ ap (λ (x : Object). p (view_of x)) same ∙ e | inr more ↦ missed_in_map p os q h more ]
    ] refl is

any_in_map : (p : PodParts → Bool) (os : List Object) → list_any p (map view_of os) ≡ true → (o : Object) × Has o os × (p (view_of o) ≡ true)
any_in_map p [] is = absurd (true≢false (sym is))
any_in_map p (o ∷ os) is =
    elim (p (view_of o)) as (λ b. p (view_of o) ≡ b → (b || list_any p (map view_of os)) ≡ true → (q : Object) × Has q (o ∷ os) × (p (view_of q) ≡ true)) [
      | true ↦ λ e h. (o, inl refl, e)
      | false ↦ λ e h. let r = any_in_map p os h in (r.0, inr r.1, r.2)
    ] refl is

or_true : (b : Bool) → (b || true) ≡ true
or_true true = refl
or_true false = refl

any_by_one : (p : PodParts → Bool) (os : List Object) (q : Object) → Has q os → p (view_of q) ≡ true → list_any p (map view_of os) ≡ true
any_by_one p [] q at holds = absurd at
any_by_one p (o ∷ os) q (inl same) holds = ap (λ b. b || list_any p (map view_of os)) (ap (λ (x : Object). p (view_of x)) (sym same) ∙ holds)
any_by_one p (o ∷ os) q (inr more) holds = ap (λ b. p (view_of o) || b) (any_by_one p os q more holds) ∙ or_true (p (view_of o))

-- two lists of the same objects
module _ (p : PodParts → Bool) (xs ys : List Object) (to : (o : Object) → Has o xs → Has o ys) (back : (o : Object) → Has o ys → Has o xs) where
  same_any : list_any p (map view_of xs) ≡ list_any p (map view_of ys)
  same_any = both (list_any p (map view_of xs)) (list_any p (map view_of ys)) refl refl
    where
      both : (a b : Bool) → list_any p (map view_of xs) ≡ a → list_any p (map view_of ys) ≡ b → a ≡ b
      both true true e f = refl
      both true false e f = let h = any_in_map p xs e in absurd (true≢false (sym (any_by_one p ys h.0 (to h.0 h.1) h.2) ∙ f))
      both false true e f = let h = any_in_map p ys f in absurd (true≢false (sym (any_by_one p xs h.0 (back h.0 h.1) h.2) ∙ e))
      both false false e f = refl

  -- at most one of them passes
  same_found : ((a b : Object) → Has a xs → Has b xs → p (view_of a) ≡ true → p (view_of b) ≡ true → a ≡ b) → find p (map view_of xs) ≡ find p (map view_of ys)
  same_found one = both (find p (map view_of xs)) (find p (map view_of ys)) refl refl
    where
      both : (a b : Option PodParts) → find p (map view_of xs) ≡ a → find p (map view_of ys) ≡ b → a ≡ b
      both None None e f = refl
      both None (Some w) e f = let k = found_in_map p ys w f in absurd (true≢false (sym k.3 ∙ missed_in_map p xs k.0 e (back k.0 k.1)))
      both (Some v) None e f = let h = found_in_map p xs v e in absurd (true≢false (sym h.3 ∙ missed_in_map p ys h.0 f (to h.0 h.1)))
      both (Some v) (Some w) e f =
          let h = found_in_map p xs v e in
          let k = found_in_map p ys w f in
          let same : h.0 ≡ k.0 = one h.0 k.0 h.1 (back k.0 k.1) h.3 k.3 in
          ap (λ x. Some x) (sym h.2 ∙ (ap view_of same ∙ k.2))

-- ---- names

named_split_name : (set : SetParts) (i : ℕ) (split_name : Option (List ℕ × ℕ))
    → option_map_or (λ (j : ℕ). i == j) (option_and_then (λ (s : List ℕ × ℕ). if bytes_eq s.0 set.object.key.name then Some s.1 else None) split_name) false ≡ true
    → (s : List ℕ × ℕ) × (split_name ≡ Some s) × (s.0 ≡ set.object.key.name) × (i ≡ s.1)
named_split_name set i None h = absurd (true≢false (sym h))
named_split_name set i (Some s) h =
    elim (bytes_eq s.0 set.object.key.name) as (λ b. bytes_eq s.0 set.object.key.name ≡ b → option_map_or (λ (j : ℕ). i == j) (cond b (Some s.1) None) false ≡ true
    → (t : List ℕ × ℕ) × (Some s ≡ Some t) × (t.0 ≡ set.object.key.name) × (i ≡ t.1)) [
      | true ↦ λ e k. (s, refl, (bytes_eq-Decides s.0 set.object.key.name).0 e, eqb-true i s.1 k)
      | false ↦ λ e k. absurd (true≢false (sym k))
    ] refl h

-- a pod of the set's ordinal has its name
pub named_is : (set : SetParts) (i : ℕ) (o : Object) → is_named set i (view_of o) ≡ true → o.key.name ≡ name_at set i
unfolding split_name_in
named_is set i o h =
    let split_name = named_split_name set i (split_name_in o.key.name) h in
    let called : IsPodName o.key.name split_name.0.0 split_name.0.1 = found_below o.key.name (length o.key.name) split_name.0 split_name.1 in
    called.joined ∙ (λ j. pod_name (split_name.2 j) (sym split_name.3 j))

-- ---- the first of a name

pub kept_among : (p : Object → Bool) (x : Object) (xs : List Object) → p x ≡ true → Has x xs → Has x (filter p xs)
kept_among p x [] holds at = absurd at
kept_among p x (y ∷ ys) holds (inl is) = subst (λ b. Has x (cond b (y ∷ filter p ys) (filter p ys))) (sym holds ∙ ap p is) (inl is)
kept_among p x (y ∷ ys) holds (inr at) =
    elim (p y) as (λ b. Has x (cond b (y ∷ filter p ys) (filter p ys))) [
      | true ↦ inr (kept_among p x ys holds at)
      | false ↦ kept_among p x ys holds at
    ]

same_name : (a b : List ℕ) → a ≡ b → bytes_eq a b ≡ true
same_name a b is = (bytes_eq-Decides a b).1 is

first_found : (os : List Object) (o : Object) → Has o (first_of_each os) → find (λ p. bytes_eq p.key.name o.key.name) os ≡ Some o
first_found [] o at = absurd at
first_found (x ∷ os) o (inl is) =
    ap (λ b. cond b (Some x) (find (λ p. bytes_eq p.key.name o.key.name) os)) (same_name x.key.name o.key.name (ap (λ (p : Object). p.key.name) (sym is))) ∙ ap (λ p. Some p) (sym is)
first_found (x ∷ os) o (inr at) =
    let r = filtered (λ (p : Object). not (bytes_eq p.key.name x.key.name)) o (first_of_each os) at in
    elim (bytes_eq x.key.name o.key.name) as (λ b. bytes_eq x.key.name o.key.name ≡ b → cond b (Some x) (find (λ p. bytes_eq p.key.name o.key.name) os) ≡ Some o) [
      | true ↦ λ e. absurd (true≢false (sym r.1 ∙ ap not (same_name o.key.name x.key.name (sym ((bytes_eq-Decides x.key.name o.key.name).0 e)))))
      | false ↦ λ e. first_found os o r.0
    ] refl

has_found_name : (os : List Object) (name : List ℕ) (o : Object) → find (λ p. bytes_eq p.key.name name) os ≡ Some o → o.key.name ≡ name
has_found_name [] name o is = let clash : false ≡ true = ap is_some is in absurd (true≢false (sym clash))
has_found_name (x ∷ os) name o is =
    elim (bytes_eq x.key.name name) as (λ b. bytes_eq x.key.name name ≡ b → cond b (Some x) (find (λ p. bytes_eq p.key.name name) os) ≡ Some o → o.key.name ≡ name) [
      | true ↦ λ e h. sym (ap (λ p. option_map_or (λ (q : Object). q.key.name) p o.key.name) h) ∙ (bytes_eq-Decides x.key.name name).0 e
      | false ↦ λ e h. has_found_name os name o h
    ] refl is

found_is_first : (os : List Object) (name : List ℕ) (o : Object) → find (λ p. bytes_eq p.key.name name) os ≡ Some o → Has o (first_of_each os)
found_is_first [] name o is = let clash : false ≡ true = ap is_some is in absurd (true≢false (sym clash))
found_is_first (x ∷ os) name o is =
    elim (bytes_eq x.key.name name) as (λ b. bytes_eq x.key.name name ≡ b → cond b (Some x) (find (λ p. bytes_eq p.key.name name) os) ≡ Some o → Has o (first_of_each (x ∷ os))) [
      | true ↦ λ e h. inl (sym (ap (λ p. option_map_or (λ (q : Object). q) p o) h))
      | false ↦ λ e h. inr (kept_among (λ p. not (bytes_eq p.key.name x.key.name)) o (first_of_each os) (differs e (has_found_name os name o h)) (found_is_first os name o h))
    ] refl is
  where
    differs : bytes_eq x.key.name name ≡ false → o.key.name ≡ name → not (bytes_eq o.key.name x.key.name) ≡ true
    differs e named =
        elim (bytes_eq o.key.name x.key.name) as (λ b. bytes_eq o.key.name x.key.name ≡ b → not b ≡ true) [
          | true ↦ λ f. absurd (true≢false (sym (same_name x.key.name name (sym ((bytes_eq-Decides o.key.name x.key.name).0 f) ∙ named)) ∙ e))
          | false ↦ λ f. refl
        ] refl

found_in_filter : (p q : Object → Bool) (os : List Object) → find q (filter p os) ≡ find (λ o. p o && q o) os
found_in_filter p q [] = refl
found_in_filter p q (o ∷ os) =
    elim (p o) as (λ b. find q (cond b (o ∷ filter p os) (filter p os)) ≡ cond (b && q o) (Some o) (find (λ x. p x && q x) os)) [
      | true ↦ ap (λ r. cond (q o) (Some o) r) (found_in_filter p q os)
      | false ↦ found_in_filter p q os
    ]

-- ---- lists with the same first pods

module _ (set : SetParts) where
  pub stays_listed : (pods others : List Object) → ((name : List ℕ) → listed_pod set pods name ≡ listed_pod set others name) → (o : Object) → Has o (listed_pods set pods) → Has o (listed_pods set others)
  stays_listed pods others same o at =
      let named : Object → Bool = λ p. bytes_eq p.key.name o.key.name in
      found_is_first (filter (in_namespace set kinds.Pod) others) o.key.name o
      (found_in_filter (in_namespace set kinds.Pod) named others ∙ (sym (same o.key.name) ∙ (sym (found_in_filter (in_namespace set kinds.Pod) named pods) ∙ first_found (filter (in_namespace set kinds.Pod) pods) o at)))

  module _ (pods others : List Object) (same : (name : List ℕ) → listed_pod set pods name ≡ listed_pod set others name) where
    to : (o : Object) → Has o (listed_pods set pods) → Has o (listed_pods set others)
    to = stays_listed pods others same

    back : (o : Object) → Has o (listed_pods set others) → Has o (listed_pods set pods)
    back = stays_listed others pods (λ name. sym (same name))

    pub same_firsts : (i : ℕ) → find (is_named set i) (views_of set pods) ≡ find (is_named set i) (views_of set others)
    unfolding views_of
    same_firsts i = same_found (is_named set i) (listed_pods set pods) (listed_pods set others) to back
        (λ a b at_a at_b p q. one_of_a_name (filter (in_namespace set kinds.Pod) pods) a b at_a at_b (named_is set i a p ∙ sym (named_is set i b q)))

    pub same_held : (name : List ℕ) → has_pod set (views_of set pods) name ≡ has_pod set (views_of set others) name
    unfolding views_of
    same_held name = same_any (λ pod. owns_pod set pod && option_map_or (bytes_eq name) pod.revision false) (listed_pods set pods) (listed_pods set others) to back

-- ---- the views of objects that were read

view_among : (os : List Object) (views : List PodView) (o : Object) → AreViews os views → Has o os → (v : PodView) × IsViewOf o v
view_among [] views o are at = absurd at
view_among (q ∷ os) [] o are at = absurd are
view_among (q ∷ os) (v ∷ views) o are (inl is) = (v, subst (λ (x : Object). IsViewOf x v) (sym is) are.0)
view_among (q ∷ os) (v ∷ views) o are (inr at) = view_among os views o are.1 at

pub views_among : (os read : List Object) (views : List PodView) → AreViews read views → ((o : Object) → Has o os → Has o read) → (vs : List PodView) × AreViews os vs
views_among [] read views are each = ([], tt)
views_among (o ∷ os) read views are each =
    let v = view_among read views o are (each o (inl refl)) in
    let more = views_among os read views are (λ x at. each x (inr at)) in
    (v.0 ∷ more.0, (v.1, more.1))
