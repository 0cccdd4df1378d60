-- A kubelet's turn over a store is one on the pods that a plan sees.
use Rattle.std.proofs.Common.{◌≡◌, ◌≢◌, ◌==◌, ℕ, Bool, true, false, not, if◌then◌else◌, List, [], ◌∷◌, filter, find, codes, bytes_eq, option_map, option_and_then, unwrap_or, Option, Some, None, Ok, inl, inr, refl, sym, ap, ◌∙◌, subst, true≢false}
use Rattle.std.specs.FinMap as finite
use Rattle.std.specs.Option.{is_some, option_map_or}
use Rattle.std.proofs.lemmas.Bool.{and_parts}
use Rattle.std.proofs.lemmas.Option.{same_Some}
use Rattle.std.proofs.lemmas.Slice.Eq.{bytes_eq-Decides}
use Rattle.serde_json.specs.Data.{Data, Members, no_items}
use Rattle.serde_json.specs.Find.{as_object, get_member}
use Rattle.objects.specs.declared.key.Key.{Key}
use Rattle.objects.specs.declared.kind.Kind.TheVariants.{Pod}
use Rattle.objects.specs.declared.object.Object.{Object}
use Rattle.objects.specs.Key.{key_parts, kind_index}
use Rattle.objects.specs.Object.{object_at}
use Rattle.objects.specs.Metadata.{items_at, metadata_of, text_at}
use Rattle.objects.specs.Status.{member_of}
use Rattle.requests.specs.Lists.{Has as Among}
use Rattle.set_views.specs.declared.readiness.Readiness.{Readiness}
use Rattle.set_views.specs.declared.readiness.Readiness.TheVariants.{Failed, NotReady, Ready}
use Rattle.set_views.specs.Firsts.{first_of_each}
use Rattle.set_views.specs.Owners.{is_controlled}
use Rattle.set_views.specs.Pod.{PodParts}
use Rattle.set_views.specs.Predicates.{in_namespace}
use Rattle.set_views.specs.Readiness.{readiness_of}
use Rattle.set_views.specs.Set.{SetParts}
use Rattle.pod_steps.specs.declared.replica.Replica.{Replica}
use Rattle.pod_steps.specs.Listed.{by_ordinal, is_named, owned_of, replica_of, replicas_in}
use Rattle.pod_steps.specs.Replicas.{AreInOrder, Pods, is_failed, pod_at}
use Rattle.pod_steps.specs.Views.{listed_pods}
use Rattle.pod_steps.proofs.Firsts.{first_counts, listed_in_order, listed_over, owned_stays, owned_was_there}
use Rattle.plain_store.specs.AtKey.{Has}
use Rattle.plain_store.specs.Filed.{AreFiled}
use Rattle.plain_store.specs.Store.{Store, collection, is_of}
use Rattle.plain_store.proofs.CompleteLists.{listed, listed_there}
use Rattle.rounds.proofs.Lists.{among_contained, contains_among}
use Rattle.sets.specs.PlanOfLists.{view_of, views_of}
use Rattle.sets.specs.SplitName.{split_name_in}
use Rattle.sets.proofs.FirstPods.{found_in_map, kept_among, missed_in_map, named_is}
use Rattle.sets.proofs.Owned.{filtered, first_among}
use Rattle.convergence.specs.Rounds.{made_ready, tended}
use Rattle.resting.specs.Turns.{IsMadeReady, IsTurnOver, TendsTo, ready_or_ended, TendsBy}
use Rattle.resting.proofs.Turns.{is_pod}

-- ---- the pods of a namespace
abbrev pub pods_in : Store → List ℕ → List Object
pods_in s namespace = collection s.objects Pod namespace

abbrev pub IsPodIn : Store → List ℕ → Object → Type 0
IsPodIn s namespace o = Has s o.key o × (is_of Pod namespace o.key ≡ true)

pub key_is : (namespace : List ℕ) (k : Key) → is_of Pod namespace k ≡ true → k ≡ key_parts Pod namespace k.name
key_is namespace k of =
    let parts = and_parts (kind_index k.kind == kind_index Pod) (bytes_eq k.namespace namespace) of in
    λ j. key_parts (is_pod k.kind parts.0 j) ((bytes_eq-Decides k.namespace namespace).0 parts.1 j) k.name

one_pod : (s : Store) (namespace : List ℕ) (a b : Object) → IsPodIn s namespace a → IsPodIn s namespace b → a.key.name ≡ b.key.name → a ≡ b
one_pod s namespace a b is_a is_b name =
    let key : a.key ≡ b.key = key_is namespace a.key is_a.1 ∙ (ap (key_parts Pod namespace) name ∙ sym (key_is namespace b.key is_b.1)) in
    same_Some a b (sym is_a.0 ∙ (ap (finite.get s.objects) key ∙ is_b.0))

abbrev pub AreApart : List Object → Type 0
AreApart os = (a b : Object) → Among a os → Among b os → a.key.name ≡ b.key.name → a ≡ b

pub all_first : (os : List Object) (o : Object) → AreApart os → Among o os → Among o (first_of_each os)
all_first [] o apart at = at
all_first (x ∷ os) o apart (inl is) = inl is
all_first (x ∷ os) o apart (inr at) =
    elim (bytes_eq o.key.name x.key.name) as (λ b. bytes_eq o.key.name x.key.name ≡ b → Among o (first_of_each (x ∷ os))) [
      | true ↦ λ e. inl (apart o x (inr at) (inl refl) ((bytes_eq-Decides o.key.name x.key.name).0 e))
      | false ↦ λ e. inr (kept_among (λ p. not (bytes_eq p.key.name x.key.name)) o (first_of_each os) (ap not e) (all_first os o (λ a b p q. apart a b (inr p) (inr q)) at))
    ] refl

module _ (set : SetParts) (s : Store) (filed : AreFiled s.objects) where
  abbrev space : List ℕ
  space = set.object.key.namespace

  is_there : (o : Object) → Among o (pods_in s space) → IsPodIn s space o
  is_there o at = listed_there s.objects Pod space o filed (contains_among o (pods_in s space) at)

  to_listed : (o : Object) → IsPodIn s space o → Among o (listed_pods set (pods_in s space))
  to_listed o is =
      let at = among_contained (pods_in s space) o (listed s.objects Pod space o.key o is.0 is.1) in
      all_first (filter (in_namespace set Pod) (pods_in s space)) o
      (λ a b p q. one_pod s space a b (is_there a (filtered (in_namespace set Pod) a (pods_in s space) p).0) (is_there b (filtered (in_namespace set Pod) b (pods_in s space) q).0))
      (kept_among (in_namespace set Pod) o (pods_in s space) is.1 at)

  from_listed : (o : Object) → Among o (listed_pods set (pods_in s space)) → IsPodIn s space o
  from_listed o at = is_there o (filtered (in_namespace set Pod) o (pods_in s space) (first_among (filter (in_namespace set Pod) (pods_in s space)) o at)).0

-- ---- the pod of an ordinal
abbrev pub found_at : SetParts → Store → ℕ → Option PodParts
found_at set s i = find (is_named set i) (views_of set (pods_in s set.object.key.namespace))

abbrev pub IsPodAt : SetParts → Store → ℕ → Object → Type 0
IsPodAt set s i o = IsPodIn s set.object.key.namespace o × (is_named set i (view_of o) ≡ true)

pub found_some : (set : SetParts) (s : Store) (i : ℕ) (pod : PodParts) → AreFiled s.objects → found_at set s i ≡ Some pod → (o : Object) × IsPodAt set s i o × (view_of o ≡ pod)
unfolding views_of
found_some set s i pod filed is =
    let f = found_in_map (is_named set i) (listed_pods set (pods_in s set.object.key.namespace)) pod is in
    (f.0, (from_listed set s filed f.0 f.1, f.3), f.2)

one_at : (set : SetParts) (s : Store) (i : ℕ) (a b : Object) → IsPodAt set s i a → IsPodAt set s i b → a ≡ b
one_at set s i a b is_a is_b = one_pod s set.object.key.namespace a b is_a.0 is_b.0 (named_is set i a is_a.1 ∙ sym (named_is set i b is_b.1))

pub found_by : (set : SetParts) (s : Store) (i : ℕ) (o : Object) → AreFiled s.objects → IsPodAt set s i o → found_at set s i ≡ Some (view_of o)
unfolding views_of
found_by set s i o filed is =
    elim (found_at set s i) as (λ x. found_at set s i ≡ x → x ≡ Some (view_of o)) [
      | None ↦ λ h. absurd (true≢false (sym is.1 ∙ missed_in_map (is_named set i) (listed_pods set (pods_in s set.object.key.namespace)) o h (to_listed set s filed o is.0)))
      | Some pod ↦ λ h.
          let f = found_some set s i pod filed h in
          ap Some (sym f.2 ∙ ap view_of (one_at set s i f.0 o f.1 is))
    ] refl

-- ---- before and after
abbrev pub is_called : SetParts → ℕ → Key → Bool
is_called set i k = option_map_or (λ (j : ℕ). i == j) (option_and_then (λ (x : List ℕ × ℕ). if bytes_eq x.0 set.object.key.name then Some x.1 else None) (split_name_in k.name)) false

module _ (set : SetParts) (s t : Store) (filed : AreFiled s.objects) (turn : IsTurnOver set.object.key.namespace s t) where
  -- what is there afterwards was there before, not marked
  pub was_there : (k : Key) (p : Object) → is_of Pod set.object.key.namespace k ≡ true → Has t k p → (o : Object) × Has s k o × (is_some o.meta.deletion ≡ false) × IsMadeReady o p
  was_there k p of here =
      elim (finite.get s.objects k) as (λ x. finite.get s.objects k ≡ x → TendsTo x (finite.get t.objects k) → (o : Object) × Has s k o × (is_some o.meta.deletion ≡ false) × IsMadeReady o p) [
        | None ↦ λ h gone. let clash : None ≡ Some p = sym gone ∙ here in absurd (cc)
        | Some o ↦ λ h. elim (is_some o.meta.deletion) as (λ b. is_some o.meta.deletion ≡ b → (TendsBy b o (finite.get t.objects k))
            → (x : Object) × Has s k x × (is_some x.meta.deletion ≡ false) × IsMadeReady x p) [
              | true ↦ λ marked gone. let clash : None ≡ Some p = sym gone ∙ here in absurd (cc)
              | false ↦ λ staying left.
                  let same : left.0 ≡ p = same_Some left.0 p (sym left.1 ∙ here) in
                  let P : Object → Type 0 = λ x. IsMadeReady o x in
                  (o, h, staying, subst P same left.2)
            ] refl
      ] refl (turn.pods k of)

  pub still_filed : AreFiled t.objects
  still_filed k p here =
      elim (is_of Pod set.object.key.namespace k) as (λ b. is_of Pod set.object.key.namespace k ≡ b → p.key ≡ k) [
        | true ↦ λ of. let w = was_there k p of here in w.3.key ∙ filed k w.0 w.1
        | false ↦ λ out. filed k p (sym (turn.others k out) ∙ here)
      ] refl

  before : (i : ℕ) (p : Object) → IsPodAt set t i p → (o : Object) × IsPodAt set s i o × (is_some o.meta.deletion ≡ false) × IsMadeReady o p
  before i p is =
      let w = was_there p.key p is.0.1 is.0.0 in
      let key : p.key ≡ w.0.key = w.3.key in
      let P : Key → Type 0 = λ k. Has s k w.0 in
      (w.0, ((subst P key w.1, ap (is_of Pod set.object.key.namespace) (sym key) ∙ is.0.1), ap (is_called set i) (sym key) ∙ is.1), w.2, w.3)

  later : (i : ℕ) (o : Object) → IsPodAt set s i o → is_some o.meta.deletion ≡ false → (p : Object) × IsPodAt set t i p × IsMadeReady o p
  later i o is staying =
      let P : Option Object → Type 0 = λ x. TendsTo x (finite.get t.objects o.key) in
      let Q : Bool → Type 0 = λ b. TendsBy b o (finite.get t.objects o.key) in
      let left = subst Q staying (subst P is.0.0 (turn.pods o.key is.0.1)) in
      let key : o.key ≡ left.0.key = sym left.2.key in
      let R : Key → Type 0 = λ k. Has t k left.0 in
      (left.0, ((subst R key left.1, ap (is_of Pod set.object.key.namespace) (sym key) ∙ is.0.1), ap (is_called set i) (sym key) ∙ is.1), left.2)

  gone_after : (i : ℕ) (o : Object) → IsPodAt set s i o → is_some o.meta.deletion ≡ true → found_at set t i ≡ None
  gone_after i o is marked =
      elim (found_at set t i) as (λ x. found_at set t i ≡ x → x ≡ None) [
        | None ↦ λ h. refl
        | Some pod ↦ λ h.
            let f = found_some set t i pod still_filed h in
            let b = before i f.0 f.1 in
            let same : b.0 ≡ o = one_at set s i b.0 o b.1 is in
            absurd (true≢false (sym marked ∙ (ap (λ (x : Object). is_some x.meta.deletion) (sym same) ∙ b.2)))
      ] refl

  none_after : (i : ℕ) → found_at set s i ≡ None → found_at set t i ≡ None
  none_after i none =
      elim (found_at set t i) as (λ x. found_at set t i ≡ x → x ≡ None) [
        | None ↦ λ h. refl
        | Some pod ↦ λ h.
            let f = found_some set t i pod still_filed h in
            let b = before i f.0 f.1 in
            let clash : None ≡ Some (view_of b.0) = sym none ∙ found_by set s i b.0 filed b.1 in
            absurd (cc)
      ] refl

-- ---- replicas
abbrev pub own : Option Replica → Option Replica
own None = None
own (Some y) = if y.owned then Some y else None

at_owned : (es : Pods) (i : ℕ) → AreInOrder es → pod_at (owned_of es) i ≡ own (pod_at es i)
at_owned es i sorted =
    elim (pod_at (owned_of es) i) as (λ x. pod_at (owned_of es) i ≡ x → x ≡ own (pod_at es i)) [
      | Some y ↦ λ h. let r = owned_was_there es i y sorted h in sym (ap own r.0 ∙ ap (λ b. if b then Some y else None) r.1)
      | None ↦ λ h. elim (pod_at es i) as (λ x. pod_at es i ≡ x → None ≡ own x) [
        | None ↦ λ e. refl
        | Some y ↦ λ e. elim (y.owned) as (λ b. y.owned ≡ b → None ≡ (if b then Some y else None)) [
          | true ↦ λ mine. absurd (owned_stays es i y e mine h)
          | false ↦ λ theirs. refl
        ] refl
      ] refl
    ] refl

pub at_store : (set : SetParts) (update current : List ℕ) (s : Store) (pods : Pods) (i : ℕ) → replicas_in set update current (views_of set (pods_in s set.object.key.namespace)) ≡ Ok pods
    → pod_at pods i ≡ own (option_map (replica_of set update current) (found_at set s i))
at_store set update current s pods i e =
    let listed_views = views_of set (pods_in s set.object.key.namespace) in
    let named = by_ordinal set update current listed_views in
    ap (λ (es : Pods). pod_at es i) (sym (listed_over set update current listed_views pods e).1)
    ∙ (at_owned named i (listed_in_order set update current listed_views) ∙ ap own (first_counts set update current listed_views i))

-- ---- what of a pod does not hang on its status
pub not_status : codes "metadata" ≢ codes "status"
not_status e = true≢false (ap (λ (l : List ℕ). bytes_eq l (codes "metadata")) e)

pub metadata_is : (body : Data) → metadata_of body ≡ option_and_then as_object (member_of (codes "metadata") body)
metadata_is body =
    elim (as_object body) as (λ x. option_and_then (object_at (codes "metadata")) x ≡ option_and_then as_object (option_and_then (get_member (codes "metadata")) x)) [
      | None ↦ refl
      | Some ms ↦ refl
    ]

same_metadata : (o p : Object) → IsMadeReady o p → metadata_of p.body ≡ metadata_of o.body
same_metadata o p is = metadata_is p.body ∙ (ap (option_and_then as_object) (is.members (codes "metadata") not_status) ∙ sym (metadata_is o.body))

abbrev label_in : Option Members → Option (List ℕ)
label_in m = option_and_then (text_at (codes "controller-revision-hash")) (option_and_then (object_at (codes "labels")) m)

abbrev pub replica_with : SetParts → List ℕ → List ℕ → Option Members → ℕ → Readiness → Bool → Replica
replica_with set update current m uid readiness terminating = record {
  owned = is_controlled set.object.meta.uid (unwrap_or (option_and_then (items_at (codes "ownerReferences")) m) no_items);
  uid = uid;
  readiness = readiness;
  terminating = terminating;
  updated = option_map_or (λ x. bytes_eq x update) (label_in m) false;
  current = option_map_or (λ x. bytes_eq x current) (label_in m) false;
}

as_ready : (set : SetParts) (update current : List ℕ) (m : Option Members) (uid : ℕ) (r : Readiness) (t : Bool) → replica_with set update current m uid (ready_or_ended r) t ≡ made_ready (replica_with set update current m uid r t)
as_ready set update current m uid Ready t = refl
as_ready set update current m uid NotReady t = refl
as_ready set update current m uid Failed t = refl

replica_made_ready : (set : SetParts) (update current : List ℕ) (o p : Object) → IsMadeReady o p → replica_of set update current (view_of p) ≡ made_ready (replica_of set update current (view_of o))
replica_made_ready set update current o p is =
    (λ j. replica_with set update current (same_metadata o p is j) (is.uid j) (is.readiness j) (is_some (is.deletion j)))
    ∙ as_ready set update current (metadata_of o.body) o.meta.uid (readiness_of o.body) (is_some o.meta.deletion)

made_ready_owned : (y : Replica) → (made_ready y).owned ≡ y.owned
made_ready_owned y = elim (is_failed y.readiness) as (λ b. (if b then y else record y { readiness = Ready }).owned ≡ y.owned) [ true ↦ refl | false ↦ refl ]

own_tended : (y : Replica) → y.terminating ≡ false → own (Some (made_ready y)) ≡ tended (own (Some y))
own_tended y staying =
    ap (λ b. if b then Some (made_ready y) else None) (made_ready_owned y)
    ∙ elim (y.owned) as (λ b. (if b then Some (made_ready y) else None) ≡ tended (if b then Some y else None)) [
      | true ↦ sym (ap (λ b. if b then None else Some (made_ready y)) staying)
      | false ↦ refl
    ]

own_gone : (y : Replica) → y.terminating ≡ true → None ≡ tended (own (Some y))
own_gone y marked =
    elim (y.owned) as (λ b. None ≡ tended (if b then Some y else None)) [
      | true ↦ sym (ap (λ b. if b then None else Some (made_ready y)) marked)
      | false ↦ refl
    ]

-- ---- both
-- the set's own pod of the ordinal, if there is one in the store
abbrev pub own_at : SetParts → List ℕ → List ℕ → Store → ℕ → Option Replica
own_at set update current s i = own (option_map (replica_of set update current) (found_at set s i))

pub turn_at : (set : SetParts) (update current : List ℕ) (s t : Store) → AreFiled s.objects → IsTurnOver set.object.key.namespace s t → (i : ℕ) → own_at set update current t i ≡ tended (own_at set update current s i)
turn_at set update current s t filed turn i =
    let replica : PodParts → Replica = replica_of set update current in
    elim (found_at set s i) as (λ x. found_at set s i ≡ x → own (option_map replica (found_at set t i)) ≡ tended (own (option_map replica x))) [
      | None ↦ λ h. ap (λ x. own (option_map replica x)) (none_after set s t filed turn i h)
      | Some pod ↦ λ h.
          let f = found_some set s i pod filed h in
          let o : Object = f.0 in
          let P : PodParts → Type 0 = λ x. own (option_map replica (found_at set t i)) ≡ tended (own (Some (replica x))) in
          subst P f.2 (elim (is_some o.meta.deletion) as (λ b. is_some o.meta.deletion ≡ b → own (option_map replica (found_at set t i)) ≡ tended (own (Some (replica (view_of o))))) [
            | true ↦ λ marked. ap (λ x. own (option_map replica x)) (gone_after set s t filed turn i o f.1 marked) ∙ own_gone (replica (view_of o)) marked
            | false ↦ λ staying.
                let l = later set s t filed turn i o f.1 staying in
                ap (λ x. own (option_map replica x)) (found_by set t i l.0 (still_filed set s t filed turn) l.1)
                ∙ (ap (λ y. own (Some y)) (replica_made_ready set update current o l.0 l.2) ∙ own_tended (replica (view_of o)) staying)
          ] refl)
    ] refl

pub turn_on_pods : (set : SetParts) (update current : List ℕ) (s t : Store) (pods next : Pods) → AreFiled s.objects → IsTurnOver set.object.key.namespace s t
    → replicas_in set update current (views_of set (pods_in s set.object.key.namespace)) ≡ Ok pods → replicas_in set update current (views_of set (pods_in t set.object.key.namespace)) ≡ Ok next
    → (i : ℕ) → pod_at next i ≡ tended (pod_at pods i)
turn_on_pods set update current s t pods next filed turn is is_next i =
    at_store set update current t next i is_next ∙ (turn_at set update current s t filed turn i ∙ ap tended (sym (at_store set update current s pods i is)))
