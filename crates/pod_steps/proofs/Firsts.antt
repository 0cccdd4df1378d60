-- The pods by their ordinals, found in a list: they are in order, and of several with one name the first counts.
use Rattle.std.proofs.Common.{◌≡◌, ◌==◌, ◌&&◌, ℕ, ◌<◌, Bool, true, false, not, cond, List, [], ◌∷◌, Option, Some, None, Ok, filter, find, option_map, arith, refl, sym, ap, ◌∙◌, subst}
use Rattle.std.proofs.lemmas.Bool.{eq-eqb, eqb-true}
use Rattle.std.proofs.lemmas.Map.Keys.{sorted_tail}
use Rattle.std.specs.BTreeMap.{insert_entry, is_at}
use Rattle.std.specs.Cmp.{nat_cmp_is, ranked}
use Rattle.std.specs.List.{AllByRecursion}
use Rattle.std.specs.List.Sorted.{IsStrictlySortedBy}
use Rattle.std.specs.Map.{keys_of}
use Rattle.std.specs.Option.{option_map_or}
use Rattle.std.specs.Ordering.{match_ordering, nat_cmp}
use Rattle.std.specs.declared.cmp.Ordering.TheVariants.{Less, Equal, Greater}
use Rattle.set_views.specs.Pod.{PodParts}
use Rattle.set_views.specs.Set.{SetParts}
use Rattle.set_views.specs.Predicates.{in_range, ordinal_in}
use Rattle.pod_steps.specs.declared.replica.Replica.{Replica}
use Rattle.pod_steps.specs.Listed.{by_ordinal, is_foreign, is_named, owned_of, with_pod, replica_of, replicas_in, unless_foreign}
use Rattle.pod_steps.specs.Replicas.{AreInOrder, Pods, pod_at}
use Rattle.pod_steps.proofs.Entries.{at_other, at_same, at_self, at_tail, none_passed, not_true}

-- ---- in order
all_above : (k h : ℕ) (ks : List ℕ) → k < h → AllByRecursion (λ y. nat_cmp h y ≡ Less) ks → AllByRecursion (λ y. nat_cmp k y ≡ Less) ks
all_above k h [] l all = all
all_above k h (y ∷ ks) l all =
    let up : h < y = ranked h y Less (sym all.0) in
    let far : k < y = omega arith in
    (sym (nat_cmp_is k y Less far), all_above k h ks l all.1)

all_inserted : (P : ℕ → Type 0) (es : Pods) (k : ℕ) (v : Replica) → AllByRecursion P (keys_of es) → P k → AllByRecursion P (keys_of (insert_entry nat_cmp es k v))
all_inserted P [] k v all h = (h, all)
all_inserted P (e ∷ es) k v all h =
    elim (nat_cmp k e.0) as (λ r. AllByRecursion P (keys_of (match_ordering r ((k, v) ∷ e ∷ es) ((e.0, v) ∷ es) (e ∷ insert_entry nat_cmp es k v)))) [
      | Less ↦ (h, all)
      | Equal ↦ all
      | Greater ↦ (all.0, all_inserted P es k v all.1 h)
    ]

inserted_in_order : (es : Pods) (k : ℕ) (v : Replica) → AreInOrder es → AreInOrder (insert_entry nat_cmp es k v)
unfolding IsStrictlySortedBy
inserted_in_order [] k v s = (s, s)
inserted_in_order (e ∷ es) k v s =
    elim (nat_cmp k e.0) as (λ r. r ≡ nat_cmp k e.0 → AreInOrder (match_ordering r ((k, v) ∷ e ∷ es) ((e.0, v) ∷ es) (e ∷ insert_entry nat_cmp es k v))) [
      | Less ↦ λ r. let l : k < e.0 = ranked k e.0 Less r in ((sym r, all_above k e.0 (keys_of es) l s.0), s)
      | Equal ↦ λ r. s
      | Greater ↦ λ r.
          let l : e.0 < k = ranked k e.0 Greater r in
          (all_inserted (λ y. nat_cmp e.0 y ≡ Less) es k v s.0 (sym (nat_cmp_is e.0 k Less l)), inserted_in_order es k v s.1)
    ] refl

all_filtered : (P : ℕ → Type 0) (p : ℕ × Replica → Bool) (es : Pods) → AllByRecursion P (keys_of es) → AllByRecursion P (keys_of (filter p es))
all_filtered P p [] all = all
all_filtered P p (e ∷ es) all =
    elim (p e) as (λ b. AllByRecursion P (keys_of (cond b (e ∷ filter p es) (filter p es)))) [
      | true ↦ (all.0, all_filtered P p es all.1)
      | false ↦ all_filtered P p es all.1
    ]

pub filtered_in_order : (p : ℕ × Replica → Bool) (es : Pods) → AreInOrder es → AreInOrder (filter p es)
unfolding IsStrictlySortedBy
filtered_in_order p [] s = s
filtered_in_order p (e ∷ es) s =
    elim (p e) as (λ b. AreInOrder (cond b (e ∷ filter p es) (filter p es))) [
      | true ↦ (all_filtered (λ y. nat_cmp e.0 y ≡ Less) p es s.0, filtered_in_order p es s.1)
      | false ↦ filtered_in_order p es s.1
    ]

with_pod_in_order : (set : SetParts) (update current : List ℕ) (pods : Pods) (pod : PodParts) → AreInOrder pods → AreInOrder (with_pod set update current pods pod)
with_pod_in_order set update current pods pod s =
    elim (ordinal_in set pod) as (λ o. AreInOrder (option_map_or (λ i. insert_entry nat_cmp pods i (replica_of set update current pod)) o pods)) [
      | None ↦ s
      | Some i ↦ inserted_in_order pods i (replica_of set update current pod) s
    ]

none_in_order : AreInOrder []
unfolding IsStrictlySortedBy
none_in_order = tt

pub listed_in_order : (set : SetParts) (update current : List ℕ) (listed : List PodParts) → AreInOrder (by_ordinal set update current listed)
unfolding by_ordinal
listed_in_order set update current [] = none_in_order
listed_in_order set update current (pod ∷ listed) = with_pod_in_order set update current (by_ordinal set update current listed) pod (listed_in_order set update current listed)

pub owned_in_order : (pods : Pods) → AreInOrder pods → AreInOrder (owned_of pods)
owned_in_order pods s = filtered_in_order (λ e. e.1.owned) pods s

-- ---- the first of a name
at_inserted : (es : Pods) (k i : ℕ) (v : Replica) → pod_at (insert_entry nat_cmp es k v) i ≡ cond (is_at (nat_cmp i) k) (Some v) (pod_at es i)
at_inserted [] k i v = refl
at_inserted (e ∷ es) k i v =
    elim (nat_cmp k e.0) as (λ r. r ≡ nat_cmp k e.0 → pod_at (match_ordering r ((k, v) ∷ e ∷ es) ((e.0, v) ∷ es) (e ∷ insert_entry nat_cmp es k v)) i ≡ cond (is_at (nat_cmp i) k) (Some v) (cond (is_at (nat_cmp i) e.0) (Some e.1) (pod_at es i))) [
      | Less ↦ λ r. refl
      | Equal ↦ λ r.
          ap (λ n. cond (is_at (nat_cmp i) n) (Some v) (pod_at es i)) (sym (ranked k e.0 Equal r))
          ∙ elim (is_at (nat_cmp i) k) as (λ b. is_at (nat_cmp i) k ≡ b → cond b (Some v) (pod_at es i) ≡ cond b (Some v) (cond (is_at (nat_cmp i) e.0) (Some e.1) (pod_at es i))) [
            | true ↦ λ t. refl
            | false ↦ λ t. sym (ap (λ b. cond b (Some e.1) (pod_at es i)) (ap (is_at (nat_cmp i)) (sym (ranked k e.0 Equal r)) ∙ t))
          ] refl
      | Greater ↦ λ r.
          let up : e.0 < k = ranked k e.0 Greater r in
          ap (cond (is_at (nat_cmp i) e.0) (Some e.1)) (at_inserted es k i v)
          ∙ elim (is_at (nat_cmp i) k) as (λ b. is_at (nat_cmp i) k ≡ b → cond (is_at (nat_cmp i) e.0) (Some e.1) (cond b (Some v) (pod_at es i)) ≡ cond b (Some v) (cond (is_at (nat_cmp i) e.0) (Some e.1) (pod_at es i))) [
            | true ↦ λ t.
                let same : i ≡ k = at_same i k t in
                ap (λ b. cond b (Some e.1) (Some v)) (at_other i e.0 (λ q. absurd (omega arith)))
            | false ↦ λ t. refl
          ] refl
    ] refl

-- the test of a map and that of numbers are one
same_test : (i k : ℕ) → is_at (nat_cmp i) k ≡ (i == k)
same_test i k =
    elim (is_at (nat_cmp i) k) as (λ b. is_at (nat_cmp i) k ≡ b → b ≡ (i == k)) [
      | true ↦ λ t. sym (eq-eqb i k (at_same i k t))
      | false ↦ λ t. sym (not_true (i == k) (λ e.
          let self : is_at (nat_cmp i) k ≡ true = ap (is_at (nat_cmp i)) (sym (eqb-true i k e)) ∙ at_self i in
          absurd (cc)))
    ] refl

pub first_counts : (set : SetParts) (update current : List ℕ) (listed : List PodParts) (i : ℕ) → pod_at (by_ordinal set update current listed) i ≡ option_map (replica_of set update current) (find (is_named set i) listed)
unfolding by_ordinal
first_counts set update current [] i = refl
first_counts set update current (pod ∷ listed) i =
    let replica : Replica = replica_of set update current pod in
    let below : Pods = by_ordinal set update current listed in
    elim (ordinal_in set pod) as (λ o. pod_at (option_map_or (λ k. insert_entry nat_cmp below k replica) o below) i ≡ option_map (replica_of set update current) (cond (option_map_or (λ j. i == j) o false) (Some pod) (find (is_named set i) listed))) [
      | None ↦ first_counts set update current listed i
      | Some k ↦
          at_inserted below k i replica
          ∙ (ap (λ b. cond b (Some replica) (pod_at below i)) (same_test i k)
          ∙ (ap (cond (i == k) (Some replica)) (first_counts set update current listed i)
          ∙ elim (i == k) as (λ b. cond b (Some replica) (option_map (replica_of set update current) (find (is_named set i) listed)) ≡ option_map (replica_of set update current) (cond b (Some pod) (find (is_named set i) listed))) [ true ↦ refl | false ↦ refl ]))
    ]

-- ---- the set's own
pub owned_was_there : (es : Pods) (i : ℕ) (y : Replica) → AreInOrder es → pod_at (owned_of es) i ≡ Some y → (pod_at es i ≡ Some y) × (y.owned ≡ true)
owned_was_there [] i y s here = absurd (cc)
owned_was_there (e ∷ es) i y s here =
    let later : pod_at (owned_of es) i ≡ Some y → (pod_at (e ∷ es) i ≡ Some y) × (y.owned ≡ true) = λ h. (let r = owned_was_there es i y (sorted_tail nat_cmp e.0 (keys_of es) s) h in (at_tail e es i y s r.0, r.1)) in
    elim (e.1.owned) as (λ b. e.1.owned ≡ b → pod_at (cond b (e ∷ owned_of es) (owned_of es)) i ≡ Some y → (pod_at (e ∷ es) i ≡ Some y) × (y.owned ≡ true)) [
      | true ↦ λ t h.
          elim (is_at (nat_cmp i) e.0) as (λ b. is_at (nat_cmp i) e.0 ≡ b → cond b (Some e.1) (pod_at (owned_of es) i) ≡ Some y → (pod_at (e ∷ es) i ≡ Some y) × (y.owned ≡ true)) [
            | true ↦ λ u k.
                let it : e.1 ≡ y = cc in
                (ap (λ b. cond b (Some e.1) (pod_at es i)) u ∙ k, ap (λ r. r.owned) (sym it) ∙ t)
            | false ↦ λ u k. later k
          ] refl h
      | false ↦ λ t h. later h
    ] refl here

pub owned_stays : (es : Pods) (i : ℕ) (y : Replica) → pod_at es i ≡ Some y → y.owned ≡ true → pod_at (owned_of es) i ≡ None → ⊥
owned_stays [] i y here own gone = absurd (cc)
owned_stays (e ∷ es) i y here own gone =
    elim (is_at (nat_cmp i) e.0) as (λ b. is_at (nat_cmp i) e.0 ≡ b → cond b (Some e.1) (pod_at es i) ≡ Some y → ⊥) [
      | true ↦ λ u k.
          let it : e.1 ≡ y = cc in
          let mine : e.1.owned ≡ true = ap (λ r. r.owned) it ∙ own in
          let still : pod_at (cond e.1.owned (e ∷ owned_of es) (owned_of es)) i ≡ Some e.1 = ap (λ b. pod_at (cond b (e ∷ owned_of es) (owned_of es)) i) mine ∙ ap (λ b. cond b (Some e.1) (pod_at (owned_of es) i)) u in
          let clash : None ≡ Some e.1 = sym gone ∙ still in
          absurd (cc)
      | false ↦ λ u k.
          let less : pod_at (owned_of es) i ≡ None = elim (e.1.owned) as (λ b. pod_at (cond b (e ∷ owned_of es) (owned_of es)) i ≡ None → pod_at (owned_of es) i ≡ None) [
            | true ↦ λ g. sym (ap (λ b. cond b (Some e.1) (pod_at (owned_of es) i)) u) ∙ g
            | false ↦ λ g. g
          ] gone in
          owned_stays es i y k own less
    ] refl here

-- ---- what is planned over
planned_over : (set : SetParts) (named pods : Pods) (found : Option (ℕ × Replica)) → unless_foreign set named found ≡ Ok pods → (found ≡ None) × (owned_of named ≡ pods)
planned_over set named pods None e = (refl, cc)
planned_over set named pods (Some x) e = absurd (cc)

-- the pods planned over are the set's own, and no pod in range is foreign
pub listed_over : (set : SetParts) (update current : List ℕ) (listed : List PodParts) (pods : Pods) → replicas_in set update current listed ≡ Ok pods → (find (is_foreign set) (by_ordinal set update current listed) ≡ None) × (owned_of (by_ordinal set update current listed) ≡ pods)
listed_over set update current listed pods e = planned_over set (by_ordinal set update current listed) pods (find (is_foreign set) (by_ordinal set update current listed)) e

pub replicas_in_order : (set : SetParts) (update current : List ℕ) (listed : List PodParts) (pods : Pods) → replicas_in set update current listed ≡ Ok pods → AreInOrder pods
replicas_in_order set update current listed pods e =
    let over = listed_over set update current listed pods e in
    subst (λ (es : Pods). AreInOrder es) over.1 (owned_in_order (by_ordinal set update current listed) (listed_in_order set update current listed))

shown_by : (set : SetParts) (update current : List ℕ) (found : Option PodParts) (y : Replica) → option_map (replica_of set update current) found ≡ Some y → (pod : PodParts) × (found ≡ Some pod) × (replica_of set update current pod ≡ y)
shown_by set update current None y e = absurd (cc)
shown_by set update current (Some pod) y e = (pod, refl, cc)

-- a pod that is planned over is listed, and the set's
pub is_listed : (set : SetParts) (update current : List ℕ) (listed : List PodParts) (pods : Pods) (i : ℕ) (y : Replica) → replicas_in set update current listed ≡ Ok pods → pod_at pods i ≡ Some y → (pod : PodParts) × (find (is_named set i) listed ≡ Some pod) × (replica_of set update current pod ≡ y) × (y.owned ≡ true)
is_listed set update current listed pods i y e here =
    let over = listed_over set update current listed pods e in
    let named : Pods = by_ordinal set update current listed in
    let r = owned_was_there named i y (listed_in_order set update current listed) (ap (λ es. pod_at es i) over.1 ∙ here) in
    let shown = shown_by set update current (find (is_named set i) listed) y (sym (first_counts set update current listed i) ∙ r.0) in
    (shown.0, shown.1, shown.2, r.1)

none_shown : (set : SetParts) (update current : List ℕ) (found : Option PodParts) → option_map (replica_of set update current) found ≡ None → found ≡ None
none_shown set update current None e = refl
none_shown set update current (Some pod) e = absurd (cc)

foreign_else : (r o : Bool) → (r && not o) ≡ false → r ≡ true → o ≡ true
foreign_else true true t u = refl
foreign_else true false t u = absurd (cc)
foreign_else false o t u = absurd (cc)

-- an ordinal in range that is absent has a name that no listed pod has
pub is_free : (set : SetParts) (update current : List ℕ) (listed : List PodParts) (pods : Pods) (i : ℕ) → replicas_in set update current listed ≡ Ok pods → in_range set i ≡ true → pod_at pods i ≡ None → find (is_named set i) listed ≡ None
is_free set update current listed pods i e within absent =
    let over = listed_over set update current listed pods e in
    let named : Pods = by_ordinal set update current listed in
    let gone : pod_at (owned_of named) i ≡ None = ap (λ es. pod_at es i) over.1 ∙ absent in
    let nowhere : pod_at named i ≡ None = elim (pod_at named i) as (λ o. pod_at named i ≡ o → o ≡ None) [
      | None ↦ λ h. refl
      | Some y ↦ λ h. absurd (owned_stays named i y h (foreign_else (in_range set i) y.owned (none_passed (is_foreign set) named i y over.0 h) within) gone)
    ] refl in
    none_shown set update current (find (is_named set i) listed) (sym (first_counts set update current listed i) ∙ nowhere)
