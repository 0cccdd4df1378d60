-- The requests of a plan, carried out in the store that it was made over, change the pods of the set as its steps say.
use Rattle.std.proofs.Common.{◌≡◌, ◌≢◌, ◌==◌, ◌+◌, ◌≤◌, ◌<◌, ◌^◌, ℕ, zero, suc, true, false, cond, if◌then◌else◌, List, [], ◌∷◌, ◌++◌, length, take, drop, codes, decimal, bytes_eq, option_map, option_and_then, Option, Some, None, Ok, inl, inr, arith, refl, sym, ap, ◌∙◌, subst, true≢false}
use Rattle.std.specs.Prelude.{◌&&◌, nat_lt, nat_le}
use Rattle.std.specs.FinMap as finite
use Rattle.std.specs.List.{AllByRecursion, Contains, list_any}
use Rattle.std.specs.Option.{is_some, option_map_or}
use Rattle.std.specs.Str.{all_ascii_digits}
use Rattle.std.specs.Str.Parse.{digits_value}
use Rattle.std.proofs.Common.{length-append}
use Rattle.std.proofs.lemmas.Bool.{cases_eq, eqb-true, le-leb, lt-ltb}
use Rattle.std.proofs.lemmas.Bool.Decides.{nat_tests}
use Rattle.std.proofs.lemmas.Fmt.{digits_value-decimal}
use Rattle.std.proofs.lemmas.List.{append_assoc, drop_at, take_at}
use Rattle.std.proofs.lemmas.Option.{same_Some}
use Rattle.std.proofs.lemmas.Slice.Eq.{bytes_eq-Decides}
use Rattle.std.proofs.lemmas.Str.Parse.{IsNumeralModel, numerals_by_value, tells_all_ascii_digits}
use Rattle.objects.specs.declared.key.Key.{Key}
use Rattle.objects.specs.declared.kind.Kind.TheVariants.{PersistentVolumeClaim, Pod}
use Rattle.objects.specs.declared.object.Object.{Object}
use Rattle.objects.specs.Key.{is_key, key_parts}
use Rattle.objects.specs.Metadata.{metadata_of}
use Rattle.objects.specs.PodNames.{IsPodName, most_ordinal, pod_name}
use Rattle.objects.specs.Uid.{uid_text}
use Rattle.objects.proofs.PodNamesDiffer.{pod_names-differ}
use Rattle.requests.specs.declared.request.Request.{Request}
use Rattle.requests.specs.declared.request.Request.TheVariants.{Create, Delete}
use Rattle.requests.specs.Change.{creates as creation, stamp}
use Rattle.requests.specs.Keys.{key_named}
use Rattle.requests.specs.Verdict.{born}
use Rattle.set_views.specs.declared.readiness.Readiness.TheVariants.{NotReady}
use Rattle.set_views.specs.Pod.{PodParts}
use Rattle.set_views.specs.Set.{SetParts}
use Rattle.set_views.specs.Predicates.{in_range}
use Rattle.set_views.specs.Readiness.{readiness_of}
use Rattle.pod_steps.specs.declared.replica.Replica.{Replica}
use Rattle.pod_steps.specs.declared.step.Revision.{Revision}
use Rattle.pod_steps.specs.declared.step.Step.{Step}
use Rattle.pod_steps.specs.declared.step.Step.TheVariants.{CreatePod, DeletePod}
use Rattle.pod_steps.specs.FullSteps.{full_steps, revision_at}
use Rattle.pod_steps.specs.Listed.{replica_of, replicas_in}
use Rattle.pod_steps.specs.Replicas.{Pods, is_failed, pod_at}
use Rattle.pod_steps.specs.Step.{is_of_pod, pod_steps}
use Rattle.pod_steps.proofs.Causes.{created_is_absent, deleted}
use Rattle.pod_steps.proofs.Firsts.{is_free, is_listed, replicas_in_order}
use Rattle.pod_steps.proofs.OrderedReadyPlans.{bounds}
use Rattle.pod_steps.proofs.ParallelPlans.{some_of, stays_there, was_there}
use Rattle.plain_store.specs.AtKey.{Has}
use Rattle.plain_store.specs.Filed.{AreFiled}
use Rattle.plain_store.specs.Run.{after}
use Rattle.plain_store.specs.Store.{Store, is_of, step}
use Rattle.plain_store.proofs.KeptUids.{filed_after}
use Rattle.rounds.specs.Drafts.{draft}
use Rattle.sets.specs.Actions.{Claims, name_at, new_pod, revision_of}
use Rattle.sets.specs.FullPlan.{full_plan}
use Rattle.sets.specs.PlanOfLists.{view_of, views_of}
use Rattle.sets.specs.SplitName.{is_split, number_behind, split_name_below, split_name_in}
use Rattle.sets.proofs.FirstPods.{named_is}
use Rattle.sets.proofs.SplitNames.{found_below}
use Rattle.convergence.specs.Rounds.{creates, deletes}
use Rattle.convergence.proofs.Kept.{is_create}
use Rattle.convergence.proofs.Parallel.{has_step, is_delete}
use Rattle.resting.specs.Acting.{IsCreated, MayAct, after_steps, marked}
use Rattle.resting.proofs.Acts.{CreatesAt, DeletesIt, IsElsewhere, IsSame, made, marks_it, untouched}
use Rattle.resting.proofs.CreatedRevisions.{created_revision}
use Rattle.resting.proofs.NewPods.{is_of_revision, is_owned, is_starting, stored_pod}
use Rattle.resting.proofs.PlanLists.{PodWrite, all_by, create_sent, delete_sent, of_create, of_delete, of_other, plan_is, plan_requests, pod_key, requests_are}
use Rattle.resting.proofs.TurnsOnPods.{IsPodAt, at_store, found_at, found_by, found_some, is_called, key_is, own, own_at, pods_in, replica_with}

-- ---- the name of a pod, split
not_below : (name : List ℕ) (n k : ℕ) → split_name_below name n ≡ None → k < n → is_split name k ≡ false
not_below name zero k none low = absurd (omega arith)
not_below name (suc m) k none low =
    elim (is_split name m) as (λ b. is_split name m ≡ b → cond b (Some (take m name, number_behind name m)) (split_name_below name m) ≡ None → is_split name k ≡ false) [
      | true ↦ λ split e. let clash : true ≡ false = ap is_some e in absurd (true≢false clash)
      | false ↦ λ split e. elim (cases_eq k m) [
        | inl same ↦ ap (is_split name) same ∙ split
        | inr other ↦ not_below name m k e (omega arith)
      ]
    ] refl none

numerals : IsNumeralModel (λ ds. all_ascii_digits ds ≡ true) (digits_value 10)
numerals = numerals_by_value (λ ds. all_ascii_digits ds ≡ true) tells_all_ascii_digits

is_split_there : (name set : List ℕ) (i : ℕ) → IsPodName name set i → is_split name (length set) ≡ true
is_split_there name set i is =
    let k = length set in
    let taken : take k name ≡ set = ap (take k) (is.joined ∙ append_assoc set (codes "-") (decimal i)) ∙ take_at set (codes "-" ++ decimal i) k refl in
    let rest : drop (k + 1) name ≡ decimal i = ap (drop (k + 1)) is.joined ∙ drop_at (set ++ codes "-") (decimal i) (k + 1) (length-append set (codes "-")) in
    let number : number_behind name k ≡ i = ap (digits_value 10) rest ∙ digits_value-decimal numerals i (omega (arith, is.fits)) in
    let first : nat_lt 0 (length (take k name)) ≡ true = lt-ltb _ _ (subst (λ (l : List ℕ). 0 < length l) (sym taken) is.set_named) in
    let second : nat_le (number_behind name k) most_ordinal ≡ true = le-leb _ _ (subst (λ (n : ℕ). n ≤ most_ordinal) (sym number) is.fits) in
    let third : bytes_eq name (pod_name (take k name) (number_behind name k)) ≡ true =
    (bytes_eq-Decides name (pod_name (take k name) (number_behind name k))).1 (is.joined ∙ λ j. pod_name (sym taken j) (sym number j)) in
    λ j. first j && (second j && third j)

splits : (name set : List ℕ) (i : ℕ) → IsPodName name set i → split_name_in name ≡ Some (set, i)
unfolding split_name_in
splits name set i is =
    let long : length name ≡ length set + 1 + length (decimal i) =
    ap length is.joined ∙ length-append (set ++ codes "-") (decimal i) ∙ ap (λ n. n + length (decimal i)) (length-append set (codes "-")) in
    let shorter : length set < length name = omega arith in
    elim (split_name_in name) as (λ o. split_name_in name ≡ o → o ≡ Some (set, i)) [
      | None ↦ λ e. absurd (true≢false (sym (is_split_there name set i is) ∙ not_below name (length name) (length set) e shorter))
      | Some t ↦ λ e.
          let at = found_below name (length name) t e in
          let same = pod_names-differ t.0 set t.1 i (omega (arith, at.fits)) (omega (arith, is.fits)) (sym at.joined ∙ is.joined) in
          λ k. Some (same.0 k, same.1 k)
    ] refl

same_number : (i : ℕ) → i == i ≡ true
same_number i = grind (arith, nat_tests)

-- a key of the ordinal's name is called after it
called : (set : SetParts) (i : ℕ) → 0 < length set.object.key.name → i ≤ most_ordinal → is_called set i (pod_key set i) ≡ true
called set i named low =
    ap (λ found. option_map_or (λ (j : ℕ). i == j) (option_and_then (λ (x : List ℕ × ℕ). if bytes_eq x.0 set.object.key.name then Some x.1 else None) found) false)
    (splits (name_at set i) set.object.key.name i (record { joined = refl; set_named = named; fits = low }))
    ∙ ap (λ b. option_map_or (λ (j : ℕ). i == j) (if b then Some i else None) false) ((bytes_eq-Decides set.object.key.name set.object.key.name).1 refl)
    ∙ same_number i

low_by : (set : SetParts) (i : ℕ) (name : List ℕ) (split : Option (List ℕ × ℕ)) → ((x : List ℕ × ℕ) → split ≡ Some x → IsPodName name x.0 x.1)
    → option_map_or (λ (j : ℕ). i == j) (option_and_then (λ (x : List ℕ × ℕ). if bytes_eq x.0 set.object.key.name then Some x.1 else None) split) false ≡ true → i ≤ most_ordinal
low_by set i name None each h = absurd (true≢false (sym h))
low_by set i name (Some x) each h =
    elim (bytes_eq x.0 set.object.key.name) as (λ b. option_map_or (λ (j : ℕ). i == j) (if b then Some x.1 else None) false ≡ true → i ≤ most_ordinal) [
      | true ↦ λ e. let same : i ≡ x.1 = eqb-true i x.1 e in let fits = (each x refl).fits in omega arith
      | false ↦ λ e. absurd (true≢false (sym e))
    ] h

pub low : (set : SetParts) (i : ℕ) (k : Key) → is_called set i k ≡ true → i ≤ most_ordinal
unfolding split_name_in
low set i k h = low_by set i k.name (split_name_in k.name) (λ x e. found_below k.name (length k.name) x e) h

pub apart : (set : SetParts) (i j : ℕ) → i ≤ most_ordinal → j ≤ most_ordinal → pod_key set i ≡ pod_key set j → i ≡ j
apart set i j at_i at_j same =
    (pod_names-differ set.object.key.name set.object.key.name i j (omega arith) (omega arith) (ap (λ (k : Key). k.name) same)).1

pub filed_run : (s : Store) (rs : List Request) → AreFiled s.objects → AreFiled (after s rs).objects
filed_run s [] filed = filed
filed_run s (r ∷ rs) filed = filed_run (step s r).0 rs (filed_after s r filed)

pub key_at : (set : SetParts) (s : Store) (i : ℕ) (o : Object) → IsPodAt set s i o → o.key ≡ pod_key set i
key_at set s i o is = key_is set.object.key.namespace o.key is.0.1 ∙ ap (key_parts Pod set.object.key.namespace) (named_is set i o is.1)

fresh : Replica
fresh = record { owned = true; uid = 0; readiness = NotReady; terminating = false; updated = true; current = true }

fresh_is_created : (set : SetParts) (i : ℕ) → IsCreated set i fresh
unfolding fresh
fresh_is_created set i = record { starting = refl; staying = refl; updated = λ is. refl }

pub in_space : (set : SetParts) (i : ℕ) → is_of Pod set.object.key.namespace (pod_key set i) ≡ true
in_space set i = (bytes_eq-Decides set.object.key.namespace set.object.key.namespace).1 refl

abbrev pub Kept : Claims → Type 0
Kept claims = (name : List ℕ) (o : Object) → claims name ≡ Some o → o.key.kind ≡ PersistentVolumeClaim

module _ (set : SetParts) (claims : Claims) (owned : List Object) (current update : Object) (pods : Pods) (moment : List ℕ) (s : Store) (are : Kept claims)
    (e : replicas_in set update.key.name current.key.name (views_of set (pods_in s set.object.key.namespace)) ≡ Ok pods) (some : moment ≢ [])
    (may : MayAct set (length (plan_requests set claims (views_of set (pods_in s set.object.key.namespace)) owned current update pods moment)) s) where
  abbrev all_steps : List Step
  all_steps = full_steps set pods

  abbrev views : List PodParts
  views = views_of set (pods_in s set.object.key.namespace)

  abbrev sent : List Request
  sent = plan_requests set claims views owned current update pods moment

  abbrev end : Store
  end = after s sent

  abbrev IsSent : Request → Type 0
  IsSent = PodWrite set current update moment all_steps

  abbrev replica : PodParts → Replica
  replica = replica_of set update.key.name current.key.name

  each_is : AllByRecursion IsSent sent
  each_is = requests_are set current update moment all_steps may.kind (full_plan set claims views owned current update pods) (plan_is set claims views owned current update pods are)

  filed_end : AreFiled end.objects
  filed_end = filed_run s sent may.filed

  pub there_by : (i : ℕ) (y : Replica) → pod_at pods i ≡ Some y → (o : Object) × IsPodAt set s i o × (replica (view_of o) ≡ y) × (y.owned ≡ true)
  there_by i y at =
      let l = is_listed set update.key.name current.key.name views pods i y e at in
      let f = found_some set s i l.0 may.filed l.1 in
      (f.0, f.1, ap replica f.2 ∙ l.2, l.3)

  pod_low : (i : ℕ) (y : Replica) → pod_at pods i ≡ Some y → i ≤ most_ordinal
  pod_low i y at = let t = there_by i y at in low set i t.0.key t.1.1

  absent : (i : ℕ) (revision : Revision) → Contains all_steps (CreatePod i revision) → (in_range set i ≡ true) × (pod_at pods i ≡ None)
  absent i revision at = created_is_absent set pods i revision (replicas_in_order set update.key.name current.key.name views pods e) at

  created_low : (i : ℕ) (revision : Revision) → Contains all_steps (CreatePod i revision) → i ≤ most_ordinal
  created_low i revision at = let b = (bounds set i (absent i revision at).0).1 in let o = may.ordinals in omega (arith, b, o)

  pub deleted_pod : (i uid : ℕ) → Contains all_steps (DeletePod i uid) → (y : Replica) × (pod_at pods i ≡ Some y) × (y.uid ≡ uid)
  deleted_pod i uid at = let d = deleted set pods i uid (replicas_in_order set update.key.name current.key.name views pods e) at in (d.0, d.1, d.2)

  -- ---- a pod that is deleted
  it_deletes : (i : ℕ) (o : Object) (y : Replica) → IsPodAt set s i o → pod_at pods i ≡ Some y → replica (view_of o) ≡ y → (kind : o.key.kind ≡ Pod) → (r : Request) → IsSent r → DeletesIt o moment kind some r
  it_deletes i o y is here shown kind r (of_other other) = inl (λ same. other o.key (sym same) kind)
  it_deletes i o y is here shown kind r (of_create j revision at is_r) =
      inl (λ same.
      let keys : pod_key set i ≡ pod_key set j = sym (key_at set s i o is) ∙ same_Some o.key (pod_key set j) (same ∙ ap key_named is_r) in
      let numbers : i ≡ j = apart set i j (pod_low i y here) (created_low j revision at) keys in
      let clash : None ≡ Some y = sym (absent j revision at).1 ∙ (ap (pod_at pods) (sym numbers) ∙ here) in
      absurd (cc))
  it_deletes i o y is here shown kind r (of_delete j uid at is_r) =
      let d = deleted_pod j uid at in
      elim (i == j) as (λ b. i == j ≡ b → DeletesIt o moment kind some r) [
        | true ↦ λ tie.
            let numbers : i ≡ j = eqb-true i j tie in
            let same_pod : y ≡ d.0 = same_Some y d.0 (sym here ∙ (ap (pod_at pods) numbers ∙ d.1)) in
            let number : uid ≡ o.meta.uid = sym d.2 ∙ (ap (λ (z : Replica). z.uid) (sym same_pod) ∙ ap (λ (z : Replica). z.uid) (sym shown)) in
            let key : pod_key set j ≡ o.key = ap (pod_key set) (sym numbers) ∙ sym (key_at set s i o is) in
            inr (is_r ∙ λ k. Delete (key k) (Some (uid_text (number k))) None (Some moment))
        | false ↦ λ other.
            inl (λ same.
            let keys : pod_key set i ≡ pod_key set j = sym (key_at set s i o is) ∙ same_Some o.key (pod_key set j) (same ∙ ap key_named is_r) in
            let numbers : i ≡ j = apart set i j (pod_low i y here) (pod_low j d.0 d.1) keys in
            true≢false (sym (same_number i) ∙ (ap (λ n. i == n) numbers ∙ other)))
      ] refl

  marked_there : (i uid : ℕ) → Contains all_steps (DeletePod i uid) → (o : Object) (y : Replica) → IsPodAt set s i o → pod_at pods i ≡ Some y → replica (view_of o) ≡ y
      → (p : Object) × Has end o.key p × IsSame o p × (is_some p.meta.deletion ≡ true)
  marked_there i uid at o y is here shown =
      let d = deleted_pod i uid at in
      let key : o.key ≡ pod_key set i = key_at set s i o is in
      let kind : o.key.kind ≡ Pod = ap (λ (k : Key). k.kind) key in
      let named : is_key (pod_key set i) ≡ true = ap is_key (sym key) ∙ may.keys o.key o is.0.0 in
      let same_pod : d.0 ≡ y = same_Some d.0 y (sym d.1 ∙ here) in
      let number : uid ≡ o.meta.uid = sym d.2 ∙ ap (λ (z : Replica). z.uid) (same_pod ∙ sym shown) in
      let small : uid < 2 ^ 48 = subst (λ (n : ℕ). n < 2 ^ 48) (sym number) (may.uids o.key o is.0.0) in
      marks_it o moment kind some s sent (Delete (pod_key set i) (Some (uid_text uid)) None (Some moment)) is.0.0 may.room
      (all_by IsSent (DeletesIt o moment kind some) sent (it_deletes i o y is here shown kind) each_is)
      (delete_sent set claims views owned current update pods moment i uid at named small) (ap Some key)

  after_delete : (i uid : ℕ) → Contains all_steps (DeletePod i uid) → own_at set update.key.name current.key.name end i ≡ option_map marked (pod_at pods i)
  after_delete i uid at =
      let d = deleted_pod i uid at in
      let t = there_by i d.0 d.1 in
      let o : Object = t.0 in
      let m = marked_there i uid at o d.0 t.1 d.1 t.2 in
      let p : Object = m.0 in
      let P : Key → Type 0 = λ k. Has end k p in
      let there : IsPodAt set end i p = ((subst P (sym m.2.key) m.1, ap (is_of Pod set.object.key.namespace) m.2.key ∙ t.1.0.1), ap (is_called set i) m.2.key ∙ t.1.1) in
      let shown : replica (view_of p) ≡ marked (replica (view_of o)) =
      λ j. replica_with set update.key.name current.key.name (metadata_of (m.2.body j)) (m.2.uid j) (readiness_of (m.2.body j)) (m.3 j) in
      ap (λ x. own (option_map replica x)) (found_by set end i p filed_end there)
      ∙ (ap (λ z. own (Some z)) (shown ∙ ap marked t.2)
      ∙ (ap (λ b. if b then Some (marked d.0) else None) t.3
      ∙ sym (ap (option_map marked) d.1)))

  -- ---- a pod that is created
  abbrev Wanted : ℕ → Object → Type 0
  Wanted i o = (revision : Revision) × (revision_at set.strategy i ≡ revision) × (o ≡ new_pod set (revision_of current update revision) i)

  it_creates : (i : ℕ) (revision : Revision) → Contains all_steps (CreatePod i revision) → (r : Request) → IsSent r → CreatesAt (Wanted i) (pod_key set i) r
  it_creates i revision at r (of_other other) = inl (λ same. other (pod_key set i) (sym same) refl)
  it_creates i revision at r (of_create j chosen here is_r) =
      elim (i == j) as (λ b. i == j ≡ b → CreatesAt (Wanted i) (pod_key set i) r) [
        | true ↦ λ tie.
            let numbers : i ≡ j = eqb-true i j tie in
            inr (
              new_pod set (revision_of current update chosen) j,
              ap (pod_key set) (sym numbers),
              (chosen, ap (revision_at set.strategy) numbers ∙ created_revision set pods j chosen here, ap (new_pod set (revision_of current update chosen)) (sym numbers)),
              is_r,
            )
        | false ↦ λ other.
            inl (λ same.
            let keys : pod_key set i ≡ pod_key set j = same_Some (pod_key set i) (pod_key set j) (same ∙ ap key_named is_r) in
            let numbers : i ≡ j = apart set i j (created_low i revision at) (created_low j chosen here) keys in
            true≢false (sym (same_number i) ∙ (ap (λ n. i == n) numbers ∙ other)))
      ] refl
  it_creates i revision at r (of_delete j uid here is_r) =
      inl (λ same.
      let d = deleted_pod j uid here in
      let keys : pod_key set i ≡ pod_key set j = same_Some (pod_key set i) (pod_key set j) (same ∙ ap key_named is_r) in
      let numbers : i ≡ j = apart set i j (created_low i revision at) (pod_low j d.0 d.1) keys in
      let clash : None ≡ Some d.0 = sym (absent i revision at).1 ∙ (ap (pod_at pods) numbers ∙ d.1) in
      absurd (cc))

  pub nothing_there : (i : ℕ) (revision : Revision) → Contains all_steps (CreatePod i revision) → finite.get s.objects (pod_key set i) ≡ None
  nothing_there i revision at =
      let c = absent i revision at in
      let free : found_at set s i ≡ None = is_free set update.key.name current.key.name views pods i e c.0 c.1 in
      elim (finite.get s.objects (pod_key set i)) as (λ x. finite.get s.objects (pod_key set i) ≡ x → x ≡ None) [
        | None ↦ λ h. refl
        | Some o ↦ λ h.
            let key : o.key ≡ pod_key set i = may.filed (pod_key set i) o h in
            let P : Key → Type 0 = λ k. Has s k o in
            let is : IsPodAt set s i o = ((subst P (sym key) h, ap (is_of Pod set.object.key.namespace) key ∙ in_space set i), ap (is_called set i) key ∙ called set i may.name (created_low i revision at)) in
            let clash : None ≡ Some (view_of o) = sym free ∙ found_by set s i o may.filed is in
            absurd (cc)
      ] refl

  after_create : (i : ℕ) (revision : Revision) → Contains all_steps (CreatePod i revision) → (new : Replica) × IsCreated set i new × (own_at set update.key.name current.key.name end i ≡ Some new)
  after_create i revision at =
      let m = made (Wanted i) (pod_key set i) s sent (Create (draft (new_pod set (revision_of current update revision) i))) (nothing_there i revision at) may.room
      (all_by IsSent (CreatesAt (Wanted i) (pod_key set i)) sent (it_creates i revision at) each_is) (create_sent set claims views owned current update pods moment i revision at) refl in
      let w = m.3 in
      let of : Object = revision_of current update w.0 in
      let p : Object = stored_pod set of i m.1 in
      let P : Object → Type 0 = λ x. Has end (pod_key set i) (stamp (creation (born x)) m.1) in
      let is : IsPodAt set end i p = ((subst P w.2 m.4, in_space set i), called set i may.name (created_low i revision at)) in
      let new : Replica = replica (view_of p) in (
        new,
        record {
          starting = ap is_failed (is_starting set of i m.1);
          staying = refl;
          updated = λ h. is_of_revision set of i m.1 update.key.name (ap (λ (v : Revision). (revision_of current update v).key.name) (sym w.1 ∙ h));
        },
        ap (λ x. own (option_map replica x)) (found_by set end i p filed_end is) ∙ ap (λ b. if b then Some new else None) (is_owned set of i m.1),
      )

  -- ---- all others
  it_spares : (i : ℕ) → i ≤ most_ordinal → ((revision : Revision) → Contains all_steps (CreatePod i revision) → ⊥) → ((uid : ℕ) → Contains all_steps (DeletePod i uid) → ⊥) → (r : Request) → IsSent r → IsElsewhere (pod_key set i) r
  it_spares i small none_made none_gone r (of_other other) same = other (pod_key set i) (sym same) refl
  it_spares i small none_made none_gone r (of_create j revision at is_r) same =
      let keys : pod_key set j ≡ pod_key set i = sym (same_Some (pod_key set i) (pod_key set j) (same ∙ ap key_named is_r)) in
      let numbers : j ≡ i = apart set j i (created_low j revision at) small keys in
      none_made revision (subst (λ (n : ℕ). Contains all_steps (CreatePod n revision)) numbers at)
  it_spares i small none_made none_gone r (of_delete j uid at is_r) same =
      let d = deleted_pod j uid at in
      let keys : pod_key set j ≡ pod_key set i = sym (same_Some (pod_key set i) (pod_key set j) (same ∙ ap key_named is_r)) in
      let numbers : j ≡ i = apart set j i (pod_low j d.0 d.1) small keys in
      none_gone uid (subst (λ (n : ℕ). Contains all_steps (DeletePod n uid)) numbers at)

  after_nothing : (i : ℕ) → ((revision : Revision) → Contains all_steps (CreatePod i revision) → ⊥) → ((uid : ℕ) → Contains all_steps (DeletePod i uid) → ⊥) → found_at set end i ≡ found_at set s i
  after_nothing i none_made none_gone =
      let stays : (o : Object) → o.key ≡ pod_key set i → is_called set i o.key ≡ true → finite.get end.objects o.key ≡ finite.get s.objects o.key =
      λ o key named. ap (finite.get end.objects) key ∙ (untouched s (pod_key set i) sent (all_by IsSent (IsElsewhere (pod_key set i)) sent (it_spares i (low set i o.key named) none_made none_gone) each_is) ∙ ap (finite.get s.objects) (sym key)) in
      elim (found_at set s i) as (λ x. found_at set s i ≡ x → found_at set end i ≡ x) [
        | Some pod ↦ λ h.
            let f = found_some set s i pod may.filed h in
            let o : Object = f.0 in
            found_by set end i o filed_end ((stays o (key_at set s i o f.1) f.1.1 ∙ f.1.0.0, f.1.0.1), f.1.1) ∙ ap Some f.2
        | None ↦ λ h. elim (found_at set end i) as (λ x. found_at set end i ≡ x → x ≡ None) [
          | None ↦ λ k. refl
          | Some pod ↦ λ k.
              let f = found_some set end i pod filed_end k in
              let o : Object = f.0 in
              let clash : None ≡ Some (view_of o) = sym h ∙ found_by set s i o may.filed ((sym (stays o (key_at set end i o f.1) f.1.1) ∙ f.1.0.0, f.1.0.1), f.1.1) in
              absurd (cc)
        ] refl
      ] refl

  pub pod_after : (i : ℕ) → (new : Replica) × IsCreated set i new × (own_at set update.key.name current.key.name end i ≡ after_steps (pod_steps all_steps) i new (pod_at pods i))
  pod_after i =
      let steps = pod_steps all_steps in
      let here = pod_at pods i in
      let now = own_at set update.key.name current.key.name end i in
      elim (list_any (deletes i) steps) as (λ b. list_any (deletes i) steps ≡ b → (new : Replica) × IsCreated set i new × (now ≡ (if b then option_map marked here else if list_any (creates i) steps then Some new else here))) [
        | true ↦ λ h.
            let d = some_of (deletes i) steps h in
            let w = is_delete i d.0 d.2 in
            (fresh, fresh_is_created set i, after_delete i w.0 (subst (λ (x : Step). Contains all_steps x) w.1 (was_there is_of_pod all_steps d.0 d.1).0))
        | false ↦ λ none. elim (list_any (creates i) steps) as (λ b. list_any (creates i) steps ≡ b → (new : Replica) × IsCreated set i new × (now ≡ (if b then Some new else here))) [
          | true ↦ λ h.
              let c = some_of (creates i) steps h in
              let w = is_create i c.0 c.2 in
              after_create i w.0 (subst (λ (x : Step). Contains all_steps x) w.1 (was_there is_of_pod all_steps c.0 c.1).0)
          | false ↦ λ no.
              let none_made : (revision : Revision) → Contains all_steps (CreatePod i revision) → ⊥ =
              λ revision at. true≢false (sym (has_step (creates i) steps (CreatePod i revision) (stays_there is_of_pod all_steps (CreatePod i revision) at refl) (same_number i)) ∙ no) in
              let none_gone : (uid : ℕ) → Contains all_steps (DeletePod i uid) → ⊥ =
              λ uid at. true≢false (sym (has_step (deletes i) steps (DeletePod i uid) (stays_there is_of_pod all_steps (DeletePod i uid) at refl) (same_number i)) ∙ none) in
              (fresh, fresh_is_created set i, ap (λ x. own (option_map replica x)) (after_nothing i none_made none_gone) ∙ sym (at_store set update.key.name current.key.name s pods i e))
        ] refl
      ] refl
