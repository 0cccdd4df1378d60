-- A round has few requests: a plan has at most 1,024, and a collection no more than the store has objects, each of which took a number.
use Rattle.std.proofs.Common.{◌≡◌, ◌≢◌, ◌+◌, ◌-◌, ◌≤◌, ℕ, zero, suc, Bool, true, false, cond, List, [], ◌∷◌, length, map, filter, Option, Some, None, Ok, arith, sym, ap, ◌∙◌, subst}
use Rattle.std.specs.declared.cmp.Ordering.TheVariants.{Equal}
use Rattle.std.specs.FinMap.{entries, entries-from_sorted, entries_sorted, from_sorted, get-entries, get-from_sorted, get-retain_keys, insert, len, len-empty, len-entries, len-insert, len-remove, remove, retain_keys, same_map}
use Rattle.std.specs.FinMap as finite
use Rattle.std.specs.FinMap.Entries.{find-where_key, is_sorted-where_key, where_key}
use Rattle.std.proofs.lemmas.List.{length-map}
use Rattle.std.proofs.lemmas.List.Sums.{count_by-le-length, length-filter}
use Rattle.objects.specs.declared.key.Key.{Key}
use Rattle.objects.specs.declared.kind.Kind.{Kind}
use Rattle.objects.specs.declared.kind.Kind.TheVariants.{PersistentVolumeClaim}
use Rattle.objects.specs.declared.object.Object.{Object}
use Rattle.objects.specs.Key.{key_cmp}
use Rattle.objects.specs.KeyOrder.{exact_keys, key_cmp_total}
use Rattle.requests.specs.declared.request.Request.{Request}
use Rattle.collector.specs.Collectable.{deletion}
use Rattle.plain_store.specs.Run.{after}
use Rattle.plain_store.specs.Store.{Objects, Store, collection, is_of, put_at, step}
use Rattle.plain_store.proofs.Moves.{Moves, idle, moves, raised, wrote}
use Rattle.plain_store.proofs.Past.{counter_step}
use Rattle.interleavings.specs.Log.{Log, Writing, state_at, with_writing}
use Rattle.requests.specs.Change.{kept}
use Rattle.set_views.specs.Set.{SetParts}
use Rattle.revisions.specs.Plan.{PlanParts, created, renumbered, settled}
use Rattle.sets.specs.Plan.{most_actions}
use Rattle.resting.specs.Acting.{AreWhole, IsPlannedOver, IsUnrefusedOver, MayAct, planned_requests}
use Rattle.resting.proofs.NewRevisions.{writes_created, writes_renumbered}
use Rattle.resting.proofs.RoundsOnPods.{may_send, sent, sent_is}
use Rattle.resting.proofs.StandOver.{revisions_of}

-- ---- a store's objects
put_bound : (m : Objects) (k : Key) (o : Option Object) → len (put_at m k o) ≤ len m + 1
put_bound m k None = let is = len-remove key_cmp_total m k in by (finite.contains_key m k) is
  where
    by : (b : Bool) → len (remove m k) ≡ cond b (len m - 1) (len m) → len (remove m k) ≤ len m + 1
    by true is = omega (arith, is)
    by false is = omega (arith, is)
put_bound m k (Some o) = let is = len-insert key_cmp_total m k o in by (finite.contains_key m k) is
  where
    by : (b : Bool) → len (insert m k o) ≡ cond b (len m) (len m + 1) → len (insert m k o) ≤ len m + 1
    by true is = omega (arith, is)
    by false is = omega (arith, is)

-- each took a number
abbrev pub AreFew : Store → Type 0
AreFew s = len s.objects ≤ s.counter

few_move : (s t : Store) → Moves s t → AreFew s → AreFew t
few_move s t (idle is) few = subst AreFew (sym is) few
few_move s t (wrote k now ne is) few = let more = put_bound s.objects k now in subst AreFew (sym is) (omega (arith, more, few))
few_move s t (raised n low high is) few = subst AreFew (sym is) few

pub few_after : (rs : List Request) (s : Store) → AreFew s → AreFew (after s rs)
few_after [] s few = few
few_after (r ∷ rs) s few = few_after rs (step s r).0 (few_move s (step s r).0 (moves s r) few)

pub few_at : (log : Log) (n : ℕ) → len (state_at log n) ≤ n
few_at log zero = let none = len-empty key_cmp Object in omega (arith, none)
few_at log (suc n) = by (log n) (few_at log n)
  where
    by : (o : Option Writing) → len (state_at log n) ≤ n → len (with_writing o n (state_at log n)) ≤ suc n
    by None ih = omega (arith, ih)
    by (Some t) ih = let more = put_bound (state_at log n) t.key (kept t.change (suc n)) in omega (arith, ih, more)

-- ---- a list of them
filter_bound : {X : Type 0} (p : X → Bool) (xs : List X) → length (filter p xs) ≤ length xs
filter_bound p xs = let counted = length-filter p xs in let most = count_by-le-length p xs in omega (arith, counted, most)

kept_entries : (m : Objects) (kind : Kind) (namespace : List ℕ) → entries (retain_keys m (is_of kind namespace)) ≡ where_key key_cmp (is_of kind namespace) (entries m)
kept_entries m kind namespace =
    let p = is_of kind namespace in
    let alike : (q x : Key) → key_cmp q x ≡ Equal → p x ≡ p q = λ q x tie. ap p (sym (exact_keys q x tie)) in
    let sorted = is_sorted-where_key key_cmp p (entries m) (entries_sorted m) in
    ap entries (same_map key_cmp_total exact_keys (retain_keys m p) (from_sorted (where_key key_cmp p (entries m))) (λ q.
    get-retain_keys m p q (alike q) ∙ ap (λ o. cond (p q) o None) (get-entries m q)
    ∙ sym (get-from_sorted key_cmp (where_key key_cmp p (entries m)) q sorted ∙ find-where_key key_cmp p q (alike q) (entries m))))
    ∙ entries-from_sorted key_cmp (where_key key_cmp p (entries m)) sorted

pub list_bound : (m : Objects) (kind : Kind) (namespace : List ℕ) → length (collection m kind namespace) ≤ len m
list_bound m kind namespace =
    let es = entries (retain_keys m (is_of kind namespace)) in
    let values : length (collection m kind namespace) ≡ length es = length-map es (λ (e : Key × Object). e.1) in
    let kept : length es ≡ length (filter (λ (e : Key × Object). is_of kind namespace e.0) (entries m)) = ap length (kept_entries m kind namespace) in
    let fewer = filter_bound (λ (e : Key × Object). is_of kind namespace e.0) (entries m) in
    let all = len-entries m in
    omega (arith, values, kept, fewer, all)

-- ---- the deletes of claims
pub deletes_bound : (p : Object → Bool) (s : Store) (namespace : List ℕ) → AreFew s → length (map deletion (filter p (collection s.objects PersistentVolumeClaim namespace))) ≤ s.counter
deletes_bound p s namespace few =
    let claims = collection s.objects PersistentVolumeClaim namespace in
    let same : length (map deletion (filter p claims)) ≡ length (filter p claims) = length-map (filter p claims) deletion in
    let fewer = filter_bound p claims in
    let listed = list_bound s.objects PersistentVolumeClaim namespace in
    omega (arith, same, fewer, listed, few)

-- ---- a plan, and the deletes after it
counter_bound : (rs : List Request) (s : Store) → (after s rs).counter ≤ s.counter + length rs
counter_bound [] s = omega arith
counter_bound (r ∷ rs) s = let one = (counter_step s r).1 in let rest = counter_bound rs (step s r).0 in omega (arith, one, rest)

module _ (set : SetParts) (digits : ℕ) (moment : List ℕ) (s : Store) (some : moment ≢ []) (may : MayAct set most_actions s) where
  by_parts : (parts : PlanParts) → revisions_of set digits s ≡ Ok parts → AreWhole set s parts → s.counter + length (planned_requests set digits moment s) ≤ s.capacity
  by_parts (created o) is fits = let one : length (planned_requests set digits moment s) ≡ 1 = ap length (writes_created set digits moment s o fits.0 is fits.1) in let room = may.room in omega (arith, one, room)
  by_parts (renumbered o) is fits = let one : length (planned_requests set digits moment s) ≡ 1 = ap length (writes_renumbered set digits moment s o fits.0 is fits.1) in let room = may.room in omega (arith, one, room)
  by_parts (settled all current update) is fits =
      let plan : IsPlannedOver set digits s = record { owned = all; current = current; update = update; pods = fits.0; in_place = is; fit = fits.1; whole = fits.2 } in
      let same : length (planned_requests set digits moment s) ≡ length (sent set digits moment s plan) = ap length (sent_is set digits moment s plan) in
      let room = (may_send set digits moment s plan some may).room in
      omega (arith, same, room)

  -- the requests of a plan, and of the collection over what they leave
  pub few_both : (plan : List Request) (p : Object → Bool) (namespace : List ℕ) → IsUnrefusedOver set digits s → AreFew s → plan ≡ planned_requests set digits moment s
      → length plan + length (map deletion (filter p (collection (after s plan).objects PersistentVolumeClaim namespace))) ≤ s.capacity + s.capacity
  few_both plan p namespace unrefused few same =
      let planned = by_parts unrefused.revisions unrefused.are unrefused.whole in
      let sent : length plan ≡ length (planned_requests set digits moment s) = ap length same in
      let low = counter_bound plan s in
      let gone = deletes_bound p (after s plan) namespace (few_after plan s few) in
      omega (arith, planned, sent, low, gone)
