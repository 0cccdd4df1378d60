-- The store that a map of versions holds: what it has at each number, and what it is after a push and a compaction.
use Rattle.std.proofs.Common.{◌≡◌, ◌≤◌, ◌<◌, ◌+◌, ◌-◌, ℕ, zero, suc, Bool, true, false, List, [], ◌∷◌, ◌++◌, drop, get_or, map, Option, IfSome, refl, sym, ap, subst, ◌∙◌, arith}
use Rattle.std.specs.Prelude.{nat_lt, if◌then◌else◌}
use Rattle.std.specs.List.{range_with_len}
use Rattle.std.specs.FinMap as finite
use Rattle.std.specs.Option.{unwrap_or}
use Rattle.std.proofs.lemmas.Bool.Decides.{nat_tests}
use Rattle.std.proofs.lemmas.List.{get_or_past}
use Rattle.std.proofs.lemmas.List.FromFn.{get_or-map-range_with_len, length-map-range_with_len, map-range_with_len_more}
use Rattle.objects.specs.declared.key.Key.{Key}
use Rattle.objects.specs.declared.object.Object.{Object}
use Rattle.objects.specs.Key.{key_cmp}
use Rattle.objects.specs.KeyOrder.{exact_keys, key_cmp_total}
use Rattle.version_map.specs.Forgotten.{AreForgotten}
use Rattle.version_map.specs.Rows.{AreBelow, state_to}
use Rattle.version_map.specs.Versions.{Versions, compacted, opening as versions_opening, pushed, raised, state_at, value, with_room}
use Rattle.version_map.proofs.Forgotten.{forgotten_above, forgotten_readings}
use Rattle.version_map.proofs.Lists.{get_state, state_left}
use Rattle.version_map.proofs.Readings.{above_compacted, above_pushed, state_before, state_next, with_row}
use Rattle.plain_store.specs.Held.{IsUpTo, store_of}
use Rattle.plain_store.specs.Store.{Objects, Store, map_at, opening, with_floor, with_next}

-- ---- lists of what there was at each number

module _ {X : Type 0} where
  alike : (f g : ℕ → X) (a n : ℕ) → ((i : ℕ) → i < a + n → a ≤ i → f i ≡ g i) → map f (range_with_len a n) ≡ map g (range_with_len a n)
  alike f g a zero same = refl
  alike f g a (suc n) same =
      ap (λ x. x ∷ map f (range_with_len (a + 1) n)) (same a (omega arith) (omega arith))
      ∙ ap (λ xs. g a ∷ xs) (alike f g (a + 1) n (λ i within from. same i (omega arith) (omega arith)))

  dropped : (f : ℕ → X) (a n k b m : ℕ) → a + k ≡ b → k + m ≡ n → drop k (map f (range_with_len a n)) ≡ map f (range_with_len b m)
  dropped f a n zero b m begin rest = let same : a ≡ b = omega arith in let all : n ≡ m = omega arith in ap (λ c. map f (range_with_len c n)) same ∙ ap (λ c. map f (range_with_len b c)) all
  dropped f a zero (suc k) b m begin rest = absurd (omega arith)
  dropped f a (suc n) (suc k) b m begin rest = dropped f (a + 1) n k b m (omega arith) (omega arith)

-- ---- what there was at a number

pub map_at_is : (v : Versions Object) (counter capacity n : ℕ) → v.floor ≤ n → n ≤ counter → map_at (store_of v counter capacity) n ≡ state_at v.rows n
map_at_is v counter capacity n from upto = by (nat_lt n counter) refl
  where
    past : List Objects
    past = map (state_at v.rows) (range_with_len v.floor (counter - v.floor))

    by : (b : Bool) → nat_lt n counter ≡ b → get_or past (n - v.floor) (state_at v.rows counter) ≡ state_at v.rows n
    by true is =
        let before : n < counter = grind (arith, nat_tests) in
        get_or-map-range_with_len (state_at v.rows) v.floor (counter - v.floor) (n - v.floor) n (state_at v.rows counter) (omega (arith, before)) (omega arith)
    by false is =
        let behind : counter ≤ n = grind (arith, nat_tests) in
        let now : counter ≡ n = omega (arith, behind) in
        let many = length-map-range_with_len (state_at v.rows) v.floor (counter - v.floor) in
        get_or_past past (n - v.floor) (state_at v.rows counter) (omega (arith, many, behind)) ∙ ap (state_at v.rows) now

pub present_is : (v : Versions Object) (counter capacity : ℕ) (s : Store) → IsUpTo v counter → store_of v counter capacity ≡ s → map_at s counter ≡ s.objects
present_is v counter capacity s up is =
    sym (ap (λ t. map_at t counter) is) ∙ map_at_is v counter capacity counter up.floor (omega arith) ∙ ap (λ (t : Store). t.objects) is

pub found_is : (v : Versions Object) (counter capacity : ℕ) (s : Store) (k : Key) → store_of v counter capacity ≡ s → value v.rows counter k ≡ finite.get s.objects k
found_is v counter capacity s k is = sym (get_state v.rows counter k) ∙ ap (λ (t : Store). finite.get t.objects k) is

-- ---- what a push leaves

abbrev store : Objects → List Objects → (counter capacity floor : ℕ) → Store
store objects past counter capacity floor = record { objects = objects; counter = counter; capacity = capacity; floor = floor; past = past }

module _ (v w : Versions Object) (counter capacity : ℕ) (k : Key) (s : Option Object) (up : IsUpTo v counter) (is : w ≡ pushed v (counter + 1) k s) where
  past_pushed : map (state_at (with_row v.rows k (counter + 1) s)) (range_with_len v.floor (counter + 1 - v.floor))
      ≡ map (state_at v.rows) (range_with_len v.floor (counter - v.floor)) ++ state_at v.rows counter ∷ []
  past_pushed =
      let low = up.floor in
      let more : counter + 1 - v.floor ≡ counter - v.floor + 1 = omega (arith, low) in
      let new = state_at (with_row v.rows k (counter + 1) s) in
      ap (λ n. map new (range_with_len v.floor n)) more
      ∙ map-range_with_len_more new v.floor (counter - v.floor) counter (omega (arith, low))
      ∙ ap (λ os. os ++ new counter ∷ []) (alike new (state_at v.rows) v.floor (counter - v.floor) (λ i within from. state_before v.rows k (counter + 1) i s (omega (arith, low))))
      ∙ ap (λ o. map (state_at v.rows) (range_with_len v.floor (counter - v.floor)) ++ o ∷ []) (state_before v.rows k (counter + 1) counter s (omega arith))

  pub pushed_is : store_of w (counter + 1) capacity ≡ with_next (store_of v counter capacity) k s
  pushed_is =
      ap (λ u. store_of u (counter + 1) capacity) is
      ∙ ap (λ o. store o (map (state_at (with_row v.rows k (counter + 1) s)) (range_with_len v.floor (counter + 1 - v.floor))) (counter + 1) capacity v.floor) (state_next v.rows k counter s up.rows)
      ∙ ap (λ past. store (with_next (store_of v counter capacity) k s).objects past (counter + 1) capacity v.floor) past_pushed

  pub pushed_up : IsUpTo w (counter + 1)
  pushed_up = subst (λ u. IsUpTo u (counter + 1)) (sym is) (record {
    floor = let low = up.floor in omega (arith, low);
    rows = above_pushed v.rows k (counter + 1) s up.rows;
  })

-- ---- what a compaction leaves

module _ (v w : Versions Object) (counter capacity n : ℕ) (up : IsUpTo v counter) (from : v.floor ≤ n) (upto : n ≤ counter) (is : w ≡ raised v n) where
  raised_is : w ≡ record { rows = compacted v.rows n; floor = n; room = v.room }
  raised_is = let not_below : nat_lt n v.floor ≡ false = grind (arith, nat_tests) in is ∙ ap (λ b. if b then v else record { rows = compacted v.rows n; floor = n; room = v.room }) not_below

  past_raised : map (state_at (compacted v.rows n)) (range_with_len n (counter - n)) ≡ drop (n - v.floor) (map (state_at v.rows) (range_with_len v.floor (counter - v.floor)))
  past_raised =
      alike (state_at (compacted v.rows n)) (state_at v.rows) n (counter - n) (λ i within low. state_left v.rows n i low)
      ∙ sym (dropped (state_at v.rows) v.floor (counter - v.floor) (n - v.floor) n (counter - n) (omega arith) (omega arith))

  pub compacted_is : store_of w counter capacity ≡ with_floor (store_of v counter capacity) n
  compacted_is =
      ap (λ u. store_of u counter capacity) raised_is
      ∙ ap (λ o. store o (map (state_at (compacted v.rows n)) (range_with_len n (counter - n))) counter capacity n) (state_left v.rows n counter upto)
      ∙ ap (λ past. store (state_at v.rows counter) past counter capacity n) past_raised

  pub compacted_up : IsUpTo w counter
  compacted_up = subst (λ u. IsUpTo u counter) (sym raised_is) (record { floor = upto; rows = above_compacted v.rows n (counter + 1) up.rows })

-- ---- what is left once keys are forgotten

module _ (v w : Versions Object) (counter capacity : ℕ) (forgotten : AreForgotten v w) where
  pub forgotten_is : store_of w counter capacity ≡ store_of v counter capacity
  forgotten_is =
      ap (λ n. store (state_at w.rows counter) (map (state_at w.rows) (range_with_len n (counter - n))) counter capacity n) forgotten.floor
      ∙ ap (λ o. store o (map (state_at w.rows) (range_with_len v.floor (counter - v.floor))) counter capacity v.floor) (forgotten_readings v w counter forgotten)
      ∙ ap (λ past. store (state_at v.rows counter) past counter capacity v.floor)
      (alike (state_at w.rows) (state_at v.rows) v.floor (counter - v.floor) (λ i within from. forgotten_readings v w i forgotten))

  pub forgotten_up : IsUpTo v counter → IsUpTo w counter
  forgotten_up up = record {
    floor = subst (λ n. n ≤ counter) (sym forgotten.floor) up.floor;
    rows = forgotten_above v w (counter + 1) forgotten up.rows;
  }

-- a push of the key that room was made for
pub pushed_there : (v u w : Versions Object) (n : ℕ) (k : Key) (s : Option Object) → u ≡ with_room v k → IfSome u.room (λ key. w ≡ pushed u n key s) → w ≡ pushed v n k s
pushed_there v u w n k s is given = subst (λ x. IfSome x.room (λ key. w ≡ pushed x n key s)) is given

-- ---- as the store opens

none_at : state_at {X = Object} finite.empty 0 ≡ finite.empty
none_at = finite.same_map key_cmp_total exact_keys _ _ (λ q.
    get_state finite.empty 0 q ∙ ap (λ o. state_to 0 (unwrap_or o [])) (finite.get-empty key_cmp q) ∙ sym (finite.get-empty key_cmp q))

pub opened_is : (v : Versions Object) (capacity : ℕ) → v ≡ versions_opening → store_of v 0 capacity ≡ opening capacity
opened_is v capacity is = ap (λ u. store_of u 0 capacity) is ∙ ap (λ o. store o [] 0 capacity 0) none_at

pub opened_up : (v : Versions Object) → v ≡ versions_opening → IsUpTo v 0
opened_up v is = subst (λ u. IsUpTo u 0) (sym is) (record {
  floor = omega arith;
  rows = λ k. subst (λ o. AreBelow {X = Object} 1 (unwrap_or o [])) (sym (finite.get-empty key_cmp k)) tt;
})
