-- Tombstones: two maps of slots as one, and what no list of values misses.
use Rattle.std.proofs.Common.{◌≡◌, ◌≢◌, ℕ, ◌≤◌, Bool, true, false, cond, List, [], ◌∷◌, Option, Some, None, option_and_then, IfSome, refl, sym, ap, ◌∙◌, arith}
use Rattle.std.specs.Prelude.{nat_le, drop, get_or, is_some}
use Rattle.std.proofs.Math.ListN.{set}
use Rattle.std.specs.Option.{option_map_or, option_or}
use Rattle.std.specs.Ordering.{eq_by_cmp}
use Rattle.std.specs.FinMap.{empty, get, get-empty, get-insert, get-remove, insert, remove, same_map}
use Rattle.std.proofs.lemmas.Option.{none-some, same_Some}
use Rattle.objects.specs.declared.key.Key.{Key}
use Rattle.objects.specs.declared.kind.Kind.{Kind}
use Rattle.objects.specs.Key.{key_cmp}
use Rattle.objects.specs.KeyOrder.{exact_keys, key_cmp_total}
use Rattle.version_map.specs.Index.{AreKept, AreWithin, Index, index_with, no_keys, with_key}
use Rattle.version_map.specs.Keyed.{collection}
use Rattle.version_map.specs.Named.{KeySlots, both}
use Rattle.version_map.specs.Rows.{Chain, Row, row_to, state_to}
use Rattle.version_map.specs.Versions.{RowsByKey, rows_at, state_at, value}
use Rattle.version_map.specs.Consistent.{AreListed, HaveSlots, Chains, IsListed, IsConsistent, by_key, rows_in, rows_there, values_in, waiting}
use Rattle.version_map.specs.declared.map.Superseding.{Superseding}
use Rattle.version_map.proofs.Chains.{own_key, rows_are, same_key}
use Rattle.version_map.proofs.Lists.{collection_is, get_state}
use Rattle.version_map.proofs.Named.{get_both}
use Rattle.version_map.proofs.SlotChains.{chain_found}
use Rattle.version_map.proofs.Steps.{owner_there, rows_after, rows_of_key, second_there}

-- ---- two maps as one

module _ (l a : KeySlots) (k : Key) (p : ℕ) where
  pub both_put : both (insert l k p) a ≡ insert (both l a) k p
  both_put = same_map key_cmp_total exact_keys _ _ (λ q.
      get_both (insert l k p) a q ∙ ap (λ o. option_or o (get a q)) (get-insert key_cmp_total l k p q) ∙ by q (eq_by_cmp key_cmp q k)
      ∙ ap (cond (eq_by_cmp key_cmp q k) (Some p)) (sym (get_both l a q)) ∙ sym (get-insert key_cmp_total (both l a) k p q))
    where
      by : (q : Key) (b : Bool) → option_or (cond b (Some p) (get l q)) (get a q) ≡ cond b (Some p) (option_or (get l q) (get a q))
      by q true = refl
      by q false = refl

  pub both_with_tombstone : Some p ≡ get l k → both (remove l k) (insert a k p) ≡ both l a
  both_with_tombstone there = same_map key_cmp_total exact_keys _ _ (λ q.
      get_both (remove l k) (insert a k p) q ∙ ap (λ o. option_or o (get (insert a k p) q)) (get-remove key_cmp_total l k q)
      ∙ ap (option_or (cond (eq_by_cmp key_cmp q k) None (get l q))) (get-insert key_cmp_total a k p q) ∙ by q (eq_by_cmp key_cmp q k) refl ∙ sym (get_both l a q))
    where
      by : (q : Key) (b : Bool) → eq_by_cmp key_cmp q k ≡ b → option_or (cond b None (get l q)) (cond b (Some p) (get a q)) ≡ option_or (get l q) (get a q)
      by q true tie = ap (λ o. option_or o (get a q)) (there ∙ ap (get l) (sym (same_key q k tie)))
      by q false tie = refl

  -- in the map `listed` the key is put, and `tombstones` loses it
  pub both_without_tombstone : None ≡ get l k → Some p ≡ get a k → both (insert l k p) (remove a k) ≡ both l a
  both_without_tombstone none there = same_map key_cmp_total exact_keys _ _ (λ q.
      get_both (insert l k p) (remove a k) q ∙ ap (λ o. option_or o (get (remove a k) q)) (get-insert key_cmp_total l k p q)
      ∙ ap (option_or (cond (eq_by_cmp key_cmp q k) (Some p) (get l q))) (get-remove key_cmp_total a k q) ∙ by q (eq_by_cmp key_cmp q k) refl ∙ sym (get_both l a q))
    where
      by : (q : Key) (b : Bool) → eq_by_cmp key_cmp q k ≡ b → option_or (cond b (Some p) (get l q)) (cond b None (get a q)) ≡ option_or (get l q) (get a q)
      by q true tie = there ∙ ap (get a) (sym (same_key q k tie)) ∙ sym (ap (λ o. option_or o (get a q)) (ap (get l) (same_key q k tie) ∙ sym none))
      by q false tie = refl

  pub put_here : get (insert l k p) k ≡ Some p
  put_here = get-insert key_cmp_total l k p k ∙ ap (λ b. cond b (Some p) (get l k)) (own_key k)

  -- a key that had no other slot gets one
  pub put_keeps : (None ≡ get l k) → AreKept l (insert l k p)
  put_keeps none q n there = get-insert key_cmp_total l k p q ∙ by (eq_by_cmp key_cmp q k) refl
    where
      by : (b : Bool) → eq_by_cmp key_cmp q k ≡ b → cond b (Some p) (get l q) ≡ Some n
      by true tie = absurd (none-some n (none ∙ ap (get l) (sym (same_key q k tie)) ∙ there))
      by false tie = there

  pub removed_others : (q : Key) → q ≢ k → get (remove l k) q ≡ get l q
  removed_others q other = get-remove key_cmp_total l k q ∙ by (eq_by_cmp key_cmp q k) refl
    where
      by : (b : Bool) → eq_by_cmp key_cmp q k ≡ b → cond b None (get l q) ≡ get l q
      by true tie = absurd (other (same_key q k tie))
      by false tie = refl

abbrev pub index_at : (all listed : KeySlots) → Index
index_at all listed = record { all = all; listed = listed }

pub none_both : both empty empty ≡ empty
none_both = same_map key_cmp_total exact_keys (both empty empty) empty (λ q. get_both empty empty q ∙ ap (λ o. option_or o (get {R = key_cmp} empty q)) (get-empty key_cmp q))

-- what is found in either
module _ (l a : KeySlots) (k : Key) where
  pub got_listed : (p : ℕ) → Some p ≡ get l k → Some p ≡ get (both l a) k
  got_listed p there = sym (get_both l a k ∙ ap (λ o. option_or o (get a k)) (sym there))

  pub got_tombstone : None ≡ get l k → get a k ≡ get (both l a) k
  got_tombstone none = sym (get_both l a k ∙ ap (λ o. option_or o (get a k)) (sym none))

  pub index_put : (p : ℕ) → index_with (insert l k p) a ≡ with_key (index_with l a) k p
  index_put p = ap (λ all. index_at all (insert l k p)) (both_put l a k p)

pub both_within : (l a : KeySlots) → AreWithin (index_with l a)
both_within l a k p there = get_both l a k ∙ ap (λ o. option_or o (get a k)) there

-- a key with room is listed still
pub room_listed : (i j : Index) (room : Option ℕ) → AreKept i.all j.all → AreKept i.listed j.listed → IfSome room (IsListed i) → IfSome room (IsListed j)
room_listed i j None all listed has = tt
room_listed i j (Some p) all listed has = (has.0, all has.0 p has.1, listed has.0 p has.2)

-- and so is one that lies in another slot than the key that is listed no more
pub room_beside : (i j : Index) (room : Option ℕ) (k : Key) (p : ℕ) → j.all ≡ i.all → get i.all k ≡ Some p → IfSome room (λ q. q ≢ p)
    → ((q : Key) → q ≢ k → get j.listed q ≡ get i.listed q) → IfSome room (IsListed i) → IfSome room (IsListed j)
room_beside i j None k p all there other others has = tt
room_beside i j (Some q) k p all there other others has =
    (has.0, ap (λ ps. get ps has.0) all ∙ has.1, others has.0 (λ same. other (same_Some q p (sym has.1 ∙ ap (get i.all) same ∙ there))) ∙ has.2)

pub none_from : {A : Type 0} (o : Option A) → is_some o ≡ false → o ≡ None
none_from None is = refl
none_from (Some x) is = cc

-- ---- keys that are not listed have no value

module _ {X : Type 0} where
  -- so a list of the listed keys' values has all
  pub listed_is : (since n : ℕ) (i : Index) (cs : Chains X) (m : RowsByKey X) (kind : Kind) (namespace : List ℕ) → AreListed since i cs → AreWithin i → by_key i.all cs ≡ m → since ≤ n
      → values_in n cs (collection i.listed kind namespace) ≡ collection (state_at m n) kind namespace
  listed_is since n i cs m kind namespace listed within is from =
      collection_is n i.listed cs (by_key i.listed cs) kind namespace refl
      ∙ ap (λ s. collection s kind namespace) (same_map key_cmp_total exact_keys (state_at (by_key i.listed cs) n) (state_at m n) (λ q.
      get_state (by_key i.listed cs) n q ∙ ap (state_to n) (rows_are i.listed cs q) ∙ by q (get i.listed q) refl
      ∙ sym (get_state m n q ∙ ap (state_to n) (rows_of q))))
    where
      rows_of : (q : Key) → rows_at m q ≡ rows_in i.all cs q
      rows_of q = ap (λ r. rows_at r q) (sym is) ∙ rows_are i.all cs q

      by : (q : Key) (o : Option ℕ) → get i.listed q ≡ o → state_to n (option_map_or (rows_there cs) o []) ≡ state_to n (rows_in i.all cs q)
      by q (Some p) there = ap (λ o. state_to n (option_map_or (rows_there cs) o [])) (sym (within q p there))
      by q None there = sym (listed q there n from)

  -- with the same rows and at least as many listed
  pub listed_still : (since : ℕ) (i j : Index) (cs ds : Chains X) → ((k : Key) → rows_in j.all ds k ≡ rows_in i.all cs k) → AreKept i.listed j.listed → AreListed since i cs → AreListed since j ds
  listed_still since i j cs ds same kept listed q none n from = ap (state_to n) (same q) ∙ by (get i.listed q) refl
    where
      by : (o : Option ℕ) → get i.listed q ≡ o → state_to n (rows_in i.all cs q) ≡ None
      by None there = listed q there n from
      by (Some p) there = absurd (none-some p (sym none ∙ kept q p there))

  -- another chain of a key: it is listed, or says nothing either
  pub listed_written : (since : ℕ) (i : Index) (cs ds : Chains X) (k : Key) (rows : List (Row X)) → ((q : Key) → rows_in i.all ds q ≡ cond (eq_by_cmp key_cmp k q) rows (rows_in i.all cs q))
      → (get i.listed k ≡ None → (n : ℕ) → since ≤ n → state_to n rows ≡ None) → AreListed since i cs → AreListed since i ds
  listed_written since i cs ds k rows after fits listed q none n from = ap (state_to n) (after q) ∙ by (eq_by_cmp key_cmp k q) refl
    where
      by : (b : Bool) → eq_by_cmp key_cmp k q ≡ b → state_to n (cond b rows (rows_in i.all cs q)) ≡ None
      by true tie = fits (ap (get i.listed) (same_key k q tie) ∙ none) n from
      by false tie = listed q none n from

  -- a key that has no value from a number on is listed no more
  pub listed_with_tombstone : (since later : ℕ) (i j : Index) (cs : Chains X) (m : RowsByKey X) (k : Key) → since ≤ later → j.all ≡ i.all → by_key i.all cs ≡ m
      → ((n : ℕ) → later ≤ n → value m n k ≡ None) → ((q : Key) → q ≢ k → get j.listed q ≡ get i.listed q) → AreListed since i cs → AreListed later j cs
  listed_with_tombstone since later i j cs m k more all is empty others listed q none n from = ap (λ ps. state_to n (rows_in ps cs q)) all ∙ by (eq_by_cmp key_cmp q k) refl
    where
      by : (b : Bool) → eq_by_cmp key_cmp q k ≡ b → state_to n (rows_in i.all cs q) ≡ None
      by true tie = sym (ap (λ rs. value rs n q) (sym is) ∙ ap (state_to n) (rows_are i.all cs q)) ∙ ap (value m n) (same_key q k tie) ∙ empty n from
      by false tie = listed q (sym (others q (λ same. let both : true ≡ false = sym (ap (λ x. eq_by_cmp key_cmp x k) same ∙ own_key k) ∙ tie in cc)) ∙ none) n (omega arith)

  pub none_listed : (since : ℕ) (i : Index) (cs : Chains X) → i ≡ no_keys → AreListed since i cs
  none_listed since i cs is k none n from = ap (λ (j : Index). state_to n (rows_in j.all cs k)) is ∙ ap (λ o. state_to n (option_map_or (rows_there cs) o [])) (get-empty key_cmp k)

  -- a push, to a key that is listed
  pub listed_pushed : (since : ℕ) (i : Index) (cs : Chains X) (p : ℕ) (d : Chain X) → HaveSlots i.all cs → IsListed i p → AreListed since i cs → AreListed since i (set cs p d)
  listed_pushed since i cs p d slotted has =
      listed_written since i cs (set cs p d) has.0 d.rows (rows_after i.all cs (set cs p d) p d has.0 slotted has.1 refl) (λ none. absurd (none-some p (sym none ∙ has.2)))

  -- what says nothing says nothing without its first row
  state_dropped : (n : ℕ) (rows : List (Row X)) → state_to n rows ≡ None → state_to n (drop 1 rows) ≡ None
  state_dropped n [] none = refl
  state_dropped n (r ∷ rs) none = by (row_to n rs) refl
    where
      by : (o : Option (Row X)) → row_to n rs ≡ o → state_to n rs ≡ None
      by None is = ap (option_and_then (λ (x : Row X). x.1)) is
      by (Some x) is = ap (option_and_then (λ (y : Row X). y.1)) is ∙ sym (ap (λ o. option_and_then (λ (y : Row X). y.1) (option_or o (cond (nat_le r.0 n) (Some r) None))) is) ∙ none

  -- and a first row that is dropped
  pub listed_dropped : (since : ℕ) (i : Index) (cs : Chains X) (ss rest : List Superseding) (many : ℕ) (t : Superseding) → IsConsistent i.all cs ss many → ss ≡ t ∷ rest
      → (c d : Chain X) → c ≡ get_or cs t.slot c → d.rows ≡ drop 1 c.rows → AreListed since i cs → AreListed since i (set cs t.slot d)
  listed_dropped since i cs ss rest many t consistent front c d read rows listed =
      let second = second_there i.all cs ss rest many t consistent front in
      let owner = owner_there i.all cs t.slot t.number (waiting t.slot rest) consistent.slotted second in
      let fewer : d.rows ≡ drop 1 (rows_in i.all cs owner.0) =
      rows ∙ ap (λ (x : Chain X). drop 1 x.rows) (chain_found cs t.slot c (consistent.slotted.within owner.0 t.slot owner.1) read)
      ∙ ap (drop 1) (sym (rows_of_key i.all cs owner.0 t.slot owner.1)) in
      listed_written since i cs (set cs t.slot d) owner.0 d.rows (rows_after i.all cs (set cs t.slot d) t.slot d owner.0 consistent.slotted owner.1 refl)
      (λ none n from. ap (state_to n) fewer ∙ state_dropped n (rows_in i.all cs owner.0) (listed owner.0 none n from)) listed
