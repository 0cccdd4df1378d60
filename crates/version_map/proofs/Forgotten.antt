-- Keys that are forgotten, and slots that new keys take again.
use Rattle.std.proofs.Common.{◌≡◌, ◌≢◌, ℕ, ◌+◌, ◌<◌, ◌-◌, ◌==◌, Bool, true, false, cond, List, [], ◌∷◌, ◌++◌, length, drop, ◌⊎◌, inl, inr, Option, Some, None, option_and_then, slice_index_or, refl, sym, ap, subst, ◌∙◌, arith}
use Rattle.std.specs.Prelude.{get_or, is_some, nat_le, IfSome, IsSome}
use Rattle.std.proofs.Math.ListN.{length-set, set}
use Rattle.std.specs.List.{AllByRecursion}
use Rattle.std.specs.Borrow.{Bor}
use Rattle.std.specs.Option.{option_copied, option_map_or, option_or}
use Rattle.std.specs.Ordering.{eq_by_cmp}
use Rattle.std.specs.FinMap.{get, get-insert, get-remove, insert, remove, same_map}
use Rattle.std.proofs.lemmas.Bool.Decides.{nat_tests}
use Rattle.std.proofs.lemmas.Option.{none-some, same_Some}
use Rattle.objects.specs.declared.key.Key.{Key}
use Rattle.objects.specs.Key.{key_cmp}
use Rattle.objects.specs.KeyOrder.{exact_keys, key_cmp_total}
use Rattle.version_map.specs.declared.chain.Record.{Record}
use Rattle.version_map.specs.declared.map.Superseding.{Superseding}
use Rattle.version_map.specs.Forgotten.{AreForgotten, AreFree, IsRemoval}
use Rattle.version_map.specs.Index.{Index}
use Rattle.version_map.specs.Named.{both}
use Rattle.version_map.specs.Records.{rows_of}
use Rattle.version_map.specs.Rows.{AreBelow, Chain, Row, state_to}
use Rattle.version_map.specs.Versions.{IsAbove, RowsByKey, Versions, count, rows_at, state_at, value}
use Rattle.version_map.specs.Consistent.{AreListed, HaveSlots, AreStill, Chains, IsOwned, IsConsistent, KeySlots, by_key, numbers, rows_in, rows_there, waiting}
use Rattle.version_map.proofs.Chains.{count_written, get_rows, own_key, rows_are, same_key, some_rows, swap}
use Rattle.version_map.proofs.Lists.{get_state}
use Rattle.version_map.proofs.Named.{get_both}
use Rattle.version_map.proofs.SlotChains.{as_many, chain_found, each_chain}
use Rattle.version_map.proofs.Rows.{all_more}
use Rattle.version_map.proofs.Steps.{room_key, rows_after, rows_of_key, seen}

-- a key without a slot, and the others with theirs
module _ (ps : KeySlots) (k r : Key) where
  left_at : (q : ℕ) → get (remove ps k) r ≡ Some q → (eq_by_cmp key_cmp r k ≡ false) × (get ps r ≡ Some q)
  left_at q at = by (eq_by_cmp key_cmp r k) refl
    where
      by : (b : Bool) → eq_by_cmp key_cmp r k ≡ b → (eq_by_cmp key_cmp r k ≡ false) × (get ps r ≡ Some q)
      by true tie = absurd (none-some q (sym (get-remove key_cmp_total ps k r ∙ ap (λ b. cond b None (get ps r)) tie) ∙ at))
      by false tie = (tie, sym (get-remove key_cmp_total ps k r ∙ ap (λ b. cond b None (get ps r)) tie) ∙ at)

  left_with : eq_by_cmp key_cmp r k ≡ false → get (remove ps k) r ≡ get ps r
  left_with other = get-remove key_cmp_total ps k r ∙ ap (λ b. cond b None (get ps r)) other

-- of two maps as one
pub both_removed : (l a : KeySlots) (k : Key) → both (remove l k) (remove a k) ≡ remove (both l a) k
both_removed l a k = same_map key_cmp_total exact_keys _ _ (λ q.
    get_both (remove l k) (remove a k) q ∙ ap (λ o. option_or o (get (remove a k) q)) (get-remove key_cmp_total l k q)
    ∙ ap (option_or (cond (eq_by_cmp key_cmp q k) None (get l q))) (get-remove key_cmp_total a k q) ∙ by q (eq_by_cmp key_cmp q k)
    ∙ ap (cond (eq_by_cmp key_cmp q k) None) (sym (get_both l a q)) ∙ sym (get-remove key_cmp_total (both l a) k q))
  where
    by : (q : Key) (b : Bool) → option_or (cond b None (get l q)) (cond b None (get a q)) ≡ cond b None (option_or (get l q) (get a q))
    by q true = refl
    by q false = refl

-- a chain's records that are one removal
pub removal_is : {X : Type 0} (older : List (Record X)) (newest : Option (Record X)) (r : Record X) → Some r ≡ newest → length older ≡ 0 → is_some r.state ≡ false → IsRemoval (rows_of older newest)
removal_is older newest r is none removed = subst (λ o. IsRemoval (rows_of older o)) is (by older none r.state refl removed)
  where
    by : (rs : List (Record _)) → length rs ≡ 0 → (state : Option _) → r.state ≡ state → is_some r.state ≡ false → IsRemoval (rows_of rs (Some r))
    by (x ∷ rs) some state is removed = absurd (omega (arith, some))
    by [] none None state removed = (r.number, ap (λ o. (r.number, o) ∷ []) state)
    by [] none (Some x) state removed = let both : true ≡ false = sym (ap is_some state) ∙ removed in absurd cc

-- ---- slots that no key has

module _ (ps : KeySlots) (k : Key) (p many : ℕ) where
  free_with : (free : List ℕ) → AllByRecursion (λ q. q ≢ p) free → AreFree ps many free → AreFree (insert ps k p) many free
  free_with [] other h = tt
  free_with (q ∷ free) other h = (h.0, λ r at. still r at (eq_by_cmp key_cmp r k) refl, h.2, free_with free other.1 h.3)
    where
      still : (r : Key) → get (insert ps k p) r ≡ Some q → (b : Bool) → eq_by_cmp key_cmp r k ≡ b → ⊥
      still r at true tie = other.0 (sym (same_Some p q (sym (get-insert key_cmp_total ps k p r ∙ ap (λ b. cond b (Some p) (get ps r)) tie) ∙ at)))
      still r at false tie = h.1 r (sym (get-insert key_cmp_total ps k p r ∙ ap (λ b. cond b (Some p) (get ps r)) tie) ∙ at)

  pub free_taken : (free : List ℕ) → AreFree ps many (p ∷ free) → AreFree (insert ps k p) many free
  free_taken free h = free_with free h.2 h.3

  module _ (there : get ps k ≡ Some p) (within : p < many) (apart : (r q : Key) (n : ℕ) → get ps r ≡ Some n → get ps q ≡ Some n → r ≡ q) where
    pub free_more : (free : List ℕ) → AreFree ps many free → AreFree (remove ps k) many (free ++ p ∷ [])
    free_more [] h = (within, λ r at. lone r at, tt, tt)
      where
        lone : (r : Key) → get (remove ps k) r ≡ Some p → ⊥
        lone r at =
            let was = left_at ps k r p at in
            let both : true ≡ false = sym (own_key r) ∙ ap (eq_by_cmp key_cmp r) (apart r k p was.1 there) ∙ was.0 in cc
    free_more (q ∷ free) h = (h.0, λ r at. h.1 r (left_at ps k r q at).1, all_more (λ n. n ≢ q) free p h.2 (λ same. h.1 k (there ∙ ap Some same)), free_more free h.3)

-- another chain at a slot leaves as many
pub same_free : {X : Type 0} (ps : KeySlots) (cs : Chains X) (p : ℕ) (d : Chain X) (free : List ℕ) → AreFree ps (length cs) free → AreFree ps (length (set cs p d)) free
same_free ps cs p d free are = subst (λ n. AreFree ps n free) (sym (length-set cs p d)) are

pub first_free : (free : List ℕ) (p : ℕ) → 0 < length free → p ≡ slice_index_or free 0 p → free ≡ p ∷ drop 1 free
first_free [] p some is = absurd (omega (arith, some))
first_free (x ∷ free) p some is = ap (λ y. y ∷ free) (sym is)

-- the first one, as it is looked at and taken out
pub first_taken : (free rest : List ℕ) (front : Option (Bor ℕ)) (p : ℕ) → (IsSome front → 0 < length free) → IfSome front (λ x. x.now ≡ slice_index_or free 0 x.now) → option_copied front ≡ Some p → rest ≡ drop 1 free
    → free ≡ p ∷ rest
first_taken free rest None p some lookup is tail = absurd (none-some p is)
first_taken free rest (Some x) p some lookup is tail =
    first_free free p (some refl) (subst (λ y. y ≡ slice_index_or free 0 y) (same_Some x.now p is) lookup) ∙ ap (λ xs. p ∷ xs) (sym tail)

-- ---- a new key at such a slot

module _ {X : Type 0} (ps : KeySlots) (cs : Chains X) (k : Key) (p : ℕ) (free : List ℕ) (slotted : HaveSlots ps cs) (none : get ps k ≡ None) (are : AreFree ps (length cs) (p ∷ free)) where
  taken : (q : Key) → get (insert ps k p) q ≡ cond (eq_by_cmp key_cmp q k) (Some p) (get ps q)
  taken q = get-insert key_cmp_total ps k p q

  no_rows_there : rows_there cs p ≡ []
  no_rows_there = by (rows_there cs p) refl
    where
      by : (rows : List (Row X)) → rows_there cs p ≡ rows → rows_there cs p ≡ []
      by [] is = is
      by (r ∷ rs) is = let owner = slotted.owned p (subst (λ rows. 0 < length rows) (sym is) (omega arith)) in absurd (are.1 owner.0 owner.1)

  old_at : (q : Key) (n : ℕ) → get (insert ps k p) q ≡ Some n → eq_by_cmp key_cmp q k ≡ false → get ps q ≡ Some n
  old_at q n at other = sym (taken q ∙ ap (λ b. cond b (Some p) (get ps q)) other) ∙ at

  new_at : (q : Key) (n : ℕ) → get (insert ps k p) q ≡ Some n → eq_by_cmp key_cmp q k ≡ true → p ≡ n
  new_at q n at tie = same_Some p n (sym (taken q ∙ ap (λ b. cond b (Some p) (get ps q)) tie) ∙ at)

  keeps : (q : Key) (n : ℕ) → get ps q ≡ Some n → get (insert ps k p) q ≡ Some n
  keeps q n at = by (eq_by_cmp key_cmp q k) refl
    where
      by : (b : Bool) → eq_by_cmp key_cmp q k ≡ b → get (insert ps k p) q ≡ Some n
      by true tie = absurd (none-some n (sym none ∙ ap (get ps) (sym (same_key q k tie)) ∙ at))
      by false other = taken q ∙ ap (λ b. cond b (Some p) (get ps q)) other ∙ at

  pub slotted_taken : HaveSlots (insert ps k p) cs
  slotted_taken = record {
    within = λ q n at. within q n at (eq_by_cmp key_cmp q k) refl;
    apart = λ q r n one two. apart q r n one two (eq_by_cmp key_cmp q k) refl (eq_by_cmp key_cmp r k) refl;
    owned = λ n some. let owner = slotted.owned n some in (owner.0, keeps owner.0 n owner.1);
  }
    where
      within : (q : Key) (n : ℕ) → get (insert ps k p) q ≡ Some n → (b : Bool) → eq_by_cmp key_cmp q k ≡ b → n < length cs
      within q n at true tie = subst (λ m. m < length cs) (new_at q n at tie) are.0
      within q n at false other = slotted.within q n (old_at q n at other)

      apart : (q r : Key) (n : ℕ) → get (insert ps k p) q ≡ Some n → get (insert ps k p) r ≡ Some n → (a : Bool) → eq_by_cmp key_cmp q k ≡ a → (b : Bool) → eq_by_cmp key_cmp r k ≡ b → q ≡ r
      apart q r n one two true first true second = same_key q k first ∙ sym (same_key r k second)
      apart q r n one two true first false second = absurd (are.1 r (old_at r n two second ∙ ap Some (sym (new_at q n one first))))
      apart q r n one two false first true second = absurd (are.1 q (old_at q n one first ∙ ap Some (sym (new_at r n two second))))
      apart q r n one two false first false second = slotted.apart q r n (old_at q n one first) (old_at r n two second)

  pub still_taken : AreStill ps cs (insert ps k p) cs
  still_taken = record {
    keys = keeps;
    rows = λ n. refl;
    room = λ n was. was;
    by_key = λ q. by q (eq_by_cmp key_cmp q k) refl;
  }
    where
      by : (q : Key) (b : Bool) → eq_by_cmp key_cmp q k ≡ b → rows_in (insert ps k p) cs q ≡ rows_in ps cs q
      by q true tie =
          ap (λ o. option_map_or (rows_there cs) o []) (taken q ∙ ap (λ b. cond b (Some p) (get ps q)) tie) ∙ no_rows_there
          ∙ sym (ap (λ o. option_map_or (rows_there cs) o []) (ap (get ps) (same_key q k tie) ∙ none))
      by q false other = ap (λ o. option_map_or (rows_there cs) o []) (taken q ∙ ap (λ b. cond b (Some p) (get ps q)) other)

-- ---- a key that is forgotten, and its chain with it

module _ {X : Type 0} (ps : KeySlots) (cs : Chains X) (ss : List Superseding) (many p : ℕ) (k : Key) (d : Chain X)
    (consistent : IsConsistent ps cs ss many) (there : get ps k ≡ Some p) (removal : IsRemoval (rows_there cs p)) (empty : d.rows ≡ []) where
  within_cs : p < length cs
  within_cs = consistent.slotted.within k p there

  after : (q : Key) → rows_in ps (set cs p d) q ≡ cond (eq_by_cmp key_cmp k q) d.rows (rows_in ps cs q)
  after = rows_after ps cs (set cs p d) p d k consistent.slotted there refl

  -- what each key has then
  rows_gone : (q : Key) → rows_in (remove ps k) (set cs p d) q ≡ cond (eq_by_cmp key_cmp q k) [] (rows_in ps cs q)
  rows_gone q = ap (λ o. option_map_or (rows_there (set cs p d)) o []) (get-remove key_cmp_total ps k q) ∙ by (eq_by_cmp key_cmp q k) refl
    where
      by : (b : Bool) → eq_by_cmp key_cmp q k ≡ b → option_map_or (rows_there (set cs p d)) (cond b None (get ps q)) [] ≡ cond b [] (rows_in ps cs q)
      by true tie = refl
      by false other = after q ∙ ap (λ b. cond b d.rows (rows_in ps cs q)) (swap k q ∙ other)

  gone_here : (q : Key) → eq_by_cmp key_cmp q k ≡ true → rows_in (remove ps k) (set cs p d) q ≡ []
  gone_here q tie = rows_gone q ∙ ap (λ b. cond b [] (rows_in ps cs q)) tie

  gone_elsewhere : (q : Key) → eq_by_cmp key_cmp q k ≡ false → rows_in (remove ps k) (set cs p d) q ≡ rows_in ps cs q
  gone_elsewhere q other = rows_gone q ∙ ap (λ b. cond b [] (rows_in ps cs q)) other

  abbrev row_gone : List (Row X)
  row_gone = (removal.0, None) ∷ []

  was_here : (q : Key) → eq_by_cmp key_cmp q k ≡ true → rows_in ps cs q ≡ row_gone
  was_here q tie = ap (rows_in ps cs) (same_key q k tie) ∙ rows_of_key ps cs k p there ∙ removal.1

  rows_with_it : by_key ps cs ≡ insert (by_key (remove ps k) (set cs p d)) k row_gone
  rows_with_it = same_map key_cmp_total exact_keys _ _ (λ q.
      get_rows ps cs q ∙ by q (eq_by_cmp key_cmp q k) refl ∙ sym (get-insert key_cmp_total (by_key (remove ps k) (set cs p d)) k row_gone q))
    where
      by : (q : Key) (b : Bool) → eq_by_cmp key_cmp q k ≡ b → some_rows (rows_in ps cs q) ≡ cond b (Some row_gone) (get (by_key (remove ps k) (set cs p d)) q)
      by q true tie = ap some_rows (was_here q tie)
      by q false other = sym (get_rows (remove ps k) (set cs p d) q ∙ ap some_rows (gone_elsewhere q other))

  pub count_forgotten : count (by_key (remove ps k) (set cs p d)) + 1 ≡ many
  count_forgotten =
      let is = ap count rows_with_it in
      let more = count_written (by_key (remove ps k) (set cs p d)) k row_gone in
      let none = ap length (rows_are (remove ps k) (set cs p d) k ∙ gone_here k (own_key k)) in
      let was = consistent.counted in omega arith

  slotted_forgotten : HaveSlots (remove ps k) (set cs p d)
  slotted_forgotten = record {
    within = λ q n at. let was = consistent.slotted.within q n (left_at ps k q n at).1 in let size = as_many cs (set cs p d) p d within_cs refl in omega arith;
    apart = λ q r n one two. consistent.slotted.apart q r n (left_at ps k q n one).1 (left_at ps k r n two).1;
    owned = each_chain cs (set cs p d) p d within_cs refl (λ n (c : Chain X). 0 < length c.rows → IsOwned (remove ps k) n)
        (λ some. let none = ap length empty in absurd (omega (arith, none, some))) (λ n other some. let owner = consistent.slotted.owned n some in (owner.0, by n other owner.0 owner.1 (eq_by_cmp key_cmp owner.0 k) refl));
  }
    where
      by : (n : ℕ) → (n == p) ≡ false → (q : Key) → get ps q ≡ Some n → (b : Bool) → eq_by_cmp key_cmp q k ≡ b → get (remove ps k) q ≡ Some n
      by n other q at true tie =
          let same : n ≡ p = same_Some n p (sym (ap (get ps) (sym (same_key q k tie)) ∙ at) ∙ there) in
          let yes : (n == p) ≡ true = grind (arith, nat_tests) in
          let both : true ≡ false = sym yes ∙ other in absurd cc
      by n other q at false tie = left_with ps k q tie ∙ at

  pub consistent_forgotten : IsConsistent (remove ps k) (set cs p d) ss (many - 1)
  consistent_forgotten = record {
    slotted = slotted_forgotten;
    order = consistent.order;
    waits = each_chain cs (set cs p d) p d within_cs refl (λ q (c : Chain X). waiting q ss ≡ numbers (drop 1 c.rows))
        (consistent.waits p ∙ ap (λ rows. numbers (drop 1 rows)) removal.1 ∙ sym (ap (λ rows. numbers (drop 1 rows)) empty)) (λ q other. consistent.waits q);
    counted = let less = count_forgotten in omega arith;
  }

  pub free_forgotten : (free : List ℕ) → AreFree ps (length cs) free → AreFree (remove ps k) (length (set cs p d)) (free ++ p ∷ [])
  free_forgotten free are =
      subst (λ n. AreFree (remove ps k) n (free ++ p ∷ [])) (sym (as_many cs (set cs p d) p d within_cs refl)) (free_more ps k p (length cs) there within_cs consistent.slotted.apart free are)

  pub listed_forgotten : (i j : Index) → i.all ≡ ps → j.all ≡ remove ps k → ((q : Key) → q ≢ k → get j.listed q ≡ get i.listed q) → (since : ℕ) → AreListed since i cs → AreListed since j (set cs p d)
  listed_forgotten i j old new others since listed q none n from = ap (λ m. state_to n (rows_in m (set cs p d) q)) new ∙ by (eq_by_cmp key_cmp q k) refl
    where
      by : (b : Bool) → eq_by_cmp key_cmp q k ≡ b → state_to n (rows_in (remove ps k) (set cs p d) q) ≡ None
      by true tie = ap (state_to n) (gone_here q tie)
      by false other =
          ap (state_to n) (gone_elsewhere q other) ∙ ap (λ m. state_to n (rows_in m cs q)) (sym old)
          ∙ listed q (sym (others q (λ same. let both : true ≡ false = sym (ap (λ x. eq_by_cmp key_cmp x k) same ∙ own_key k) ∙ other in cc)) ∙ none) n from

  pub forgotten_view : (v : Versions X) (floor : ℕ) → seen (by_key ps cs) floor None ≡ v → AreForgotten v (seen (by_key (remove ps k) (set cs p d)) floor None)
  forgotten_view v floor view = subst (λ u. AreForgotten u (seen (by_key (remove ps k) (set cs p d)) floor None)) view (record {
    floor = refl;
    room = refl;
    rows = λ q. by q (eq_by_cmp key_cmp q k) refl;
  })
    where
      by : (q : Key) (b : Bool) → eq_by_cmp key_cmp q k ≡ b
          → (rows_at (by_key (remove ps k) (set cs p d)) q ≡ rows_at (by_key ps cs) q) ⊎ ((rows_at (by_key (remove ps k) (set cs p d)) q ≡ []) × IsRemoval (rows_at (by_key ps cs) q))
      by q true tie = inr (rows_are (remove ps k) (set cs p d) q ∙ gone_here q tie, (removal.0, rows_are ps cs q ∙ was_here q tie))
      by q false other = inl (rows_are (remove ps k) (set cs p d) q ∙ gone_elsewhere q other ∙ sym (rows_are ps cs q))

  pub forgotten_seen : (v : Versions X) (floor : ℕ) (room : Option ℕ) (qs : KeySlots) → room ≡ None → qs ≡ remove ps k → seen (by_key ps cs) floor (room_key ps room) ≡ v
      → AreForgotten v (seen (by_key qs (set cs p d)) floor (room_key qs room))
  forgotten_seen v floor room qs none gone view =
      subst (λ m. AreForgotten v (seen (by_key m (set cs p d)) floor (room_key m room))) (sym gone)
      (subst (λ r. AreForgotten v (seen (by_key (remove ps k) (set cs p d)) floor (room_key (remove ps k) r))) (sym none)
      (forgotten_view v floor (ap (λ r. seen (by_key ps cs) floor (room_key ps r)) (sym none) ∙ view)))

-- ---- what is left

module _ {X : Type 0} where
  pub removal_there : (ps : KeySlots) (cs : Chains X) (k : Key) (p : ℕ) (c : Chain X) → HaveSlots ps cs → get ps k ≡ Some p → c ≡ get_or cs p c → IsRemoval c.rows → IsRemoval (rows_there cs p)
  removal_there ps cs k p c slotted there read = subst (λ (x : Chain X). IsRemoval x.rows) (chain_found cs p c (slotted.within k p there) read)

  pub forgotten_none : (v w : Versions X) → w ≡ v → AreForgotten v w
  forgotten_none v w is = subst (AreForgotten v) (sym is) (record { floor = refl; room = refl; rows = λ k. inl refl })

  pub forgotten_all : (u v w : Versions X) → AreForgotten u v → AreForgotten v w → AreForgotten u w
  forgotten_all u v w a b = record {
    floor = b.floor ∙ a.floor;
    room = b.room ∙ a.room;
    rows = λ k. by k (a.rows k) (b.rows k);
  }
    where
      by : (k : Key) → (rows_at v.rows k ≡ rows_at u.rows k) ⊎ ((rows_at v.rows k ≡ []) × IsRemoval (rows_at u.rows k))
          → (rows_at w.rows k ≡ rows_at v.rows k) ⊎ ((rows_at w.rows k ≡ []) × IsRemoval (rows_at v.rows k))
          → (rows_at w.rows k ≡ rows_at u.rows k) ⊎ ((rows_at w.rows k ≡ []) × IsRemoval (rows_at u.rows k))
      by k (inl same) (inl again) = inl (again ∙ same)
      by k (inl same) (inr gone) = inr (gone.0, (gone.1.0, sym same ∙ gone.1.1))
      by k (inr gone) (inl again) = inr (again ∙ gone.0, gone.1)
      by k (inr gone) (inr again) = inr (again.0, gone.1)

  nothing_said : (m : ℕ) (rows : List (Row X)) → IsRemoval rows → state_to m rows ≡ None
  nothing_said m rows removal = ap (state_to m) removal.1 ∙ by (nat_le removal.0 m)
    where
      by : (b : Bool) → option_and_then (λ (r : Row X). r.1) (cond b (Some (removal.0, None)) None) ≡ None
      by true = refl
      by false = refl

  -- so a key that has a removal and nothing else has no value, at any number
  pub removal_value : (ps : KeySlots) (cs : Chains X) (m : RowsByKey X) (k : Key) (p : ℕ) → by_key ps cs ≡ m → get ps k ≡ Some p → IsRemoval (rows_there cs p) → (n : ℕ) → value m n k ≡ None
  removal_value ps cs m k p is there removal n =
      ap (λ (rs : RowsByKey X). value rs n k) (sym is) ∙ ap (state_to n) (rows_are ps cs k ∙ rows_of_key ps cs k p there) ∙ nothing_said n (rows_there cs p) removal

  pub forgotten_readings : (v w : Versions X) (m : ℕ) → AreForgotten v w → state_at w.rows m ≡ state_at v.rows m
  forgotten_readings v w m forgotten = same_map key_cmp_total exact_keys _ _ (λ q. get_state w.rows m q ∙ by q (forgotten.rows q) ∙ sym (get_state v.rows m q))
    where
      by : (q : Key) → (rows_at w.rows q ≡ rows_at v.rows q) ⊎ ((rows_at w.rows q ≡ []) × IsRemoval (rows_at v.rows q)) → state_to m (rows_at w.rows q) ≡ state_to m (rows_at v.rows q)
      by q (inl same) = ap (state_to m) same
      by q (inr gone) = ap (state_to m) gone.0 ∙ sym (nothing_said m (rows_at v.rows q) gone.1)

  pub forgotten_above : (v w : Versions X) (n : ℕ) → AreForgotten v w → IsAbove v.rows n → IsAbove w.rows n
  forgotten_above v w n forgotten above k = by (forgotten.rows k)
    where
      by : (rows_at w.rows k ≡ rows_at v.rows k) ⊎ ((rows_at w.rows k ≡ []) × IsRemoval (rows_at v.rows k)) → AreBelow n (rows_at w.rows k)
      by (inl same) = subst (AreBelow n) (sym same) (above k)
      by (inr gone) = subst (AreBelow n) (sym gone.0) tt
