-- The slots of keys and the chains at them: another chain at a slot, and a chain more.
use Rattle.std.proofs.Common.{◌≡◌, ◌≢◌, ℕ, zero, suc, ◌+◌, ◌<◌, ◌≤◌, ◌==◌, nat_le, Bool, true, false, cond, List, [], ◌∷◌, ◌++◌, length, get_or, Option, Some, None, option_map, get_or-set_same, get_or-set_other, refl, sym, ap, subst, ◌∙◌, arith, length-append}
use Rattle.std.proofs.Math.ListN.{set, get_or-append, length-set}
use Rattle.std.proofs.Math.Seq.{get_or-append_seam}
use Rattle.std.specs.List.{find}
use Rattle.std.specs.Option.{option_map_or}
use Rattle.std.specs.Ordering.{eq_by_cmp}
use Rattle.std.specs.FinMap as map
use Rattle.std.specs.FinMap.{entries, entries_sorted, get, get-entries, get-insert, is_sorted}
use Rattle.std.specs.FinMap.Entries.{below_all}
use Rattle.std.proofs.lemmas.Bool.{and_parts, eqb-true}
use Rattle.std.proofs.lemmas.Bool.Decides.{nat_tests}
use Rattle.std.proofs.lemmas.Option.{none-some, same_Some}
use Rattle.objects.specs.declared.key.Key.{Key}
use Rattle.objects.specs.Key.{key_cmp}
use Rattle.objects.specs.KeyOrder.{key_cmp_total}
use Rattle.version_map.specs.Rows.{Chain}
use Rattle.version_map.specs.Consistent.{AreStill, HaveSlots, Chains, HasRoom, KeySlots, chain_there, is_roomy, key_at, no_chain, rows_in, rows_there}
use Rattle.version_map.proofs.Chains.{below_none, is_held, own_key, same_key}

-- ---- the key at a slot

abbrev found_key : ℕ → List (Key × ℕ) → Option Key
found_key p es = option_map (λ e. e.0) (find (λ e. e.1 == p) es)

abbrev find_key : Key → List (Key × ℕ) → Option ℕ
find_key k es = map.find key_cmp k es

key_found : (es : List (Key × ℕ)) (k : Key) (p : ℕ) → is_sorted key_cmp es ≡ true
    → ((k q : Key) (p : ℕ) → find_key k es ≡ Some p → find_key q es ≡ Some p → k ≡ q) → find_key k es ≡ Some p → found_key p es ≡ Some k
key_found [] k p sorted apart found = absurd (none-some p found)
key_found (e ∷ es) k p sorted apart found = by (e.1 == p) refl (eq_by_cmp key_cmp k e.0) refl (λ rest. key_found es k p parts.1 (λ q r n one two. apart q r n (later q n one) (later r n two)) rest)
  where
    parts : (below_all key_cmp e.0 es ≡ true) × (is_sorted key_cmp es ≡ true)
    parts = and_parts (below_all key_cmp e.0 es) (is_sorted key_cmp es) sorted

    first : find_key e.0 (e ∷ es) ≡ Some e.1
    first = ap (λ b. cond b (Some e.1) (find_key e.0 es)) (own_key e.0)

    -- what is found among the rest is found among all
    later : (q : Key) (n : ℕ) → find_key q es ≡ Some n → find_key q (e ∷ es) ≡ Some n
    later q n there = by_tie (eq_by_cmp key_cmp q e.0) refl
      where
        by_tie : (b : Bool) → eq_by_cmp key_cmp q e.0 ≡ b → find_key q (e ∷ es) ≡ Some n
        by_tie true tie = absurd (none-some n (sym (below_none e.0 es parts.0) ∙ ap (λ x. find_key x es) (sym (same_key q e.0 tie)) ∙ there))
        by_tie false tie = ap (λ b. cond b (Some e.1) (find_key q es)) tie ∙ there

    by : (a : Bool) → (e.1 == p) ≡ a → (b : Bool) → eq_by_cmp key_cmp k e.0 ≡ b → (find_key k es ≡ Some p → found_key p es ≡ Some k) → found_key p (e ∷ es) ≡ Some k
    by true is b tie rest = ap (λ c. option_map (λ f. f.0) (cond c (Some e) (find (λ f. f.1 == p) es))) is
        ∙ ap Some (apart e.0 k p (first ∙ ap Some (eqb-true e.1 p is)) found)
    by false is true tie rest =
        let same : e.1 ≡ p = same_Some e.1 p (sym (ap (λ b. cond b (Some e.1) (find_key k es)) tie) ∙ found) in
        let differ : (e.1 == p) ≡ true = grind (arith, nat_tests) in
        let both : true ≡ false = sym differ ∙ is in cc
    by false is false tie rest = ap (λ c. option_map (λ f. f.0) (cond c (Some e) (find (λ f. f.1 == p) es))) is
        ∙ rest (sym (ap (λ b. cond b (Some e.1) (find_key k es)) tie) ∙ found)

module _ {X : Type 0} where
  pub key_of : (ps : KeySlots) (cs : Chains X) (k : Key) (p : ℕ) → HaveSlots ps cs → get ps k ≡ Some p → key_at ps p ≡ Some k
  key_of ps cs k p slotted there = key_found (entries ps) k p (is_held (is_sorted key_cmp (entries ps)) (entries_sorted ps))
      (λ q r n one two. slotted.apart q r n (get-entries ps q ∙ one) (get-entries ps r ∙ two)) (sym (get-entries ps k) ∙ there)

  -- ---- a slot that a reading finds

  any_default : (cs : Chains X) (p : ℕ) (c d : Chain X) → p < length cs → get_or cs p c ≡ get_or cs p d
  any_default [] p c d within = absurd (omega arith)
  any_default (x ∷ cs) zero c d within = refl
  any_default (x ∷ cs) (suc p) c d within = any_default cs p c d (omega arith)

  pub chain_found : (cs : Chains X) (p : ℕ) (c : Chain X) → p < length cs → c ≡ get_or cs p c → c ≡ chain_there cs p
  chain_found cs p c within is = is ∙ any_default cs p c no_chain within

  past_all : (cs : Chains X) (p : ℕ) → length cs ≤ p → chain_there cs p ≡ no_chain
  past_all [] p past = refl
  past_all (x ∷ cs) zero past = absurd (omega arith)
  past_all (x ∷ cs) (suc p) past = past_all cs p (omega arith)

  pub none_found : (cs : Chains X) (p : ℕ) → length cs ≤ p → rows_there cs p ≡ []
  none_found cs p past = ap (λ (c : Chain X). c.rows) (past_all cs p past)

  -- ---- another chain at a slot

  module _ (cs ds : Chains X) (p : ℕ) (d : Chain X) (within : p < length cs) (written : ds ≡ set cs p d) where
    pub chain_here : chain_there ds p ≡ d
    chain_here = ap (λ xs. chain_there xs p) written ∙ get_or-set_same cs p d no_chain within

    pub chain_elsewhere : (q : ℕ) → (q == p) ≡ false → chain_there ds q ≡ chain_there cs q
    chain_elsewhere q other = let differ : q ≢ p = λ same. let one : (q == p) ≡ true = grind (arith, nat_tests) in let both : true ≡ false = sym one ∙ other in cc in
        ap (λ xs. chain_there xs q) written ∙ get_or-set_other cs p q d no_chain differ

    pub as_many : length ds ≡ length cs
    as_many = ap length written ∙ length-set cs p d

    -- what holds of the new chain, and of the others, holds of all
    pub each_chain : (P : ℕ → Chain X → Type 0) → P p d → ((q : ℕ) → (q == p) ≡ false → P q (chain_there cs q)) → (q : ℕ) → P q (chain_there ds q)
    each_chain P here others q = by (q == p) refl
      where
        by : (b : Bool) → (q == p) ≡ b → P q (chain_there ds q)
        by true is = subst (λ n. P n (chain_there ds n)) (sym (eqb-true q p is)) (subst (P p) (sym chain_here) here)
        by false is = subst (P q) (sym (chain_elsewhere q is)) (others q is)

    -- with the same rows and room
    module _ (ps : KeySlots) (rows : d.rows ≡ rows_there cs p) (room : is_roomy cs p ≡ true → d.roomy ≡ true) where
      same_there : (q : ℕ) → rows_there ds q ≡ rows_there cs q
      same_there = each_chain (λ q (c : Chain X). c.rows ≡ rows_there cs q) rows (λ q other. refl)

      pub still_there : AreStill ps cs ps ds
      still_there = record {
        keys = λ k n there. there;
        rows = same_there;
        room = each_chain (λ q (c : Chain X). is_roomy cs q ≡ true → c.roomy ≡ true) room (λ q other was. was);
        by_key = λ k. by (get ps k);
      }
        where
          by : (o : Option ℕ) → option_map_or (rows_there ds) o [] ≡ option_map_or (rows_there cs) o []
          by None = refl
          by (Some q) = same_there q

      pub slotted_there : HaveSlots ps cs → HaveSlots ps ds
      slotted_there slotted = record {
        within = λ k q there. let was = slotted.within k q there in let many = as_many in omega arith;
        apart = slotted.apart;
        owned = λ q some. slotted.owned q (subst (λ rs. 0 < length rs) (same_there q) some);
      }

  -- ---- a chain more, of a new key

  module _ (ps qs : KeySlots) (cs ds : Chains X) (k : Key) (d : Chain X) (slotted : HaveSlots ps cs) (none : None ≡ get ps k) (empty : d.rows ≡ [])
      (more : ds ≡ cs ++ d ∷ []) (put : qs ≡ map.insert ps k (length cs)) where
    got : (q : Key) → get qs q ≡ cond (eq_by_cmp key_cmp q k) (Some (length cs)) (get ps q)
    got q = ap (λ m. get m q) put ∙ get-insert key_cmp_total ps k (length cs) q

    abbrev is_last : ℕ → Bool
    is_last p = p == length cs

    before : (p : ℕ) → p < length cs → chain_there ds p ≡ chain_there cs p
    before p within = ap (λ xs. chain_there xs p) more ∙ get_or-append cs (d ∷ []) no_chain p within

    last : rows_there ds (length cs) ≡ []
    last = ap (λ xs. rows_there xs (length cs)) more ∙ ap (λ (c : Chain X). c.rows) (get_or-append_seam cs d [] no_chain) ∙ empty

    many : length ds ≡ length cs + 1
    many = ap length more ∙ length-append cs (d ∷ [])

    rows_new : (p : ℕ) → rows_there ds p ≡ rows_there cs p
    rows_new p = by (nat_le (length cs) p) refl
      where
        by : (b : Bool) → nat_le (length cs) p ≡ b → rows_there ds p ≡ rows_there cs p
        by false is = ap (λ (c : Chain X). c.rows) (before p (grind (arith, nat_tests)))
        by true is = by_last (is_last p) refl
          where
            by_last : (b : Bool) → is_last p ≡ b → rows_there ds p ≡ rows_there cs p
            by_last true here = ap (rows_there ds) (eqb-true p (length cs) here) ∙ last ∙ sym (none_found cs p (grind (arith, nat_tests)))
            by_last false other = let size = many in let past : length ds ≤ p = grind (arith, nat_tests) in none_found ds p past ∙ sym (none_found cs p (grind (arith, nat_tests)))

    -- where a key other than the new one is
    old_slot : (q : Key) (p : ℕ) → eq_by_cmp key_cmp q k ≡ false → get qs q ≡ Some p → get ps q ≡ Some p
    old_slot q p other there = sym (got q ∙ ap (λ b. cond b (Some (length cs)) (get ps q)) other) ∙ there

    new_slot : (q : Key) (p : ℕ) → eq_by_cmp key_cmp q k ≡ true → get qs q ≡ Some p → p ≡ length cs
    new_slot q p tie there = sym (same_Some (length cs) p (sym (got q ∙ ap (λ b. cond b (Some (length cs)) (get ps q)) tie) ∙ there))

    still : (q : Key) (p : ℕ) → get ps q ≡ Some p → get qs q ≡ Some p
    still q p there = by (eq_by_cmp key_cmp q k) refl
      where
        by : (b : Bool) → eq_by_cmp key_cmp q k ≡ b → get qs q ≡ Some p
        by true tie = absurd (none-some p (none ∙ ap (get ps) (sym (same_key q k tie)) ∙ there))
        by false tie = got q ∙ ap (λ b. cond b (Some (length cs)) (get ps q)) tie ∙ there

    pub slotted_new : HaveSlots qs ds
    slotted_new = record {
      within = λ q p there. within q p there (eq_by_cmp key_cmp q k) refl;
      apart = λ q r p one two. apart q r p one two (eq_by_cmp key_cmp q k) refl (eq_by_cmp key_cmp r k) refl;
      owned = λ p some. let owner = slotted.owned p (subst (λ rs. 0 < length rs) (rows_new p) some) in (owner.0, still owner.0 p owner.1);
    }
      where
        within : (q : Key) (p : ℕ) → get qs q ≡ Some p → (b : Bool) → eq_by_cmp key_cmp q k ≡ b → p < length ds
        within q p there true tie = let size = many in let is = new_slot q p tie there in omega arith
        within q p there false tie = let size = many in let was = slotted.within q p (old_slot q p tie there) in omega arith

        apart : (q r : Key) (p : ℕ) → get qs q ≡ Some p → get qs r ≡ Some p → (a : Bool) → eq_by_cmp key_cmp q k ≡ a → (b : Bool) → eq_by_cmp key_cmp r k ≡ b → q ≡ r
        apart q r p one two true first true second = same_key q k first ∙ sym (same_key r k second)
        apart q r p one two true first false second = let is = new_slot q p first one in let was = slotted.within r p (old_slot r p second two) in absurd (omega arith)
        apart q r p one two false first true second = let is = new_slot r p second two in let was = slotted.within q p (old_slot q p first one) in absurd (omega arith)
        apart q r p one two false first false second = slotted.apart q r p (old_slot q p first one) (old_slot r p second two)

    pub still_new : AreStill ps cs qs ds
    still_new = record {
      keys = still;
      rows = rows_new;
      room = λ p was. by p was (nat_le (length cs) p) refl;
      by_key = λ q. by_tie q (eq_by_cmp key_cmp q k) refl;
    }
      where
        by : (p : ℕ) → is_roomy cs p ≡ true → (b : Bool) → nat_le (length cs) p ≡ b → is_roomy ds p ≡ true
        by p was true is = let both : true ≡ false = sym was ∙ ap (λ (c : Chain X). c.roomy) (past_all cs p (grind (arith, nat_tests))) in cc
        by p was false is = ap (λ (c : Chain X). c.roomy) (before p (grind (arith, nat_tests))) ∙ was

        by_slot : (o : Option ℕ) → option_map_or (rows_there ds) o [] ≡ option_map_or (rows_there cs) o []
        by_slot None = refl
        by_slot (Some p) = rows_new p

        by_tie : (q : Key) (b : Bool) → eq_by_cmp key_cmp q k ≡ b → rows_in qs ds q ≡ rows_in ps cs q
        by_tie q false tie = ap (λ o. option_map_or (rows_there ds) o []) (got q ∙ ap (λ b. cond b (Some (length cs)) (get ps q)) tie) ∙ by_slot (get ps q)
        by_tie q true tie = ap (λ o. option_map_or (rows_there ds) o []) (got q ∙ ap (λ b. cond b (Some (length cs)) (get ps q)) tie) ∙ last
            ∙ ap (λ o. option_map_or (rows_there cs) o []) (none ∙ ap (get ps) (sym (same_key q k tie)))

    pub got_new : get qs k ≡ Some (length cs)
    got_new = got k ∙ ap (λ b. cond b (Some (length cs)) (get ps k)) (own_key k)

  -- ---- one change after another

  pub still_all : {ps qs rs : KeySlots} {cs ds es : Chains X} → AreStill ps cs qs ds → AreStill qs ds rs es → AreStill ps cs rs es
  still_all a b = record {
    keys = λ k p there. b.keys k p (a.keys k p there);
    rows = λ p. b.rows p ∙ a.rows p;
    room = λ p was. b.room p (a.room p was);
    by_key = λ k. b.by_key k ∙ a.by_key k;
  }

  pub still_same : (ps qs : KeySlots) (cs ds : Chains X) → qs ≡ ps → ds ≡ cs → AreStill ps cs qs ds
  still_same ps qs cs ds slots chains = subst (λ m. AreStill ps cs m ds) (sym slots) (subst (AreStill ps cs ps) (sym chains)
      (record { keys = λ k p there. there; rows = λ p. refl; room = λ p was. was; by_key = λ k. refl }))

  pub still_owned : (ps qs : KeySlots) (cs ds : Chains X) (p : ℕ) → AreStill ps cs qs ds → HasRoom ps cs p → HasRoom qs ds p
  still_owned ps qs cs ds p still has = ((has.0.0, still.keys has.0.0 p has.0.1), still.room p has.1)

  pub room_within : (ps : KeySlots) (cs : Chains X) (p : ℕ) → HaveSlots ps cs → HasRoom ps cs p → p < length cs
  room_within ps cs p slotted has = slotted.within has.0.0 p has.0.1

  -- with room made at a slot, whose chain was read
  module _ (ps : KeySlots) (cs : Chains X) (k : Key) (p : ℕ) (c d : Chain X) (slotted : HaveSlots ps cs) (there : get ps k ≡ Some p) (read : c ≡ get_or cs p c)
      (rows : d.rows ≡ c.rows) (kept : c.roomy ≡ true → d.roomy ≡ true) where
    within_read : p < length cs
    within_read = slotted.within k p there

    same_read : c ≡ chain_there cs p
    same_read = chain_found cs p c within_read read

    pub slotted_read : HaveSlots ps (set cs p d)
    slotted_read = slotted_there cs (set cs p d) p d within_read refl ps (rows ∙ ap (λ (x : Chain X). x.rows) same_read) (λ was. kept (ap (λ (x : Chain X). x.roomy) same_read ∙ was)) slotted

    pub still_read : AreStill ps cs ps (set cs p d)
    still_read = still_there cs (set cs p d) p d within_read refl ps (rows ∙ ap (λ (x : Chain X). x.rows) same_read) (λ was. kept (ap (λ (x : Chain X). x.roomy) same_read ∙ was))

    pub room_read : d.roomy ≡ true → is_roomy (set cs p d) p ≡ true
    room_read roomy = ap (λ (x : Chain X). x.roomy) (chain_here cs (set cs p d) p d within_read refl) ∙ roomy
