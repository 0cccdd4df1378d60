-- What the parts of a map of versions are after one more row, and after the first row of a key.
use Rattle.std.proofs.Common.{◌≡◌, ℕ, ◌+◌, ◌<◌, ◌≤◌, ◌-◌, ◌==◌, Bool, true, false, cond, List, [], ◌∷◌, ◌++◌, append-nil, length, drop, get_or, Option, Some, None, option_and_then, IfSome, Result, Ok, Err, OnErr, slice_index_or, refl, sym, ap, subst, ◌∙◌, arith, length-append}
use Rattle.std.specs.Prelude.{if◌then◌else◌}
use Rattle.std.proofs.Math.ListN.{set}
use Rattle.std.specs.List.{AllByRecursion}
use Rattle.std.specs.Option.{option_map_or}
use Rattle.std.specs.Ordering.{eq_by_cmp}
use Rattle.std.specs.FinMap as map
use Rattle.std.specs.FinMap.{entries, get, get-empty, len-empty, len-entries}
use Rattle.std.proofs.lemmas.Bool.{eqb-true}
use Rattle.std.proofs.lemmas.Bool.Decides.{nat_tests}
use Rattle.std.proofs.lemmas.Option.{none-some}
use Rattle.objects.specs.declared.key.Key.{Key}
use Rattle.objects.specs.Key.{key_cmp}
use Rattle.version_map.specs.declared.map.Superseding.{Superseding}
use Rattle.version_map.specs.Rows.{AreBelow, Chain, Row, kept, last_row, state_to}
use Rattle.version_map.specs.Versions.{IsAbove, RowsByKey, Versions, compacted, count, count_in, newest, opening, pushed, rows_at, value, with_room}
use Rattle.version_map.specs.Consistent.{HaveSlots, AreStill, Chains, HasRoom, IsInOrder, IsOwned, IsConsistent, KeySlots, by_key, chain_there, is_roomy, key_at, numbers, rows_by, rows_in, rows_there, waiting}
use Rattle.version_map.proofs.Rows.{SecondIs, all_kept, all_more, all_weaker, kept_second, last_kept, numbers_more, row_kept, second_is}
use Rattle.version_map.proofs.Chains.{count_written, none_compacted, own_key, rows_are, rows_compacted, same_compacted, same_key, same_rows, some_rows, written_rows}
use Rattle.version_map.proofs.SlotChains.{as_many, chain_elsewhere, chain_found, chain_here, each_chain, key_of, still_owned}

-- ---- the queue

own_slot : (p : ℕ) → (p == p) ≡ true
own_slot p = grind (arith, nat_tests)

waiting_more : (p : ℕ) (ss : List Superseding) (t : Superseding) → waiting p (ss ++ t ∷ []) ≡ waiting p ss ++ cond (p == t.slot) (t.number ∷ []) []
waiting_more p [] t = elim (p == t.slot) as (λ b. cond b (t.number ∷ []) [] ≡ cond b (t.number ∷ []) []) [ true ↦ refl | false ↦ refl ]
waiting_more p (s ∷ ss) t =
    elim (p == s.slot) as (λ b. cond b (s.number ∷ waiting p (ss ++ t ∷ [])) (waiting p (ss ++ t ∷ [])) ≡ cond b (s.number ∷ waiting p ss) (waiting p ss) ++ cond (p == t.slot) (t.number ∷ []) []) [
      | true ↦ ap (λ ns. s.number ∷ ns) (waiting_more p ss t)
      | false ↦ waiting_more p ss t
    ]

order_more : (ss : List Superseding) (t : Superseding) → AllByRecursion (λ (s : Superseding). s.number < t.number) ss → IsInOrder ss → IsInOrder (ss ++ t ∷ [])
order_more [] t above h = (tt, tt)
order_more (s ∷ ss) t above h = let here = above.0 in (all_more (λ (x : Superseding). s.number ≤ x.number) ss t h.0 (omega arith), order_more ss t above.1 h.1)

waiting_past : (n p : ℕ) (ss : List Superseding) → AllByRecursion (λ (s : Superseding). n < s.number) ss → AllByRecursion (λ m. n < m) (waiting p ss)
waiting_past n p [] h = tt
waiting_past n p (s ∷ ss) h =
    elim (p == s.slot) as (λ b. AllByRecursion (λ m. n < m) (cond b (s.number ∷ waiting p ss) (waiting p ss))) [
      | true ↦ (h.0, waiting_past n p ss h.1)
      | false ↦ waiting_past n p ss h.1
    ]

-- what waits under no slot past a number is not past it
waiting_all : (n : ℕ) (ss : List Superseding) → ((p : ℕ) → AllByRecursion (λ m. m < n) (waiting p ss)) → AllByRecursion (λ (s : Superseding). s.number < n) ss
waiting_all n [] each = tt
waiting_all n (s ∷ ss) each = (here.0, waiting_all n ss (λ p. by p (p == s.slot) refl))
  where
    here : AllByRecursion (λ m. m < n) (s.number ∷ waiting s.slot ss)
    here = subst (λ b. AllByRecursion (λ m. m < n) (cond b (s.number ∷ waiting s.slot ss) (waiting s.slot ss))) (own_slot s.slot) (each s.slot)

    by : (p : ℕ) (b : Bool) → (p == s.slot) ≡ b → AllByRecursion (λ m. m < n) (waiting p ss)
    by p true is = (subst (λ b. AllByRecursion (λ m. m < n) (cond b (s.number ∷ waiting p ss) (waiting p ss))) is (each p)).1
    by p false is = subst (λ b. AllByRecursion (λ m. m < n) (cond b (s.number ∷ waiting p ss) (waiting p ss))) is (each p)

-- the key that has room, by its slot
abbrev pub room_key : KeySlots → Option ℕ → Option Key
room_key ps room = option_and_then (key_at ps) room

module _ {X : Type 0} where
  numbers_below : (n : ℕ) (rows : List (Row X)) → AreBelow n rows → AllByRecursion (λ m. m < n) (numbers rows)
  numbers_below n [] below = tt
  numbers_below n (r ∷ rs) below = (below.0, numbers_below n rs below.1)

  later_below : (n : ℕ) (rows : List (Row X)) → AreBelow n rows → AllByRecursion (λ m. m < n) (numbers (drop 1 rows))
  later_below n [] below = tt
  later_below n (r ∷ rs) below = numbers_below n rs below.1

  -- ---- when no row is dropped

  none_goes : (ps : KeySlots) (cs : Chains X) (ss : List Superseding) (many n : ℕ) → IsConsistent ps cs ss many → AllByRecursion (λ (s : Superseding). n < s.number) ss
      → compacted (by_key ps cs) n ≡ by_key ps cs
  none_goes ps cs ss many n consistent past = none_compacted ps cs n (λ k. by (get ps k))
    where
      by : (o : Option ℕ) → kept n (option_map_or (rows_there cs) o []) ≡ option_map_or (rows_there cs) o []
      by None = refl
      by (Some p) = all_kept n (rows_there cs p) (subst (AllByRecursion (λ m. n < m)) (consistent.waits p) (waiting_past n p ss past))

  pub none_waits : (ps : KeySlots) (cs : Chains X) (ss : List Superseding) (many n : ℕ) (m : RowsByKey X) → IsConsistent ps cs ss many → by_key ps cs ≡ m → ss ≡ [] → compacted m n ≡ m
  none_waits ps cs ss many n m consistent is none =
      subst (λ rs. compacted rs n ≡ rs) is (none_goes ps cs ss many n consistent (subst (AllByRecursion (λ (s : Superseding). n < s.number)) (sym none) tt))

  pub all_wait : (ps : KeySlots) (cs : Chains X) (ss rest : List Superseding) (s : Superseding) (many n : ℕ) (m : RowsByKey X) → IsConsistent ps cs ss many → by_key ps cs ≡ m
      → ss ≡ s ∷ rest → n < s.number → compacted m n ≡ m
  all_wait ps cs ss rest s many n m consistent is front past =
      let order = subst IsInOrder front consistent.order in
      subst (λ rs. compacted rs n ≡ rs) is (none_goes ps cs ss many n consistent (subst (AllByRecursion (λ (t : Superseding). n < t.number)) (sym front)
      (past, all_weaker (λ (t : Superseding). s.number ≤ t.number) (λ (t : Superseding). n < t.number) rest (λ t upto. omega arith) order.0)))

  -- ---- the rows at a slot

  pub rows_of_key : (ps : KeySlots) (cs : Chains X) (k : Key) (p : ℕ) → get ps k ≡ Some p → rows_in ps cs k ≡ rows_there cs p
  rows_of_key ps cs k p there = ap (λ o. option_map_or (rows_there cs) o []) there

  pub below_there : (ps : KeySlots) (cs : Chains X) (n : ℕ) (m : RowsByKey X) → by_key ps cs ≡ m → HaveSlots ps cs → IsAbove m n → (p : ℕ) → AreBelow n (rows_there cs p)
  below_there ps cs n m is slotted above p = by (rows_there cs p) refl
    where
      by : (rs : List (Row X)) → rows_there cs p ≡ rs → AreBelow n rs
      by [] here = tt
      by (r ∷ rs) here =
          let owner = slotted.owned p (subst (λ xs. 0 < length xs) (sym here) (omega arith)) in
          subst (AreBelow n) (ap (λ o. rows_at o owner.0) (sym is) ∙ rows_are ps cs owner.0 ∙ rows_of_key ps cs owner.0 p owner.1 ∙ here) (above owner.0)

  pub second_there : (ps : KeySlots) (cs : Chains X) (ss rest : List Superseding) (many : ℕ) (t : Superseding) → IsConsistent ps cs ss many → ss ≡ t ∷ rest
      → SecondIs (rows_there cs t.slot) t.number (waiting t.slot rest)
  second_there ps cs ss rest many t consistent front =
      second_is (rows_there cs t.slot) t.number (waiting t.slot rest)
      (sym (consistent.waits t.slot) ∙ ap (waiting t.slot) front ∙ ap (λ b. cond b (t.number ∷ waiting t.slot rest) (waiting t.slot rest)) (own_slot t.slot))

  pub two_there : (rows : List (Row X)) (m : ℕ) (ns : List ℕ) → SecondIs rows m ns → 1 < length rows
  two_there rows m ns second = let many_rows = ap length second.are in omega arith

  pub owner_there : (ps : KeySlots) (cs : Chains X) (p m : ℕ) (ns : List ℕ) → HaveSlots ps cs → SecondIs (rows_there cs p) m ns → IsOwned ps p
  owner_there ps cs p m ns slotted second = let two = two_there (rows_there cs p) m ns second in slotted.owned p (omega arith)

  -- ---- a key's chain is another one

  module _ (ps : KeySlots) (cs ds : Chains X) (p : ℕ) (d : Chain X) (k : Key) (slotted : HaveSlots ps cs) (there : get ps k ≡ Some p) (written : ds ≡ set cs p d) where
    within : p < length cs
    within = slotted.within k p there

    rows_before : rows_in ps cs k ≡ rows_there cs p
    rows_before = rows_of_key ps cs k p there

    rows_here : rows_there ds p ≡ d.rows
    rows_here = ap (λ (c : Chain X). c.rows) (chain_here cs ds p d within written)

    pub rows_after : (q : Key) → rows_in ps ds q ≡ cond (eq_by_cmp key_cmp k q) d.rows (rows_in ps cs q)
    rows_after q = by (eq_by_cmp key_cmp k q) refl
      where
        by_slot : (o : Option ℕ) → get ps q ≡ o → eq_by_cmp key_cmp k q ≡ false → option_map_or (rows_there ds) o [] ≡ option_map_or (rows_there cs) o []
        by_slot None at other = refl
        by_slot (Some n) at other = by_same (n == p) refl
          where
            by_same : (b : Bool) → (n == p) ≡ b → rows_there ds n ≡ rows_there cs n
            by_same true is =
                let same : k ≡ q = slotted.apart k q p there (at ∙ ap Some (eqb-true n p is)) in
                let both : true ≡ false = sym (own_key k) ∙ ap (eq_by_cmp key_cmp k) same ∙ other in cc
            by_same false is = ap (λ (c : Chain X). c.rows) (chain_elsewhere cs ds p d within written n is)

        by : (b : Bool) → eq_by_cmp key_cmp k q ≡ b → rows_in ps ds q ≡ cond b d.rows (rows_in ps cs q)
        by true tie = ap (rows_in ps ds) (sym (same_key k q tie)) ∙ rows_of_key ps ds k p there ∙ rows_here
        by false other = by_slot (get ps q) refl other

    slotted_after : HaveSlots ps ds
    slotted_after = record {
      within = λ q n at. let was = slotted.within q n at in let many = as_many cs ds p d within written in omega arith;
      apart = slotted.apart;
      owned = each_chain cs ds p d within written (λ q (c : Chain X). 0 < length c.rows → IsOwned ps q) (λ some. (k, there)) (λ q other. slotted.owned q);
    }

    -- ---- one more row

    module _ (ss : List Superseding) (many n : ℕ) (s : Option X) (consistent : IsConsistent ps cs ss many) (above : (q : ℕ) → AreBelow n (rows_there cs q)) (rows : d.rows ≡ rows_there cs p ++ (n, s) ∷ []) where
      some_more : (xs : List (Row X)) → Some (xs ++ (n, s) ∷ []) ≡ some_rows (xs ++ (n, s) ∷ [])
      some_more [] = refl
      some_more (x ∷ xs) = refl

      pub pushed_rows : by_key ps ds ≡ map.insert (by_key ps cs) k (rows_at (by_key ps cs) k ++ (n, s) ∷ [])
      pushed_rows =
          written_rows ps cs ds k d.rows (subst (λ r. Some r ≡ some_rows r) (sym rows) (some_more (rows_there cs p))) rows_after
          ∙ ap (map.insert (by_key ps cs) k) (rows ∙ ap (λ r. r ++ (n, s) ∷ []) (sym (rows_are ps cs k ∙ rows_before)))

      waits_by : (rs : List (Row X)) (ns : List ℕ) → ns ≡ numbers (drop 1 rs) → cond (length rs == 0) ns (ns ++ n ∷ []) ≡ numbers (drop 1 (rs ++ (n, s) ∷ []))
      waits_by [] ns is = is
      waits_by (r ∷ rs) ns is = let e : (length (r ∷ rs) == 0) ≡ false = grind (arith, nat_tests) in
          ap (λ b. cond b ns (ns ++ n ∷ [])) e ∙ ap (λ ms. ms ++ n ∷ []) is ∙ sym (numbers_more rs (n, s))

      abbrev queued : Bool → List Superseding
      queued b = if b then ss else ss ++ (record { number = n; slot = p }) ∷ []

      waits_here : (b : Bool) → waiting p (queued b) ≡ cond b (waiting p ss) (waiting p ss ++ n ∷ [])
      waits_here true = refl
      waits_here false = waiting_more p ss (record { number = n; slot = p }) ∙ ap (λ t. waiting p ss ++ cond t (n ∷ []) []) (own_slot p)

      waits_there : (b : Bool) (q : ℕ) → (q == p) ≡ false → waiting q (queued b) ≡ waiting q ss
      waits_there true q other = refl
      waits_there false q other = waiting_more q ss (record { number = n; slot = p }) ∙ ap (λ t. waiting q ss ++ cond t (n ∷ []) []) other ∙ append-nil (waiting q ss)

      ordered : (b : Bool) → IsInOrder (queued b)
      ordered true = consistent.order
      ordered false = order_more ss (record { number = n; slot = p })
          (waiting_all n ss (λ q. subst (AllByRecursion (λ m. m < n)) (sym (consistent.waits q)) (later_below n (rows_there cs q) (above q)))) consistent.order

      pub pushed_consistent : (ts : List Superseding) → ts ≡ queued (length (rows_there cs p) == 0) → IsConsistent ps ds ts (many + 1)
      pushed_consistent ts queue = record {
        slotted = slotted_after;
        order = subst IsInOrder (sym queue) (ordered (length (rows_there cs p) == 0));
        waits = each_chain cs ds p d within written (λ q (c : Chain X). waiting q ts ≡ numbers (drop 1 c.rows))
            (ap (waiting p) queue ∙ waits_here (length (rows_there cs p) == 0) ∙ waits_by (rows_there cs p) (waiting p ss) (consistent.waits p)
            ∙ sym (ap (λ rs. numbers (drop 1 rs)) rows))
            (λ q other. ap (waiting q) queue ∙ waits_there (length (rows_there cs p) == 0) q other ∙ consistent.waits q);
        counted = counts;
      }
        where
          counts : many + 1 ≡ count (by_key ps ds)
          counts =
              let is = ap count pushed_rows in
              let old = rows_at (by_key ps cs) k in
              let more = count_written (by_key ps cs) k (old ++ (n, s) ∷ []) in
              let one = length-append old ((n, s) ∷ []) in
              let was = consistent.counted in omega arith

    -- ---- the first row is dropped

    module _ (rest : List Superseding) (many n m : ℕ) (ss : List Superseding) (consistent : IsConsistent ps cs ss many) (front : ss ≡ (record { number = m; slot = p }) ∷ rest) (rows : d.rows ≡ drop 1 (rows_there cs p)) where
      second : SecondIs (rows_there cs p) m (waiting p rest)
      second = second_there ps cs ss rest many (record { number = m; slot = p }) consistent front

      left : d.rows ≡ (m, second.state) ∷ second.rest
      left = rows ∙ ap (drop 1) second.are

      dropped_rows : by_key ps ds ≡ map.insert (by_key ps cs) k d.rows
      dropped_rows = written_rows ps cs ds k d.rows (subst (λ r. Some r ≡ some_rows r) (sym left) refl) rows_after

      pub one_less : count (by_key ps ds) + 1 ≡ count (by_key ps cs)
      one_less =
          let is = ap count dropped_rows in
          let less = count_written (by_key ps cs) k d.rows in
          let was = ap length (rows_are ps cs k ∙ rows_before ∙ second.are) in
          let now_left = ap length left in omega arith

      pub dropped_consistent : IsConsistent ps ds rest (many - 1)
      dropped_consistent = record {
        slotted = slotted_after;
        order = (subst IsInOrder front consistent.order).1;
        waits = each_chain cs ds p d within written (λ q (c : Chain X). waiting q rest ≡ numbers (drop 1 c.rows)) (sym (ap (λ rs. numbers (drop 1 rs)) left ∙ second.later))
            (λ q other. sym (ap (waiting q) front ∙ ap (λ b. cond b (m ∷ waiting q rest) (waiting q rest)) other) ∙ consistent.waits q);
        counted = let was = consistent.counted in let less = one_less in omega arith;
      }

      pub same_left : m ≤ n → compacted (by_key ps ds) n ≡ compacted (by_key ps cs) n
      same_left upto = same_compacted ps cs ds n (λ q. ap (kept n) (rows_after q) ∙ by q (eq_by_cmp key_cmp k q) refl)
        where
          by : (q : Key) (b : Bool) → eq_by_cmp key_cmp k q ≡ b → kept n (cond b d.rows (rows_in ps cs q)) ≡ kept n (rows_in ps cs q)
          by q true tie = ap (kept n) left ∙ sym (kept_second n m second.first second.state second.rest upto) ∙ ap (kept n) (sym (rows_before ∙ second.are)) ∙ ap (λ x. kept n (rows_in ps cs x)) (same_key k q tie)
          by q false other = refl

  pub its_room : (ps : KeySlots) (cs : Chains X) (p : ℕ) (room : Option ℕ) → Some p ≡ room → IfSome room (HasRoom ps cs) → HasRoom ps cs p
  its_room ps cs p room is has = subst (λ r. IfSome r (HasRoom ps cs)) (sym is) has

  -- ---- as the calls see it

  -- a chain that is read at the key's slot has the key's rows
  pub rows_read : (ps : KeySlots) (cs : Chains X) (m : RowsByKey X) (k : Key) (p : ℕ) (c : Chain X) → HaveSlots ps cs → by_key ps cs ≡ m → get ps k ≡ Some p → c ≡ get_or cs p c → c.rows ≡ rows_at m k
  rows_read ps cs m k p c slotted is there read =
      ap (λ (x : Chain X). x.rows) (chain_found cs p c (slotted.within k p there) read) ∙ sym (ap (λ o. rows_at o k) (sym is) ∙ rows_are ps cs k ∙ rows_of_key ps cs k p there)

  module _ (ps : KeySlots) (cs : Chains X) (p n : ℕ) (s : Option X) (c d : Chain X) (slotted : HaveSlots ps cs) (has : HasRoom ps cs p) (read : c ≡ get_or cs p c) where
    chain_pushed : c ≡ chain_there cs p
    chain_pushed = chain_found cs p c (slotted.within has.0.0 p has.0.1) read

    pub roomy_read : c.roomy ≡ true
    roomy_read = ap (λ (x : Chain X). x.roomy) chain_pushed ∙ has.1

    pub below_read : (m : RowsByKey X) → by_key ps cs ≡ m → IsAbove m n → AreBelow n c.rows
    below_read m is above = subst (λ (x : Chain X). AreBelow n x.rows) (sym chain_pushed) (below_there ps cs n m is slotted above p)

    pub rows_more : d.rows ≡ c.rows ++ (n, s) ∷ [] → d.rows ≡ rows_there cs p ++ (n, s) ∷ []
    rows_more rows = rows ∙ ap (λ (x : Chain X). x.rows ++ (n, s) ∷ []) chain_pushed

    pub rows_pushed : (ss : List Superseding) (many : ℕ) (m : RowsByKey X) → by_key ps cs ≡ m → IsConsistent ps cs ss many → IsAbove m n → d.rows ≡ c.rows ++ (n, s) ∷ []
        → by_key ps (set cs p d) ≡ map.insert (by_key ps cs) has.0.0 (rows_at (by_key ps cs) has.0.0 ++ (n, s) ∷ [])
    rows_pushed ss many m is consistent above rows =
        pushed_rows ps cs (set cs p d) p d has.0.0 slotted has.0.1 refl ss many n s consistent (below_there ps cs n m is slotted above) (rows_more rows)

    pub consistent_pushed : (ss ts : List Superseding) (many : ℕ) (m : RowsByKey X) → by_key ps cs ≡ m → IsConsistent ps cs ss many → IsAbove m n → d.rows ≡ c.rows ++ (n, s) ∷ []
        → ts ≡ (if length c.rows == 0 then ss else ss ++ (record { number = n; slot = p }) ∷ []) → IsConsistent ps (set cs p d) ts (many + 1)
    consistent_pushed ss ts many m is consistent above rows queue =
        pushed_consistent ps cs (set cs p d) p d has.0.0 slotted has.0.1 refl ss many n s consistent (below_there ps cs n m is slotted above) (rows_more rows) ts
        (queue ∙ ap (λ (x : Chain X). if length x.rows == 0 then ss else ss ++ (record { number = n; slot = p }) ∷ []) chain_pushed)

  module _ (ps : KeySlots) (cs : Chains X) (ss rest : List Superseding) (many : ℕ) (t : Superseding) (consistent : IsConsistent ps cs ss many) (front : ss ≡ t ∷ rest) where
    owner : IsOwned ps t.slot
    owner = owner_there ps cs t.slot t.number (waiting t.slot rest) consistent.slotted (second_there ps cs ss rest many t consistent front)

    pub slot_within : t.slot < length cs
    slot_within = consistent.slotted.within owner.0 t.slot owner.1

    module _ (c d : Chain X) (read : c ≡ get_or cs t.slot c) where
      chain_dropped : c ≡ chain_there cs t.slot
      chain_dropped = chain_found cs t.slot c slot_within read

      pub two_read : 1 < length c.rows
      two_read = subst (λ (x : Chain X). 1 < length x.rows) (sym chain_dropped) (two_there (rows_there cs t.slot) t.number (waiting t.slot rest) (second_there ps cs ss rest many t consistent front))

      rows_fewer : d.rows ≡ drop 1 c.rows → d.rows ≡ drop 1 (rows_there cs t.slot)
      rows_fewer rows = rows ∙ ap (λ (x : Chain X). drop 1 x.rows) chain_dropped

      pub count_dropped : d.rows ≡ drop 1 c.rows → count (by_key ps (set cs t.slot d)) + 1 ≡ count (by_key ps cs)
      count_dropped rows = one_less ps cs (set cs t.slot d) t.slot d owner.0 consistent.slotted owner.1 refl rest many 0 t.number ss consistent front (rows_fewer rows)

      pub consistent_dropped : d.rows ≡ drop 1 c.rows → IsConsistent ps (set cs t.slot d) rest (many - 1)
      consistent_dropped rows = dropped_consistent ps cs (set cs t.slot d) t.slot d owner.0 consistent.slotted owner.1 refl rest many 0 t.number ss consistent front (rows_fewer rows)

      pub left_dropped : (n : ℕ) → t.number ≤ n → d.rows ≡ drop 1 c.rows → compacted (by_key ps (set cs t.slot d)) n ≡ compacted (by_key ps cs) n
      left_dropped n upto rows = same_left ps cs (set cs t.slot d) t.slot d owner.0 consistent.slotted owner.1 refl rest many n t.number ss consistent front (rows_fewer rows) upto

      pub room_dropped : (c.roomy ≡ true → d.roomy ≡ true) → (room : Option ℕ) → IfSome room (HasRoom ps cs) → IfSome room (HasRoom ps (set cs t.slot d))
      room_dropped still None has = tt
      room_dropped still (Some p) has = (
        has.0,
        each_chain cs (set cs t.slot d) t.slot d slot_within refl (λ q (x : Chain X). is_roomy cs q ≡ true → x.roomy ≡ true)
            (λ was. still (ap (λ (x : Chain X). x.roomy) chain_dropped ∙ was)) (λ q other was. was) p has.1,
      )

  -- ---- the same rows in other chains

  pub still_consistent : (ps : KeySlots) (cs : Chains X) (qs : KeySlots) (ds : Chains X) (ss ts : List Superseding) (many : ℕ) → AreStill ps cs qs ds → HaveSlots qs ds → ts ≡ ss
      → IsConsistent ps cs ss many → IsConsistent qs ds ts many
  still_consistent ps cs qs ds ss ts many still slotted queue consistent = record {
    slotted = slotted;
    order = subst IsInOrder (sym queue) consistent.order;
    waits = λ p. ap (waiting p) queue ∙ consistent.waits p ∙ ap (λ rs. numbers (drop 1 rs)) (sym (still.rows p));
    counted = consistent.counted ∙ ap count (sym (same_rows ps cs qs ds still.by_key));
  }

  pub still_room : (ps : KeySlots) (cs : Chains X) (qs : KeySlots) (ds : Chains X) (room : Option ℕ) → AreStill ps cs qs ds → IfSome room (HasRoom ps cs) → IfSome room (HasRoom qs ds)
  still_room ps cs qs ds None still has = tt
  still_room ps cs qs ds (Some p) still has = still_owned ps qs cs ds p still has

  -- ---- what a contract sees

  abbrev pub seen : RowsByKey X → ℕ → Option Key → Versions X
  seen m floor room = record { rows = m; floor = floor; room = room }

  pub pushed_view : (ps : KeySlots) (cs ds : Chains X) (p n : ℕ) (k : Key) (s : Option X) (v : Versions X) (floor : ℕ) (room gone : Option ℕ) → seen (by_key ps cs) floor (room_key ps room) ≡ v
      → Some p ≡ room → key_at ps p ≡ Some k → gone ≡ None → by_key ps ds ≡ map.insert (by_key ps cs) k (rows_at (by_key ps cs) k ++ (n, s) ∷ [])
      → IfSome v.room (λ key. seen (by_key ps ds) floor (room_key ps gone) ≡ pushed v n key s)
  pushed_view ps cs ds p n k s v floor room gone view is at none rows =
      subst (λ (u : Versions X). IfSome u.room (λ key. seen (by_key ps ds) floor (room_key ps gone) ≡ pushed u n key s)) view
      (subst (λ (r : Option Key). IfSome r (λ key. seen (by_key ps ds) floor (room_key ps gone) ≡ pushed (seen (by_key ps cs) floor r) n key s)) (sym at ∙ ap (room_key ps) is)
      (ap (λ (r : Option ℕ). seen (by_key ps ds) floor (room_key ps r)) none ∙ ap (λ m. seen m floor None) rows))

  pub room_view : (ps : KeySlots) (cs : Chains X) (qs : KeySlots) (ds : Chains X) (k : Key) (v : Versions X) (floor p : ℕ) (room : Option Key) → seen (by_key ps cs) floor room ≡ v
      → AreStill ps cs qs ds → HaveSlots qs ds → get qs k ≡ Some p → seen (by_key qs ds) floor (room_key qs (Some p)) ≡ with_room v k
  room_view ps cs qs ds k v floor p room view still slotted there =
      ap (λ (r : Option Key). seen (by_key qs ds) floor r) (key_of qs ds k p slotted there) ∙ ap (λ m. seen m floor (Some k)) (same_rows ps cs qs ds still.by_key)
      ∙ ap (λ (u : Versions X). with_room u k) view

  pub same_view : (ps : KeySlots) (cs : Chains X) (qs : KeySlots) (ds : Chains X) (v : Versions X) (floor : ℕ) (room : Option ℕ) → seen (by_key ps cs) floor (room_key ps room) ≡ v
      → AreStill ps cs qs ds → HaveSlots ps cs → HaveSlots qs ds → IfSome room (HasRoom ps cs) → seen (by_key qs ds) floor (room_key qs room) ≡ v
  same_view ps cs qs ds v floor room view still slotted after has =
      ap (λ m. seen m floor (room_key qs room)) (same_rows ps cs qs ds still.by_key) ∙ ap (seen (by_key ps cs) floor) (by room has) ∙ view
    where
      by : (r : Option ℕ) → IfSome r (HasRoom ps cs) → room_key qs r ≡ room_key ps r
      by None held = refl
      by (Some p) held = key_of qs ds held.0.0 p after (still.keys held.0.0 p held.0.1) ∙ sym (key_of ps cs held.0.0 p slotted held.0.1)

  -- ---- what compaction leaves

  pub newest_left : (m : RowsByKey X) (n : ℕ) (k : Key) → newest (compacted m n) k ≡ newest m k
  newest_left m n k = ap last_row (rows_compacted m n k) ∙ last_kept n (rows_at m k)

  pub value_left : (m : RowsByKey X) (n r : ℕ) (k : Key) → n ≤ r → value (compacted m n) r k ≡ value m r k
  value_left m n r k from = ap (state_to r) (rows_compacted m n k) ∙ ap (option_and_then (λ x. x.1)) (row_kept n r (rows_at m k) from)

  -- ---- none yet

  no_rows : by_key {X = X} map.empty [] ≡ map.empty
  no_rows = by (entries {X = ℕ} {R = key_cmp} map.empty) (sym (len-entries {X = ℕ} {R = key_cmp} map.empty) ∙ len-empty key_cmp ℕ)
    where
      by : (es : List (Key × ℕ)) → length es ≡ 0 → rows_by {X = X} [] es ≡ map.empty
      by [] h = refl
      by (e ∷ es) h = absurd (omega arith)

  none_in : (es : List (Key × List (Row X))) → length es ≡ 0 → count_in es ≡ 0
  none_in [] h = refl
  none_in (e ∷ es) h = absurd (omega arith)

  none_counted : (m : RowsByKey X) → m ≡ map.empty → count m ≡ 0
  none_counted m is = none_in (entries m) (sym (len-entries m) ∙ ap map.len is ∙ len-empty key_cmp (List (Row X)))

  pub empty_view : (ps : KeySlots) (cs : Chains X) → ps ≡ map.empty → cs ≡ [] → seen (by_key ps cs) 0 None ≡ opening
  empty_view ps cs slots chains = ap (λ m. seen m 0 None) (ap (λ (m : KeySlots). by_key m cs) slots ∙ ap (λ (es : Chains X). by_key map.empty es) chains ∙ no_rows)

  pub none_consistent : (ps : KeySlots) (cs : Chains X) (ss : List Superseding) → ps ≡ map.empty → cs ≡ [] → ss ≡ [] → IsConsistent ps cs ss 0
  none_consistent ps cs ss slots chains queue =
      subst (λ (m : KeySlots). IsConsistent m cs ss 0) (sym slots) (subst (λ (es : Chains X). IsConsistent map.empty es ss 0) (sym chains)
      (subst (λ (ts : List Superseding). IsConsistent {X = X} map.empty [] ts 0) (sym queue) (record {
        slotted = record {
          within = λ k p at. absurd (none-some p (sym (get-empty key_cmp k) ∙ at));
          apart = λ k q p at. absurd (none-some p (sym (get-empty key_cmp k) ∙ at));
          owned = λ p some. absurd (omega arith);
        };
        order = tt;
        waits = λ p. refl;
        counted = sym (none_counted (by_key map.empty []) no_rows);
      })))

-- ---- the front of the queue

pub front_is : (ss : List Superseding) (s : Superseding) → 0 < length ss → s ≡ slice_index_or ss 0 s → ss ≡ s ∷ drop 1 ss
front_is [] s some is = absurd (omega (arith, some))
front_is (x ∷ ss) s some is = ap (λ y. y ∷ ss) (sym is)

pub same_front : (ss rest : List Superseding) (s t : Superseding) → s ≡ slice_index_or ss 0 s → ss ≡ t ∷ rest → s ≡ t
same_front ss rest s t is front = subst (λ xs. s ≡ slice_index_or xs 0 s) front is

pub no_front : (ss : List Superseding) → length ss ≡ 0 → ss ≡ []
no_front [] none = refl
no_front (x ∷ ss) none = absurd (omega (arith, none))

pub on_err : {A E P : Type 0} (r : Result A E) → P → OnErr r P
on_err (Ok x) p = tt
on_err (Err e) p = p
