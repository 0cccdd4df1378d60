-- The callers that were used, as controllers begin and as they crash.
use Rattle.std.proofs.Common.{◌≡◌, ◌≢◌, ◌==◌, ℕ, zero, suc, ◌+◌, ◌<◌, ◌≤◌, Bool, true, false, cond, ◌||◌, List, ◌∷◌, length, Option, Some, None, refl, sym, ap, ◌∙◌, subst, arith, get_or, set, get_or-set_other, get_or-set_same, ltb-true}
use Rattle.std.specs.Prelude.{IfSome, is_some, nat_lt, option_and_then, option_map}
use Rattle.std.specs.BTreeMap.{btree_map_len, get}
use Rattle.std.specs.List.{list_any, range_with_len}
use Rattle.std.specs.Ordering.{nat_cmp}
use Rattle.std.proofs.lemmas.Bool.{false≢true}
use Rattle.std.proofs.lemmas.List.FromFn.{length-range_with_len}
use Rattle.std.proofs.lemmas.List.{length-set}
use Rattle.std.proofs.lemmas.Option.{none-some}
use Rattle.interleavings.proofs.Basics.{Compared, Least, above, atmost, compare, eq_self, least, other, same}
use Rattle.history.proofs.Stepping.{lt_false, lt_true}
use Rattle.rounds.specs.Transcript.{Incarnation}
use Rattle.rounds.specs.World.{put}
use Rattle.cluster_runs.specs.Cluster.{Cluster, first_incarnation, is_used, incarnation_after, lowest_unused, start, with_crash}
use Rattle.cluster_runs.proofs.Kept.{among, put_other, put_same}
use Rattle.cluster_runs.specs.UsedCallers.{AreCallers, HoldsCallers, owner}
use Rattle.cluster_runs.specs.Ran.{owner_in}
use Rattle.cluster_runs.specs.declared.callers.UsedCallers.{UsedCallers}
use Rattle.cluster_runs.proofs.Lowest.{as_many, lowest_is}

-- ---- the owners and the callers

module _ (count : ℕ) (k : Cluster) (callers : UsedCallers) (are : AreCallers count k callers) where
  pub unused_lowest : (n : ℕ) → get nat_cmp callers.owners n ≡ None → is_used k n ≡ false
  unused_lowest n none = by (is_used k n) refl
    where
      by : (b : Bool) → is_used k n ≡ b → is_used k n ≡ false
      by true is = absurd (none-some _ (sym none ∙ are.owners n ∙ ap (λ b. cond b (Some (owner k.incarnations n)) None) is))
      by false is = is

  used_by : (n : ℕ) → is_some (get nat_cmp callers.owners n) ≡ true → is_used k n ≡ true
  used_by n some = by (is_used k n) refl
    where
      by : (b : Bool) → is_used k n ≡ b → is_used k n ≡ true
      by true is = is
      by false is = absurd (false≢true (sym (ap is_some (are.owners n ∙ ap (λ b. cond b (Some (owner k.incarnations n)) None) is)) ∙ some))

  -- the owner of each caller is the controller whose incarnation it is or was
  pub owned_by : (n : ℕ) → owner_in callers.owners n ≡ owner k.incarnations n
  owned_by n = by (is_used k n) refl
    where
      by : (b : Bool) → is_used k n ≡ b → owner_in callers.owners n ≡ owner k.incarnations n
      by true is = ap (option_and_then (λ who. who)) (are.owners n ∙ ap (λ b. cond b (Some (owner k.incarnations n)) None) is)
      by false is =
          ap (option_and_then (λ who. who)) (are.owners n ∙ ap (λ b. cond b (Some (owner k.incarnations n)) None) is)
          ∙ sym (ap (option_map (λ (incarnation : Incarnation). incarnation.controller)) (are.unborn n is))

  pub used_below : (n : ℕ) → ((m : ℕ) → callers.unused ≤ m → m < n → is_some (get nat_cmp callers.owners m) ≡ true) → (m : ℕ) → m < n → is_used k m ≡ true
  used_below n others m low = by (least callers.unused m)
    where
      by : Least callers.unused m → is_used k m ≡ true
      by (atmost le e) = used_by m (others m le low)
      by (above lt e) = are.below m lt

  -- if each of the lowest callers was used, there are as many
  pub all_used : ((m : ℕ) → callers.unused ≤ m → m < 4096 → is_some (get nat_cmp callers.owners m) ≡ true) → 4096 < suc (length k.used)
  all_used others = let many = as_many 4096 k.used (used_below 4096 others) in omega (arith, many)

  -- one caller beyond the most that may be used was not used
  pub none_left : ((m : ℕ) → callers.unused ≤ m → m < 4097 → is_some (get nat_cmp callers.owners m) ≡ true) → ⊥
  none_left others = let many = as_many 4097 k.used (used_below 4097 others) in let most = are.few in absurd (omega (arith, many, most))

  pub lowest_here : (n : ℕ) → get nat_cmp callers.owners n ≡ None → ((m : ℕ) → callers.unused ≤ m → m < n → is_some (get nat_cmp callers.owners m) ≡ true) → n ≡ lowest_unused k
  lowest_here n none others = sym (lowest_is k n (unused_lowest n none) (used_below n others))

-- ---- one caller more

pub among_first : (n : ℕ) (used : List ℕ) → among (n ∷ used) n ≡ true
among_first n used = ap (λ b. b || among used n) (eq_self n)

pub among_later : (n : ℕ) (used : List ℕ) (m : ℕ) → among used m ≡ true → among (n ∷ used) m ≡ true
among_later n used m there = by (n == m)
  where
    by : (b : Bool) → (b || among used m) ≡ true
    by true = refl
    by false = there

among_other : (n : ℕ) (used : List ℕ) (m : ℕ) → m ≢ n → among (n ∷ used) m ≡ among used m
among_other n used m apart = by (compare n m)
  where
    by : Compared n m → among (n ∷ used) m ≡ among used m
    by (same e b) = absurd (apart (sym e))
    by (other ne b) = ap (λ b. b || among used m) b

pub not_among : (n : ℕ) (used : List ℕ) (m : ℕ) → among (n ∷ used) m ≡ false → (m ≢ n) × (among used m ≡ false)
not_among n used m fresh = (apart, sym (among_other n used m apart) ∙ fresh)
  where
    apart : m ≢ n
    apart e = false≢true (sym fresh ∙ ap (among (n ∷ used)) e ∙ among_first n used)

-- the owners with one more
abbrev pub IsPut : (old new : UsedCallers) → ℕ → Option ℕ → Type 0
IsPut old new n who = (m : ℕ) → get nat_cmp new.owners m ≡ cond (m == n) (Some who) (get nat_cmp old.owners m)

owners_more : (old new : UsedCallers) (n : ℕ) (who : Option ℕ) (used : List ℕ) (incarnations incarnations' : ℕ → Option Incarnation) → IsPut old new n who → owner incarnations' n ≡ who
    → ((m : ℕ) → m ≢ n → incarnations' m ≡ incarnations m)
    → ((m : ℕ) → get nat_cmp old.owners m ≡ cond (among used m) (Some (owner incarnations m)) None)
    → (m : ℕ) → get nat_cmp new.owners m ≡ cond (among (n ∷ used) m) (Some (owner incarnations' m)) None
owners_more old new n who used incarnations incarnations' puts here others was m = by (compare m n)
  where
    by : Compared m n → get nat_cmp new.owners m ≡ cond (among (n ∷ used) m) (Some (owner incarnations' m)) None
    by (same e b) =
        puts m ∙ ap (λ b. cond b (Some who) (get nat_cmp old.owners m)) b ∙ ap Some (sym here ∙ ap (owner incarnations') (sym e))
        ∙ sym (ap (λ b. cond b (Some (owner incarnations' m)) None) (ap (among (n ∷ used)) e ∙ among_first n used))
    by (other ne b) =
        puts m ∙ ap (λ b. cond b (Some who) (get nat_cmp old.owners m)) b ∙ was m
        ∙ ap (λ (incarnation : Option Incarnation). cond (among used m) (Some (option_map (λ (l : Incarnation). l.controller) incarnation)) None) (sym (others m ne))
        ∙ sym (ap (λ b. cond b (Some (owner incarnations' m)) None) (among_other n used m ne))

-- ---- another caller of a controller

pub renewed : (count : ℕ) (k : Cluster) (c n : ℕ) (old new : UsedCallers) → AreCallers count k old → c < count → is_used k n ≡ false → ((m : ℕ) → m < n → is_used k m ≡ true)
    → new.present.items ≡ set old.present.items c n → new.unused ≡ n → IsPut old new n (Some c) → btree_map_len new.owners ≡ btree_map_len old.owners + 1
    → btree_map_len old.owners ≢ 4096 → AreCallers count (with_crash k c) new
renewed count k c n old new are there fresh lowest changed unused puts many few =
    subst (λ m. HoldsCallers count (put k.callers c m) (m ∷ k.used) (put k.incarnations m (Some (incarnation_after k c))) new) (sym (lowest_is k n fresh lowest)) (record {
      count_is = ap length changed ∙ length-set old.present.items c n ∙ are.count_is;
      present_is = present;
      owners = owners_more old new n (Some c) k.used k.incarnations (put k.incarnations n (Some (incarnation_after k c))) puts mine (λ m apart. put_other k.incarnations n (Some (incarnation_after k c)) m apart) are.owners;
      many = (let had = are.many in omega (arith, many, had));
      few = (let had = are.many in let most = are.few in omega (arith, few, had, most));
      below = λ m low. among_later n k.used m (lowest m (subst (λ u. m < u) unused low));
      own = own;
      there = has;
      unborn = λ m free. let rest = not_among n k.used m free in put_other k.incarnations n (Some (incarnation_after k c)) m rest.0 ∙ are.unborn m rest.1;
    })
  where
    mine : owner (put k.incarnations n (Some (incarnation_after k c))) n ≡ Some c
    mine = ap (option_map (λ (l : Incarnation). l.controller)) (put_same k.incarnations n (Some (incarnation_after k c)))

    kept : (m : ℕ) → m ≢ n → owner (put k.incarnations n (Some (incarnation_after k c))) m ≡ owner k.incarnations m
    kept m apart = ap (option_map (λ (l : Incarnation). l.controller)) (put_other k.incarnations n (Some (incarnation_after k c)) m apart)

    present : (d : ℕ) → d < count → get_or new.present.items d 0 ≡ put k.callers c n d
    present d low = by (compare d c)
      where
        by : Compared d c → get_or new.present.items d 0 ≡ put k.callers c n d
        by (same e b) =
            ap (λ xs. get_or xs d 0) changed ∙ ap (λ i. get_or (set old.present.items c n) i 0) e
            ∙ get_or-set_same old.present.items c n 0 (let many = are.count_is in omega (arith, many, there)) ∙ sym (ap (λ b. cond b n (k.callers d)) b)
        by (other ne b) =
            ap (λ xs. get_or xs d 0) changed ∙ get_or-set_other old.present.items c d n 0 ne ∙ are.present_is d low ∙ sym (ap (λ b. cond b n (k.callers d)) b)

    -- a caller with an incarnation was used
    had : (d : ℕ) → d < count → k.callers d ≢ n
    had d low e = none-some d (sym (ap (option_map (λ (l : Incarnation). l.controller)) (ap k.incarnations e ∙ are.unborn n fresh)) ∙ are.own d low)

    own : (d : ℕ) → d < count → owner (put k.incarnations n (Some (incarnation_after k c))) (put k.callers c n d) ≡ Some d
    own d low = by (compare d c)
      where
        by : Compared d c → owner (put k.incarnations n (Some (incarnation_after k c))) (put k.callers c n d) ≡ Some d
        by (same e b) = ap (λ b. owner (put k.incarnations n (Some (incarnation_after k c))) (cond b n (k.callers d))) b ∙ mine ∙ ap Some (sym e)
        by (other ne b) = ap (λ b. owner (put k.incarnations n (Some (incarnation_after k c))) (cond b n (k.callers d))) b ∙ kept (k.callers d) (had d low) ∙ are.own d low

    has : (m : ℕ) → IfSome (owner (put k.incarnations n (Some (incarnation_after k c))) m) (λ d. d < count)
    has m = by (compare m n)
      where
        by : Compared m n → IfSome (owner (put k.incarnations n (Some (incarnation_after k c))) m) (λ d. d < count)
        by (same e b) = subst (λ o. IfSome o (λ d. d < count)) (sym (ap (owner (put k.incarnations n (Some (incarnation_after k c)))) e ∙ mine)) there
        by (other ne b) = subst (λ o. IfSome o (λ d. d < count)) (sym (kept m ne)) (are.there m)

-- ---- controllers that begin

in_range : (n len a : ℕ) → a ≤ n → n < a + len → list_any (λ m. m == n) (range_with_len a len) ≡ true
in_range n zero a low high = absurd (omega arith)
in_range n (suc len) a low high = by (compare a n) (λ less. in_range n len (a + 1) less (omega arith))
  where
    by : Compared a n → (a + 1 ≤ n → list_any (λ m. m == n) (range_with_len (a + 1) len) ≡ true) → ((a == n) || list_any (λ m. m == n) (range_with_len (a + 1) len)) ≡ true
    by (same e b) rest = ap (λ b. b || list_any (λ m. m == n) (range_with_len (a + 1) len)) b
    by (other ne b) rest = ap (λ b. b || list_any (λ m. m == n) (range_with_len (a + 1) len)) b ∙ rest (omega arith)

past_range : (n len a : ℕ) → a + len ≤ n → list_any (λ m. m == n) (range_with_len a len) ≡ false
past_range n zero a past = refl
past_range n (suc len) a past = by (compare a n) (past_range n len (a + 1) (omega arith))
  where
    by : Compared a n → list_any (λ m. m == n) (range_with_len (a + 1) len) ≡ false → ((a == n) || list_any (λ m. m == n) (range_with_len (a + 1) len)) ≡ false
    by (same e b) rest = absurd (omega arith)
    by (other ne b) rest = ap (λ b. b || list_any (λ m. m == n) (range_with_len (a + 1) len)) b ∙ rest

used_at_start : (count n : ℕ) → is_used (start count) n ≡ nat_lt n count
used_at_start count n = by (least count n)
  where
    by : Least count n → is_used (start count) n ≡ nat_lt n count
    by (atmost le e) = past_range n count 0 (omega arith) ∙ sym (lt_false n count le)
    by (above lt e) = in_range n count 0 (omega arith) (omega arith) ∙ sym (lt_true n count lt)

pub started : (count : ℕ) (callers : UsedCallers) → length callers.present.items ≡ count → ((c : ℕ) → c < count → get_or callers.present.items c 0 ≡ c)
    → ((n : ℕ) → get nat_cmp callers.owners n ≡ cond (nat_lt n count) (Some (Some n)) None) → btree_map_len callers.owners ≡ count → callers.unused ≡ 0
    → count ≤ 4096 → AreCallers count (start count) callers
started count callers counted own owners many none few = record {
  count_is = counted;
  present_is = own;
  owners = λ n. owners n ∙ both (nat_lt n count) n ∙ sym (ap (λ b. cond b (Some (owner (first_incarnation count) n)) None) (used_at_start count n));
  many = many ∙ sym (length-range_with_len 0 count);
  few = (let same = length-range_with_len 0 count in omega (arith, same, few));
  below = λ n low. absurd (omega (arith, none, low));
  own = λ c low. ap (λ b. option_map (λ (l : Incarnation). l.controller) (cond b (Some (record { controller = c; crashes = 0 })) None)) (lt_true c count low);
  there = λ n. there n (nat_lt n count) refl;
  unborn = λ n fresh. ap (λ b. cond b (Some (record { controller = n; crashes = 0 })) None) (sym (used_at_start count n) ∙ fresh);
}
  where
    both : (b : Bool) (n : ℕ) → cond b (Some (Some n)) None ≡ cond b (Some (option_map (λ (l : Incarnation). l.controller) (cond b (Some (record { controller = n; crashes = 0 })) None))) None
    both true n = refl
    both false n = refl

    there : (n : ℕ) (b : Bool) → nat_lt n count ≡ b → IfSome (option_map (λ (l : Incarnation). l.controller) (cond b (Some (record { controller = n; crashes = 0 })) None)) (λ c. c < count)
    there n true is = ltb-true n count is
    there n false is = tt
