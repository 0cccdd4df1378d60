-- A shard shows the log: when both begin, and after each event.
use Rattle.std.proofs.Common.{◌≡◌, ◌≢◌, ℕ, zero, suc, ◌+◌, ◌<◌, ◌≤◌, Bool, true, false, cond, ◌&&◌, List, [], ◌∷◌, ◌++◌, Option, Some, None, is_some, option_map, option_and_then, filter, refl, sym, ap, subst, ◌∙◌, arith, nat_lt, nat_le, ltb-true, true≢false}
use Rattle.std.specs.List.{AllByRecursion}
use Rattle.std.specs.Cmp.{nat_cmp_total}
use Rattle.std.specs.Option.{option_map_or, option_or}
use Rattle.std.specs.Ordering.{eq_by_cmp, nat_cmp}
use Rattle.std.specs.FinMap as map
use Rattle.std.specs.FinMap.{entries, entries-insert, get-empty, get-insert}
use Rattle.std.proofs.lemmas.Option.{none-some, same_Some}
use Rattle.objects.specs.declared.key.Key.{Key}
use Rattle.objects.specs.declared.object.Object.{Object}
use Rattle.requests.specs.Change.{kept}
use Rattle.requests.specs.declared.request.Request.{Request}
use Rattle.requests.specs.declared.version.Version.{Version}
use Rattle.requests.specs.Verdict.{verdict}
use Rattle.versions.specs.Compacted.{compacted}
use Rattle.versions.specs.Records as versions
use Rattle.versions.specs.Records.{IsAbove, Record, Records, current, last_of, newest, up_to, version_at}
use Rattle.versions.specs.Shard.{Shard}
use Rattle.versions.proofs.Above.{above_more, above_none, above_pushed, above_raised, raised_from}
use Rattle.versions.proofs.Found.{equal_numbers}
use Rattle.versions.proofs.Held.{all_below, no_records, put_last}
use Rattle.interleavings.specs.Log.{Log, Writing, last_write, newer_number, value}
use Rattle.history.specs.Mirrors.{IsCompacted, IsPublished, Mirrors, last_seen}
use Rattle.interleavings.specs.World.{Draw, Size, changed, shard}
use Rattle.interleavings.proofs.Basics.{ComparedKeys, same_key, other_key, compare_keys, Least, atmost, above, least, changed-same, changed-other, is_key_at}
use Rattle.interleavings.proofs.LastWrites.{last_all, last_other, last_put, value_newest, value_unwritten}
use Rattle.interleavings.proofs.Values.{value_none, value_put}

-- ---- readings of records

abbrev state : Option Record → Option Object
state o = option_and_then (λ r. r.1.state) o

abbrev number_and_state : Option Record → Option (ℕ × Option Object)
number_and_state o = option_map (λ r. (r.0, r.1.state)) o

last_more : (k : Key) (es : List Record) (e : Record) → last_of k (es ++ e ∷ []) ≡ cond (is_key_at k e.1.key) (Some e) (last_of k es)
last_more k [] e = refl
last_more k (x ∷ es) e = ap (λ o. option_or o (cond (is_key_at k x.1.key) (Some x) None)) (last_more k es e) ∙ by (is_key_at k e.1.key)
  where
    by : (b : Bool) → option_or (cond b (Some e) (last_of k es)) (cond (is_key_at k x.1.key) (Some x) None) ≡ cond b (Some e) (option_or (last_of k es) (cond (is_key_at k x.1.key) (Some x) None))
    by true = refl
    by false = refl

last_upto : (k : Key) (n : ℕ) (es : List Record) (e : Record) → last_of k (filter (λ r. nat_le r.0 n) (es ++ e ∷ [])) ≡ cond (nat_le e.0 n && is_key_at k e.1.key) (Some e) (last_of k (filter (λ r. nat_le r.0 n) es))
last_upto k n [] e = by (nat_le e.0 n)
  where
    by : (b : Bool) → last_of k (cond b (e ∷ []) []) ≡ cond (b && is_key_at k e.1.key) (Some e) None
    by true = refl
    by false = refl
last_upto k n (x ∷ es) e = by (nat_le x.0 n) (last_upto k n es e)
  where
    before : (b : Bool) → option_or (cond b (Some e) (last_of k (filter (λ r. nat_le r.0 n) es))) (cond (is_key_at k x.1.key) (Some x) None) ≡ cond b (Some e) (option_or (last_of k (filter (λ r. nat_le r.0 n) es)) (cond (is_key_at k x.1.key) (Some x) None))
    before true = refl
    before false = refl

    by : (b : Bool) → last_of k (filter (λ r. nat_le r.0 n) (es ++ e ∷ [])) ≡ cond (nat_le e.0 n && is_key_at k e.1.key) (Some e) (last_of k (filter (λ r. nat_le r.0 n) es))
        → last_of k (cond b (x ∷ filter (λ r. nat_le r.0 n) (es ++ e ∷ [])) (filter (λ r. nat_le r.0 n) (es ++ e ∷ []))) ≡ cond (nat_le e.0 n && is_key_at k e.1.key) (Some e) (last_of k (cond b (x ∷ filter (λ r. nat_le r.0 n) es) (filter (λ r. nat_le r.0 n) es)))
    by true ih = ap (λ o. option_or o (cond (is_key_at k x.1.key) (Some x) None)) ih ∙ before (nat_le e.0 n && is_key_at k e.1.key)
    by false ih = ih

module _ (rs : Records) (n : ℕ) (v : Version) (free : IsAbove rs n) where
  at_end : entries (map.insert rs n v) ≡ entries rs ++ (n, v) ∷ []
  at_end = entries-insert nat_cmp_total rs n v ∙ put_last n v (entries rs) (all_below rs n free)

  newest_pushed : (k : Key) → newest (map.insert rs n v) k ≡ cond (is_key_at k v.key) (Some (n, v.state)) (newest rs k)
  newest_pushed k = ap (λ es. number_and_state (last_of k es)) at_end ∙ ap number_and_state (last_more k (entries rs) (n, v)) ∙ by (is_key_at k v.key)
    where
      by : (b : Bool) → number_and_state (cond b (Some (n, v)) (last_of k (entries rs))) ≡ cond b (Some (n, v.state)) (newest rs k)
      by true = refl
      by false = refl

  value_pushed : (m : ℕ) (k : Key) → versions.value (map.insert rs n v) m k ≡ cond (nat_le n m && is_key_at k v.key) v.state (versions.value rs m k)
  value_pushed m k = ap (λ es. state (last_of k (filter (λ r. nat_le r.0 m) es))) at_end ∙ ap state (last_upto k m (entries rs) (n, v)) ∙ by (nat_le n m && is_key_at k v.key)
    where
      by : (b : Bool) → state (cond b (Some (n, v)) (last_of k (up_to rs m))) ≡ cond b v.state (versions.value rs m k)
      by true = refl
      by false = refl

-- the number of the newest record of a key is below each that is above all records
newest_below : (rs : Records) (n : ℕ) → IsAbove rs n → (k : Key) (m : ℕ) (o : Option Object) → newest rs k ≡ Some (m, o) → m < n
newest_below rs n free k m o is = at (last_of k (entries rs)) (in_last (entries rs) (all_below rs n free)) is
  where
    Below : Option Record → Type 0
    Below None = Unit {0}
    Below (Some r) = r.0 < n

    in_last : (es : List Record) → AllByRecursion (λ (r : Record). r.0 < n) es → Below (last_of k es)
    in_last [] all = tt
    in_last (e ∷ es) all = by (last_of k es) (is_key_at k e.1.key) (in_last es all.1)
      where
        by : (l : Option Record) (b : Bool) → Below l → Below (option_or l (cond b (Some e) None))
        by (Some r) b below = below
        by None true below = all.0
        by None false below = tt

    at : (l : Option Record) → Below l → number_and_state l ≡ Some (m, o) → m < n
    at None below is = absurd cc
    at (Some r) below is = let same : r.0 ≡ m = ap (λ (p : ℕ × Option Object). p.0) (same_Some (r.0, r.1.state) (m, o) is) in omega (arith, below)

-- ---- when both begin

pub mirrors_opening : (z : Size) (s : ℕ) → Mirrors z (λ i. None) 0 s map.empty 0
mirrors_opening z s = record {
  newest = λ k here. ap (λ es. number_and_state (last_of k es)) no_records;
  values = λ n k le here. ap (λ es. state (last_of k (filter (λ r. nat_le r.0 n) es))) no_records ∙ sym (no_value n k);
  others = λ n k le apart. ap (λ es. state (last_of k (filter (λ r. nat_le r.0 n) es))) no_records;
  above = above_none 1;
  published = λ n there. absurd (true≢false (sym there ∙ ap is_some (get-empty nat_cmp n)));
}
  where
    no_value : (n : ℕ) (k : Key) → value (λ i. None) n k ≡ None
    no_value zero k = refl
    no_value (suc n) k = no_value n k

-- ---- after each event

same_seen : (n m : ℕ) (o p : Option Object) → n ≡ m → o ≡ p → last_seen n o ≡ last_seen m p
same_seen n m o p number left = ap (λ x. last_seen x o) number ∙ ap (last_seen m) left

module _ {z : Size} {log : Log} {d s : ℕ} {rs : Records} {f : ℕ} (shown : Mirrors z log d s rs f) where
  -- a number is drawn
  pub mirrors_drawn : log d ≡ None → Mirrors z log (suc d) s rs f
  mirrors_drawn empty = record {
    newest = λ k here. shown.newest k here
        ∙ same_seen (last_write log d k) (last_write log (suc d) k) (value log d k) (value log (suc d) k)
        (sym (ap (λ o. newer_number o d k (last_write log d k)) empty)) (sym (value_none log d k empty));
    values = shown.values;
    others = shown.others;
    above = above_more rs (suc d) (suc (suc d)) (omega arith) shown.above;
    published = shown.published;
  }

  -- the other writes stay published when one is published
  published_still : (i : ℕ) (t : Writing) → log i ≡ None → (n : ℕ) → IsPublished z log s n → IsPublished z (changed log i (Some t)) s n
  published_still i t empty n p = record {
    index = p.index;
    writing = p.writing;
    follows = p.follows;
    filled = changed-other log i (Some t) p.index (λ e. absurd (none-some p.writing (sym empty ∙ ap log (sym e) ∙ p.filled))) ∙ p.filled;
    here = p.here;
  }

  -- a write of another shard is published
  pub mirrors_beside : (i : ℕ) (t : Writing) → log i ≡ None → shard z t.key ≢ s → Mirrors z (changed log i (Some t)) d s rs f
  mirrors_beside i t empty beside = record {
    newest = λ k here. shown.newest k here
        ∙ same_seen (last_write log d k) (last_write (changed log i (Some t)) d k) (value log d k) (value (changed log i (Some t)) d k)
        (sym (last_other log i t empty k (not_its k here) d)) (sym (left d k here));
    values = λ n k le here. shown.values n k le here ∙ sym (left n k here);
    others = shown.others;
    above = shown.above;
    published = λ n there. published_still i t empty n (shown.published n there);
  }
    where
      not_its : (k : Key) → shard z k ≡ s → k ≢ t.key
      not_its k here same = beside (ap (shard z) (sym same) ∙ here)

      left : (n : ℕ) (k : Key) → shard z k ≡ s → value (changed log i (Some t)) n k ≡ value log n k
      left n k here = value_put log i t empty n k (λ same. absurd (not_its k here (sym same)))

  -- a draw that comes after all writes of its shard is above all records
  pub above_draw : (x : Draw) → shard z x.writing.key ≡ s → ((i : ℕ) (t : Writing) → log i ≡ Some t → shard z t.key ≡ shard z x.writing.key → i < x.index) → IsAbove rs (suc x.index)
  above_draw x its latest n there =
      let p = shown.published n there in
      let follows = p.follows in
      let less = latest p.index p.writing p.filled (p.here ∙ sym its) in omega arith

  -- the last write of each key of the shard is below any number that is above all records
  last_below : (n : ℕ) → IsAbove rs (suc n) → (k : Key) → shard z k ≡ s → last_write log d k ≤ n
  last_below n free k here = by (last_write log d k) (shown.newest k here)
    where
      by : (m : ℕ) → newest rs k ≡ last_seen m (value log d k) → m ≤ n
      by zero is = omega arith
      by (suc m) is = let less = newest_below rs (suc n) free k (suc m) (value log d k) is in omega arith

  -- a write of this shard is published, and its record added
  module _ (i : ℕ) (t : Writing) (empty : log i ≡ None) (drawn : i < d) (none : (j : ℕ) → d ≤ j → log j ≡ None) (here : shard z t.key ≡ s) (free : IsAbove rs (suc i)) where
    abbrev log' : Log
    log' = changed log i (Some t)

    abbrev record_of : Version
    record_of = version_at t.key (kept t.change (suc i))

    before : (n : ℕ) → last_write log n t.key ≤ i
    before n = let all = last_all log d none n t.key in let last = last_below i free t.key here in omega arith

    newest_now : (k : Key) → shard z k ≡ s → ComparedKeys k t.key → cond (is_key_at k t.key) (Some (suc i, kept t.change (suc i))) (newest rs k) ≡ last_seen (last_write log' d k) (value log' d k)
    newest_now k in_shard (same_key ke kb) =
        ap (λ b. cond b (Some (suc i, kept t.change (suc i))) (newest rs k)) kb
        ∙ same_seen (suc i) (last_write log' d t.key) (kept t.change (suc i)) (value log' d t.key) (sym (last_put log i t d drawn (before d))) (sym (value_newest log i t d drawn (before d)))
        ∙ ap (λ q. last_seen (last_write log' d q) (value log' d q)) (sym ke)
    newest_now k in_shard (other_key ne kb) =
        ap (λ b. cond b (Some (suc i, kept t.change (suc i))) (newest rs k)) kb ∙ shown.newest k in_shard
        ∙ same_seen (last_write log d k) (last_write log' d k) (value log d k) (value log' d k) (sym (last_other log i t empty k ne d)) (sym (value_put log i t empty d k (λ same. absurd (ne (sym same)))))

    same_value : (n : ℕ) (k : Key) → k ≢ t.key → is_key_at k t.key ≡ false → cond (nat_le (suc i) n && is_key_at k t.key) (kept t.change (suc i)) (versions.value rs n k) ≡ versions.value rs n k
    same_value n k ne kb = ap (λ b. cond (nat_le (suc i) n && b) (kept t.change (suc i)) (versions.value rs n k)) kb ∙ by (nat_le (suc i) n)
      where
        by : (b : Bool) → cond (b && false) (kept t.change (suc i)) (versions.value rs n k) ≡ versions.value rs n k
        by true = refl
        by false = refl

    value_now : (n : ℕ) (k : Key) → f ≤ n → shard z k ≡ s → ComparedKeys k t.key → Least (suc i) n → cond (nat_le (suc i) n && is_key_at k t.key) (kept t.change (suc i)) (versions.value rs n k) ≡ value log' n k
    value_now n k le in_shard (same_key ke kb) (atmost lt b) =
        ap (λ b. cond (b && is_key_at k t.key) (kept t.change (suc i)) (versions.value rs n k)) b ∙ ap (λ b. cond b (kept t.change (suc i)) (versions.value rs n k)) kb
        ∙ sym (value_newest log i t n (omega arith) (before n)) ∙ ap (value log' n) (sym ke)
    value_now n k le in_shard (same_key ke kb) (above lt b) =
        ap (λ b. cond (b && is_key_at k t.key) (kept t.change (suc i)) (versions.value rs n k)) b ∙ shown.values n k le in_shard ∙ sym (value_put log i t empty n k (λ same. omega arith))
    value_now n k le in_shard (other_key ne kb) at =
        same_value n k ne kb ∙ shown.values n k le in_shard ∙ sym (value_put log i t empty n k (λ same. absurd (ne (sym same))))

    none_now : (n : ℕ) (k : Key) → f ≤ n → shard z k ≢ s → ComparedKeys k t.key → cond (nat_le (suc i) n && is_key_at k t.key) (kept t.change (suc i)) (versions.value rs n k) ≡ None
    none_now n k le apart (same_key ke kb) = absurd (apart (ap (shard z) ke ∙ here))
    none_now n k le apart (other_key ne kb) = same_value n k ne kb ∙ shown.others n k le apart

    published_now : (n : ℕ) → (b : Bool) → eq_by_cmp nat_cmp n (suc i) ≡ b → is_some (cond b (Some record_of) (map.get rs n)) ≡ true → IsPublished z log' s n
    published_now n true tie there = record { index = i; writing = t; follows = equal_numbers n (suc i) tie; filled = changed-same log i (Some t); here = here }
    published_now n false tie there = published_still i t empty n (shown.published n there)

    mirrors_now : Mirrors z log' d s (map.insert rs (suc i) record_of) f
    mirrors_now = record {
      newest = λ k in_shard. newest_pushed rs (suc i) record_of free k ∙ newest_now k in_shard (compare_keys k t.key);
      values = λ n k le in_shard. value_pushed rs (suc i) record_of free n k ∙ value_now n k le in_shard (compare_keys k t.key) (least (suc i) n);
      others = λ n k le apart. value_pushed rs (suc i) record_of free n k ∙ none_now n k le apart (compare_keys k t.key);
      above = above_more (map.insert rs (suc i) record_of) (suc i + 1) (suc d) (omega arith) (above_pushed rs (suc i) record_of free);
      published = λ n there. published_now n (eq_by_cmp nat_cmp n (suc i)) refl (sym (ap is_some (get-insert nat_cmp_total rs (suc i) record_of n)) ∙ there);
    }

    pub mirrors_pushed : (n : ℕ) (v : Version) → n ≡ suc i → v ≡ version_at t.key (kept t.change n) → Mirrors z (changed log i (Some t)) d s (map.insert rs n v) f
    mirrors_pushed n v number is =
        subst (λ (m : ℕ). Mirrors z log' d s (map.insert rs m v) f) (sym number)
        (subst (λ (w : Version). Mirrors z log' d s (map.insert rs (suc i) w) f) (sym (is ∙ ap (λ m. version_at t.key (kept t.change m)) number)) mirrors_now)

-- the shard is compacted
module _ (a b : Shard) (n : ℕ) (is : IsCompacted n a b) (above : a.floor ≤ n) where
  pub floor_raised : b.floor ≡ n
  floor_raised = ap (λ (c : Shard). c.floor) is.raised_is ∙ by (nat_lt n a.floor) refl
    where
      by : (c : Bool) → nat_lt n a.floor ≡ c → (cond c a (record { records = compacted a.records n; floor = n; room = a.room })).floor ≡ n
      by true e = let lt = ltb-true n a.floor e in absurd (omega arith)
      by false e = refl

  pub mirrors_raised : {z : Size} {log : Log} {d s : ℕ} → Mirrors z log d s a.records a.floor → Mirrors z log d s b.records b.floor
  mirrors_raised {d = d} shown = record {
    newest = λ k here. is.newest_stays k ∙ shown.newest k here;
    values = λ m k le here. is.values_stay m k le ∙ shown.values m k (lower m le) here;
    others = λ m k le apart. is.values_stay m k le ∙ shown.others m k (lower m le) apart;
    above = subst (λ (c : Shard). IsAbove c.records (suc d)) (sym is.raised_is) (above_raised a n (suc d) shown.above);
    published = λ m there. shown.published m (raised_from a n m (sym (ap (λ (c : Shard). map.contains_key c.records m) is.raised_is) ∙ there));
  }
    where
      lower : (m : ℕ) → b.floor ≤ m → a.floor ≤ m
      lower m le = let floor = floor_raised in omega arith

-- ---- what is read of the shard, in terms of the log

-- the number that a caller sees, and what the key is now
pub number_seen : (n : ℕ) (o : Option Object) (found : Option (ℕ × Option Object)) → found ≡ last_seen n o → option_map_or (λ p. p.0) found 0 ≡ n
number_seen n o found is = ap (λ p. option_map_or (λ (p : ℕ × Option Object). p.0) p 0) is ∙ by n
  where
    by : (n : ℕ) → option_map_or (λ (p : ℕ × Option Object). p.0) (last_seen n o) 0 ≡ n
    by zero = refl
    by (suc n) = refl

module _ {z : Size} {log : Log} {d s : ℕ} {rs : Records} {f : ℕ} (shown : Mirrors z log d s rs f) (k : Key) (here : shard z k ≡ s) where
  pub last_is : option_map_or (λ p. p.0) (newest rs k) 0 ≡ last_write log d k
  last_is = number_seen (last_write log d k) (value log d k) (newest rs k) (shown.newest k here)

  pub current_is : current rs k ≡ value log d k
  current_is = by_record (last_of k (entries rs)) ∙ ap (option_and_then (λ p. p.1)) (shown.newest k here) ∙ by (last_write log d k) refl
    where
      by_record : (o : Option Record) → option_and_then (λ r. r.1.state) o ≡ option_and_then (λ p. p.1) (number_and_state o)
      by_record None = refl
      by_record (Some r) = refl

      by : (n : ℕ) → last_write log d k ≡ n → option_and_then (λ (p : ℕ × Option Object). p.1) (last_seen n (value log d k)) ≡ value log d k
      by zero e = sym (value_unwritten log d k e)
      by (suc n) e = refl

  pub verdict_is : (r : Request) → verdict r (current rs k) ≡ verdict r (value log d k)
  verdict_is r = ap (verdict r) current_is
