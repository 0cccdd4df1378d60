-- A shard and its seat agree after each step under the lock.
use Rattle.std.proofs.Common.{◌≡◌, ℕ, ◌<◌, ◌≤◌, Bool, true, false, cond, List, [], ◌∷◌, ◌++◌, filter, length, get_or, Option, Some, None, Result, Ok, Err, OnOk, OnErr, is_some, option_map, refl, sym, ap, subst, ◌∙◌, arith, nat_lt, nat_le, if◌then◌else◌, true≢false, lt_of_not-le}
use Rattle.std.specs.List.{All, Contains}
use Rattle.std.specs.Cmp.{nat_cmp_total}
use Rattle.std.specs.Option.{option_or}
use Rattle.std.specs.FinMap.{contains_key, entries, entries-insert, get-empty, insert}
use Rattle.std.specs.Ordering.{eq_by_cmp, nat_cmp}
use Rattle.std.proofs.lemmas.Bool.Decides.{nat_tests}
use Rattle.std.proofs.lemmas.List.{append-nil, get_or_append_left, get_or_push, length_push}
use Rattle.std.proofs.lemmas.List.Elements.{All-contains}
use Rattle.std.proofs.lemmas.Option.{none-some}
use mathlib.Core.List.{map-append}
use mathlib.Core.Logic.{dite}
use native.Mathlib.Decide.{dec_le}
use Rattle.memory.specs.declared.Memory.{Memory}
use Rattle.objects.specs.declared.key.Key.{Key}
use Rattle.objects.specs.declared.object.Object.{Object}
use Rattle.objects.specs.Key.{key_cmp}
use Rattle.requests.specs.Change.{version_of}
use Rattle.requests.specs.declared.version.Version.{Version}
use Rattle.versions.specs.Compacted.{compacted}
use Rattle.versions.specs.Records.{IsAbove, Record, last_of, newest, value}
use Rattle.versions.specs.Shard.{Shard, opening, pushed, raised, with_room}
use Rattle.versions.proofs.Held.{all_below, no_records, put_last}
use Rattle.line.specs.Notes.{notes_up_to}
use Rattle.store.specs.declared.writing.Writing.{Writing}
use Rattle.store.specs.History.{current_of, record_of, records_of, state_of}
use Rattle.store.specs.Rule.{Agrees, IsRising, Locked, newest_of, number_of}
use Rattle.store.proofs.Newest.{found_pushed, found_there, left_above, left_found, newest_left, stays_pushed, there_pushed, up_to_push}
use Rattle.store.proofs.Readings.{upto_records}

-- ---- when a shard begins

agrees_new : Agrees opening [] [] 0
agrees_new = record {
  noted = refl;
  rising = λ i j less within. absurd (omega arith);
  positive = λ n there. absurd (let w = there.1 in omega arith);
  numbers = λ n there. absurd (true≢false (sym there ∙ ap is_some (get-empty nat_cmp n)));
  above = λ n there less. absurd (let w = there.1 in omega arith);
  least = λ n v found le. absurd (none-some v (sym (get-empty nat_cmp n) ∙ found));
  values = λ m k le. ap (λ es. state_of (last_of k (filter (λ (r : Record). nat_le r.0 m) es))) no_records;
  latest = λ k. ap (λ es. option_map (λ (r : Record). (r.0, r.1.state)) (last_of k es)) no_records;
  floor = omega arith;
}

pub new_agrees : (s : Shard) (has : List (ℕ × Writing)) (filled : List ℕ) (seen : ℕ) → s ≡ opening → has ≡ [] → filled ≡ [] → Agrees s has filled seen
new_agrees s has filled seen is none empty_ =
    let a = agrees_new in
    let b : Agrees opening [] [] seen = record { noted = a.noted; rising = a.rising; positive = a.positive; numbers = a.numbers; above = a.above; least = a.least; values = a.values; latest = a.latest; floor = omega arith } in
    subst (λ x. Agrees x has filled seen) (sym is) (subst (λ x. Agrees opening x filled seen) (sym none) (subst (λ x. Agrees opening [] x seen) (sym empty_) b))

-- ---- what changes nothing of these

pub agrees_as : (s : Shard) (has has' : List (ℕ × Writing)) (filled filled' : List ℕ) (seen seen' : ℕ) → Agrees s has filled seen → has' ≡ has → filled' ≡ filled → s.floor ≤ seen' → Agrees s has' filled' seen'
agrees_as s has has' filled filled' seen seen' a is is' low =
    subst (λ x. Agrees s x filled' seen') (sym is) (subst (λ x. Agrees s has x seen') (sym is')
    record { noted = a.noted; rising = a.rising; positive = a.positive; numbers = a.numbers; above = a.above; least = a.least; values = a.values; latest = a.latest; floor = low })

-- room was made, or not
with_it : (s : Shard) (k : Key) (has : List (ℕ × Writing)) (filled : List ℕ) (seen : ℕ) → Agrees s has filled seen → Agrees (with_room s k) has filled seen
with_it s k has filled seen a = record { noted = a.noted; rising = a.rising; positive = a.positive; numbers = a.numbers; above = a.above; least = a.least; values = a.values; latest = a.latest; floor = a.floor }

pub agrees_room : (r : Result (Unit {0}) Memory) (s t : Shard) (k : Key) (has : List (ℕ × Writing)) (filled : List ℕ) (seen : ℕ) → Agrees s has filled seen → OnOk r (t ≡ with_room s k) → OnErr r (t ≡ s) → Agrees t has filled seen
agrees_room (Ok u) s t k has filled seen a made kept = subst (λ x. Agrees x has filled seen) (sym made) (with_it s k has filled seen a)
agrees_room (Err e) s t k has filled seen a made kept = subst (λ x. Agrees x has filled seen) (sym kept) a

-- ---- a number that is drawn is above all records

pub above_all : (s : Shard) (has : List (ℕ × Writing)) (filled : List ℕ) (seen n : ℕ) → Agrees s has filled seen → All (λ x. x < n) filled → IsAbove s.records n
above_all s has filled seen n a next m there = All-contains (λ x. x < n) filled m next (a.numbers m there)

-- ---- a push of it

rising_more : (xs : List ℕ) (n : ℕ) → IsRising xs → All (λ x. x < n) xs → IsRising (xs ++ n ∷ [])
rising_more xs n rising next i j less within =
    let len = length_push xs n in
    dite (dec_le (length xs) j)
    (λ last.
    let at_j : get_or (xs ++ n ∷ []) j 0 ≡ n = get_or_push xs n 0 j (omega arith) in
    let at_i : get_or (xs ++ n ∷ []) i 0 ≡ get_or xs i 0 = get_or_append_left xs (n ∷ []) 0 i (omega arith) in
    let below : get_or xs i 0 < n = next i 0 (omega arith) in
    omega arith)
    (λ not_last.
    let in_j = lt_of_not-le not_last in
    let at_j : get_or (xs ++ n ∷ []) j 0 ≡ get_or xs j 0 = get_or_append_left xs (n ∷ []) 0 j in_j in
    let at_i : get_or (xs ++ n ∷ []) i 0 ≡ get_or xs i 0 = get_or_append_left xs (n ∷ []) 0 i (omega arith) in
    let below : get_or xs i 0 < get_or xs j 0 = rising i j less in_j in
    omega arith)

contains_more : (xs : List ℕ) (n m : ℕ) → Contains xs m → Contains (xs ++ n ∷ []) m
contains_more xs n m c = (c.0, (let len = length_push xs n in let w = c.1 in omega arith), get_or_append_left xs (n ∷ []) m c.0 c.1 ∙ c.2)

contains_last : (xs : List ℕ) (n : ℕ) → Contains (xs ++ n ∷ []) n
contains_last xs n = (length xs, (let len = length_push xs n in omega arith), get_or_push xs n n (length xs) refl)

contains_either : {P : Type 0} (xs : List ℕ) (n m : ℕ) → Contains (xs ++ n ∷ []) m → (Contains xs m → P) → (m ≡ n → P) → P
contains_either xs n m c old new =
    let len = length_push xs n in
    let within = c.1 in
    dite (dec_le (length xs) c.0)
    (λ last. new (sym (sym (get_or_push xs n m c.0 (omega arith)) ∙ c.2)))
    (λ not_last. let inside = lt_of_not-le not_last in old (c.0, inside, sym (get_or_append_left xs (n ∷ []) m c.0 inside) ∙ c.2))

-- the last record of a key, after one more record
abbrev head_of : Key → Record → Option Record
head_of k r = cond (eq_by_cmp key_cmp k r.1.key) (Some r) None

last_more : (k : Key) (es : List Record) (r : Record) → last_of k (es ++ r ∷ []) ≡ option_or (head_of k r) (last_of k es)
last_more k [] r = by (eq_by_cmp key_cmp k r.1.key)
  where
    by : (b : Bool) → option_or None (cond b (Some r) None) ≡ option_or (cond b (Some r) None) None
    by true = refl
    by false = refl
last_more k (e ∷ es) r = ap (λ o. option_or o (head_of k e)) (last_more k es r) ∙ by (head_of k r)
  where
    by : (o : Option Record) → option_or (option_or o (last_of k es)) (head_of k e) ≡ option_or o (option_or (last_of k es) (head_of k e))
    by None = refl
    by (Some x) = refl

more_same : {X : Type 0} (G : Option Record → X) (k : Key) (es fs : List Record) (r : Record) → G (last_of k es) ≡ G (last_of k fs) → G (last_of k (es ++ r ∷ [])) ≡ G (last_of k (fs ++ r ∷ []))
more_same G k es fs r same = ap G (last_more k es r) ∙ by (head_of k r) ∙ sym (ap G (last_more k fs r))
  where
    by : (o : Option Record) → G (option_or o (last_of k es)) ≡ G (option_or o (last_of k fs))
    by None = same
    by (Some x) = refl

filter_more : (p : Record → Bool) (es : List Record) (r : Record) → filter p (es ++ r ∷ []) ≡ filter p es ++ cond (p r) (r ∷ []) []
filter_more p [] r = by (p r)
  where
    by : (b : Bool) → cond b (r ∷ []) [] ≡ cond b (r ∷ []) []
    by b = refl
filter_more p (e ∷ es) r = ap (λ l. cond (p e) (e ∷ l) l) (filter_more p es r) ∙ by (p e)
  where
    by : (b : Bool) → cond b (e ∷ (filter p es ++ cond (p r) (r ∷ []) [])) (filter p es ++ cond (p r) (r ∷ []) []) ≡ cond b (e ∷ filter p es) (filter p es) ++ cond (p r) (r ∷ []) []
    by true = refl
    by false = refl

cut_same : (k : Key) (p : Record → Bool) (es fs : List Record) (r : Record) → state_of (last_of k (filter p es)) ≡ state_of (last_of k (filter p fs)) → state_of (last_of k (filter p (es ++ r ∷ []))) ≡ state_of (last_of k (filter p (fs ++ r ∷ [])))
cut_same k p es fs r same = ap (λ l. state_of (last_of k l)) (filter_more p es r) ∙ by (p r) ∙ sym (ap (λ l. state_of (last_of k l)) (filter_more p fs r))
  where
    by : (b : Bool) → state_of (last_of k (filter p es ++ cond b (r ∷ []) [])) ≡ state_of (last_of k (filter p fs ++ cond b (r ∷ []) []))
    by true = more_same state_of k (filter p es) (filter p fs) r same
    by false = ap (λ l. state_of (last_of k l)) (append-nil (filter p es)) ∙ same ∙ sym (ap (λ l. state_of (last_of k l)) (append-nil (filter p fs)))

module _ (s : Shard) (has : List (ℕ × Writing)) (filled : List ℕ) (seen n : ℕ) (r : Version) (w : Writing) (a : Agrees s has filled seen) (next : All (λ x. x < n) filled) (is : r ≡ version_of w.change n) where
  is_above : IsAbove s.records n
  is_above = above_all s has filled seen n a next

  pushed_entries : entries (insert s.records n r) ≡ entries s.records ++ (n, r) ∷ []
  pushed_entries = entries-insert nat_cmp_total s.records n r ∙ put_last n r (entries s.records) (all_below s.records n is_above)

  pushed_notes : records_of (has ++ (n, w) ∷ []) ≡ records_of has ++ (n, r) ∷ []
  pushed_notes = map-append record_of has ((n, w) ∷ []) ∙ ap (λ x. records_of has ++ (n, x) ∷ []) (sym is)

  pushed_values : (m : ℕ) (k : Key) → s.floor ≤ m → value (insert s.records n r) m k ≡ current_of (notes_up_to m (has ++ (n, w) ∷ [])) k
  pushed_values m k le =
      let p : Record → Bool = λ x. nat_le x.0 m in
      ap (λ es. state_of (last_of k (filter p es))) pushed_entries
      ∙ (cut_same k p (entries s.records) (records_of has) (n, r) (a.values m k le ∙ sym (ap (λ es. state_of (last_of k es)) (upto_records m has)))
      ∙ (sym (ap (λ es. state_of (last_of k (filter p es))) pushed_notes) ∙ ap (λ es. state_of (last_of k es)) (upto_records m (has ++ (n, w) ∷ []))))

  pushed_latest : (k : Key) → newest (insert s.records n r) k ≡ newest_of (has ++ (n, w) ∷ []) k
  pushed_latest k =
      let G : Option Record → Option (ℕ × Option Object) = option_map (λ (x : Record). (x.0, x.1.state)) in
      ap (λ es. G (last_of k es)) pushed_entries ∙ (more_same G k (entries s.records) (records_of has) (n, r) (a.latest k) ∙ sym (ap (λ es. G (last_of k es)) pushed_notes))

  pub agrees_pushed : 0 < n → s.floor < n → Agrees (pushed s n r) (has ++ (n, w) ∷ []) (filled ++ n ∷ []) seen
  agrees_pushed first passed =
      let numbers_ : (m : ℕ) → contains_key (insert s.records n r) m ≡ true → Contains (filled ++ n ∷ []) m = λ m there. found_there (insert s.records n r) m there (λ x found. found_pushed s.records n m r x found
      (λ here same. subst (Contains (filled ++ n ∷ [])) (sym here) (contains_last filled n))
      (λ was. contains_more filled n m (a.numbers m (ap is_some was)))) in
      record {
        noted = map-append number_of has ((n, w) ∷ []) ∙ ap (λ l. l ++ n ∷ []) a.noted;
        rising = rising_more filled n a.rising next;
        positive = λ m there. contains_either filled n m there (a.positive m) (λ here. subst (λ x. 0 < x) (sym here) first);
        numbers = numbers_;
        above = λ m there less. contains_either filled n m there (λ was. stays_pushed s.records n m r (a.above m was less))
            (λ here. subst (λ x. contains_key (insert s.records n r) x ≡ true) (sym here) (there_pushed s.records n r));
        least = λ m x found le. found_pushed s.records n m r x found (λ here same. absurd (omega arith))
            (λ was. ap (λ es. option_map (λ (q : Record). q.0) (last_of x.key es)) (up_to_push s.records n s.floor r is_above (omega arith)) ∙ a.least m x was le);
        values = pushed_values;
        latest = pushed_latest;
        floor = a.floor;
      }

-- ---- a compaction

raised_to : (s t : Shard) (m : ℕ) → t ≡ raised s m → s.floor ≤ m → t ≡ record { records = compacted s.records m; floor = m; room = s.room }
raised_to s t m is up = is ∙ by (nat_lt m s.floor) refl
  where
    by : (b : Bool) → nat_lt m s.floor ≡ b → (if b then s else record { records = compacted s.records m; floor = m; room = s.room }) ≡ record { records = compacted s.records m; floor = m; room = s.room }
    by false high = refl
    by true less = absurd (let le = up in grind (arith, nat_tests))

pub floor_raised : (s t : Shard) (m : ℕ) → t ≡ raised s m → s.floor ≤ m → t.floor ≡ m
floor_raised s t m is up = ap (λ (x : Shard). x.floor) (raised_to s t m is up)

pub agrees_raised : (s t : Shard) (has : List (ℕ × Writing)) (filled : List ℕ) (seen seen' m : ℕ) → Agrees s has filled seen → t ≡ raised s m
    → ((k : Key) → newest t.records k ≡ newest s.records k) → ((x : ℕ) (k : Key) → t.floor ≤ x → value t.records x k ≡ value s.records x k) → s.floor ≤ m → m ≤ seen' → Agrees t has filled seen'
agrees_raised s t has filled seen seen' m a is latest_ values_ up low =
    let to = raised_to s t m is up in
    let at : t.floor ≡ m = ap (λ (x : Shard). x.floor) to in
    let all : Agrees (record { records = compacted s.records m; floor = m; room = s.room }) has filled seen' = record {
      noted = a.noted;
      rising = a.rising;
      positive = a.positive;
      numbers = λ x there. found_there (compacted s.records m) x there (λ v found. a.numbers x (ap is_some (left_found s.records m x v found)));
      above = λ x there less. left_above s.records m x less (a.above x there (omega arith));
      least = λ x v found le. newest_left s.records m x v found le;
      values = λ x k le. sym (ap (λ (y : Shard). value y.records x k) to) ∙ (values_ x k (omega arith) ∙ a.values x k (omega arith));
      latest = λ k. sym (ap (λ (y : Shard). newest y.records k) to) ∙ (latest_ k ∙ a.latest k);
      floor = low;
    } in
    subst (λ x. Agrees x has filled seen') (sym to) all

-- ---- what a lock shows

pub left_as : (index : ℕ) (notes notes' : List (ℕ × Writing)) (s s' : Shard) → notes ≡ notes' → s ≡ s' → record { index = index; notes = notes; shard = s } ≡ (let l : Locked = record { index = index; notes = notes'; shard = s' } in l)
left_as index notes notes' s s' e f = λ i. record { index = index; notes = e i; shard = f i }
