-- A log of writes, each accepted over the earlier ones of its shard, is a history of the plain store, and a shard's
-- part of it says of the shard's keys what the plain store has.
use Rattle.std.proofs.Common.{◌≡◌, ℕ, zero, suc, ◌+◌, ◌<◌, ◌≤◌, ◌==◌, Bool, true, false, true≢false, cond, eqb, List, [], ◌∷◌, ◌++◌, length, map, take, fold, Option, Some, None, refl, sym, ap, ◌∙◌, subst, arith, length-append, ne_eqb, eq-eqb}
use Rattle.std.specs.Option.{option_or}
use Rattle.std.specs.FinMap as map
use Rattle.std.specs.FinMap.{get-empty, get-insert, get-remove}
use Rattle.objects.specs.KeyOrder.{key_cmp_total}
use Rattle.std.proofs.lemmas.List.{length-take-le}
use Rattle.std.proofs.Math.Seq.{take-length}
use mathlib.Core.List.{map-append}
use mathlib.Core.Option.{some}
use lib.ListN.{get_elem?}
use Rattle.objects.specs.declared.key.Key.{Key}
use Rattle.objects.specs.declared.object.Object.{Object}
use Rattle.objects.specs.Key.{key_cmp}
use Rattle.objects.specs.ShardOf.{shard_of}
use Rattle.requests.specs.declared.request.Request.{Request}
use Rattle.requests.specs.declared.reply.Reply.{Reply}
use Rattle.requests.specs.declared.verdict.Verdict.{Verdict}
use Rattle.requests.specs.declared.verdict.Verdict.TheVariants.{Refuse, Same, Write}
use Rattle.requests.specs.Change.{Change, accepted, kept, stamp}
use Rattle.requests.specs.declared.reply.Reply.TheVariants.{Refused}
use Rattle.requests.specs.declared.reply.Reason.TheVariants.{StoreFull}
use Rattle.requests.specs.Keys.{key_named}
use Rattle.requests.specs.Verdict.{is_write, verdict}
use Rattle.plain_store.specs.Run.{after}
use Rattle.plain_store.specs.Store.{Store, carried_out, opening, put_at, step, with_change}
use Rattle.plain_store.proofs.Steps.{by_verdict}
use Rattle.versions.specs.Records.{Record, last_of, written}
use Rattle.line.specs.Notes.{keep, notes_of, IsLegal}
use Rattle.line.proofs.Logs.{notes_of_here}
use Rattle.interleavings.proofs.Basics.{ComparedKeys, same_key, other_key, compare_keys, is_key_at}
use Rattle.store.specs.declared.writing.Writing.{Writing}
use Rattle.store.specs.History.{Accepts, IsHistory, answered, current_of, home_of, key_of, numbered, record_of, records_of, request_of, state_of, store_after}

after_one_more : (s : Store) (rs : List Request) (r : Request) → after s (rs ++ r ∷ []) ≡ (step (after s rs) r).0
after_one_more s [] r = refl
after_one_more s (q ∷ rs) r = after_one_more (step s q).0 rs r

-- ---- what a list of records leaves under a key
abbrev state_or : Option Record → Option Object → Option Object
state_or None before = before
state_or (Some r) before = r.1.state

put_there : (m : map.FinMap key_cmp Object) (q : Key) (o : Option Object) (k : Key) → map.get (put_at m q o) k ≡ cond (is_key_at k q) o (map.get m k)
put_there m q None k = get-remove key_cmp_total m q k
put_there m q (Some o) k = get-insert key_cmp_total m q o k

one_state : (b : Bool) (last : Option Record) (r : Record) (before : Option Object) → state_or last (cond b r.1.state before) ≡ state_or (option_or last (cond b (Some r) None)) before
one_state b (Some l) r before = refl
one_state true None r before = refl
one_state false None r before = refl

written_there : (rs : List Record) (m : map.FinMap key_cmp Object) (k : Key) → map.get (fold (λ m r. put_at m r.1.key r.1.state) m rs) k ≡ state_or (last_of k rs) (map.get m k)
written_there [] m k = refl
written_there (r ∷ rs) m k = written_there rs (put_at m r.1.key r.1.state) k ∙ ap (state_or (last_of k rs)) (put_there m r.1.key r.1.state k) ∙ one_state (is_key_at k r.1.key) (last_of k rs) r (map.get m k)

state_of_last : (last : Option Record) → state_or last None ≡ state_of last
state_of_last None = refl
state_of_last (Some r) = refl

-- ---- a shard's part says of its keys what the whole says
module _ (shards i : ℕ) (k : Key) (here : shard_of k shards ≡ i) where
  pub last_home : (n : ℕ) (h : List Writing) → last_of k (records_of (notes_of (home_of shards) i n h)) ≡ last_of k (records_of (notes_of (λ _. 0) 0 n h))
  last_home n [] = refl
  last_home n (w ∷ ws) = by (eqb (home_of shards w) i) refl (last_home (suc n) ws)
    where
      by : (b : Bool) → eqb (home_of shards w) i ≡ b → last_of k (records_of (notes_of (home_of shards) i (suc n) ws)) ≡ last_of k (records_of (notes_of (λ _. 0) 0 (suc n) ws))
          → last_of k (records_of (keep b (n, w) (notes_of (home_of shards) i (suc n) ws))) ≡ option_or (last_of k (records_of (notes_of (λ _. 0) 0 (suc n) ws))) (cond (is_key_at k (key_of w)) (Some (record_of (n, w))) None)
      by true e ih = ap (λ l. option_or l (cond (is_key_at k (key_of w)) (Some (record_of (n, w))) None)) ih
      by false e ih = ih ∙ other (compare_keys k (key_of w))
        where
          none_more : (o : Option Record) → o ≡ option_or o None
          none_more None = refl
          none_more (Some r) = refl

          other : ComparedKeys k (key_of w) → last_of k (records_of (notes_of (λ _. 0) 0 (suc n) ws)) ≡ option_or (last_of k (records_of (notes_of (λ _. 0) 0 (suc n) ws))) (cond (is_key_at k (key_of w)) (Some (record_of (n, w))) None)
          other (same_key ke kb) = absurd (true≢false (sym (eq-eqb (home_of shards w) i (ap (λ q. shard_of q shards) (sym ke) ∙ here)) ∙ e))
          other (other_key ne kb) = none_more (last_of k (records_of (notes_of (λ _. 0) 0 (suc n) ws))) ∙ ap (λ b. option_or (last_of k (records_of (notes_of (λ _. 0) 0 (suc n) ws))) (cond b (Some (record_of (n, w))) None)) (sym kb)

  pub current_home : (h : List Writing) → current_of (notes_of (home_of shards) i 1 h) k ≡ current_of (numbered h) k
  current_home h = ap state_of (last_home 1 h)

-- ---- the plain store after a history
record Stands (capacity : ℕ) (h : List Writing) (s : Store) : Type 0 where
  counter : s.counter ≡ length h
  capacity_is : s.capacity ≡ capacity
  objects : s.objects ≡ written (records_of (numbered h))

fold-append : (m : map.FinMap key_cmp Object) (rs : List Record) (r : Record) → fold (λ m r. put_at m r.1.key r.1.state) m (rs ++ r ∷ []) ≡ put_at (fold (λ m r. put_at m r.1.key r.1.state) m rs) r.1.key r.1.state
fold-append m [] r = refl
fold-append m (q ∷ qs) r = fold-append (put_at m q.1.key q.1.state) qs r

current_there : (capacity : ℕ) (h : List Writing) (s : Store) → Stands capacity h s → (k : Key) → map.get s.objects k ≡ current_of (numbered h) k
current_there capacity h s st k =
    ap (λ m. map.get m k) st.objects ∙ written_there (records_of (numbered h)) map.empty k
    ∙ ap (state_or (last_of k (records_of (numbered h)))) (get-empty key_cmp k) ∙ state_of_last (last_of k (records_of (numbered h)))

second_of : (b : Bool) (p q : Store × Reply) → b ≡ false → (cond b p q).0 ≡ q.0
second_of true p q e = absurd (true≢false e)
second_of false p q e = refl

reply_of : (b : Bool) (p q : Store × Reply) → (cond b p q).1 ≡ cond b p.1 q.1
reply_of true p q = refl
reply_of false p q = refl

module _ (shards capacity : ℕ) where
  one_more : (h : List Writing) (w : Writing) → Accepts (notes_of (home_of shards) (home_of shards w) 1 h) w → length h < capacity → Stands capacity h (store_after capacity h) → Stands capacity (h ++ w ∷ []) (store_after capacity (h ++ w ∷ []))
  one_more h w ok room st =
      let s : Store = store_after capacity h in
      let k : Key = key_of w in
      let c : Change = w.change in
      let there : map.get s.objects k ≡ current_of (notes_of (home_of shards) (home_of shards w) 1 h) k = current_there capacity h s st k ∙ sym (current_home shards (home_of shards w) k refl h) in
      let decided : Write c ≡ verdict w.request (map.get s.objects k) = sym (ap (verdict w.request) there ∙ ok.2) in
      let stepped : carried_out s k (Write c) ≡ step s w.request = by_verdict s w.request k (map.get s.objects k) (Write c) ok.0 ok.1 refl decided in
      let counter = st.counter in
      let cap = st.capacity_is in
      let differ : (s.counter == s.capacity) ≡ false = ne_eqb s.counter s.capacity (λ e. omega arith) in
      let changed : (carried_out s k (Write c)).0 ≡ with_change s k c = second_of (s.counter == s.capacity) (s, Refused StoreFull) (with_change s k c, accepted c (stamp c (s.counter + 1))) differ in
      let next : store_after capacity (h ++ w ∷ []) ≡ with_change s k c = ap (after (opening capacity)) (map-append request_of h (w ∷ [])) ∙ (after_one_more (opening capacity) (map request_of h) w.request ∙ (ap (λ (p : Store × Reply). p.0) (sym stepped) ∙ changed)) in
      subst (Stands capacity (h ++ w ∷ [])) (sym next) record {
        counter = let l = length-append h (w ∷ []) in omega arith;
        capacity_is = cap;
        objects = ap (λ m. put_at m k (kept c (s.counter + 1))) st.objects
            ∙ (ap (λ n. put_at (written (records_of (numbered h))) k (kept c n)) (let e : s.counter + 1 ≡ 1 + length h = omega arith in e)
            ∙ (sym (fold-append map.empty (records_of (numbered h)) (record_of (1 + length h, w)))
            ∙ (ap (fold (λ m r. put_at m r.1.key r.1.state) map.empty) (sym (map-append record_of (numbered h) ((1 + length h, w) ∷ [])))
            ∙ ap (λ ps. written (records_of ps)) (sym (notes_of_here (λ _. 0) 0 1 h w refl)))));
      }

  -- a prefix of a log, one write at a time
  take_one : (n : ℕ) (h : List Writing) → n < length h → (w : Writing) × (get_elem? h n ≡ some w) × (take (suc n) h ≡ take n h ++ w ∷ [])
  take_one n [] lt = absurd (omega arith)
  take_one zero (x ∷ xs) lt = (x, refl, refl)
  take_one (suc n) (x ∷ xs) lt = let t = take_one n xs (omega arith) in (t.0, t.1, ap (λ l. x ∷ l) t.2)

  stands_at : (h : List Writing) → IsLegal (home_of shards) Accepts h → length h ≤ capacity → (n : ℕ) → n ≤ length h → Stands capacity (take n h) (store_after capacity (take n h))
  stands_at h legal room zero le = record { counter = refl; capacity_is = refl; objects = refl }
  stands_at h legal room (suc n) le =
      let t = take_one n h (omega arith) in
      let l = length-take-le n h (omega arith) in
      subst (λ x. Stands capacity x (store_after capacity x)) (sym t.2) (one_more (take n h) t.0 (legal n t.0 t.1) (omega arith) (stands_at h legal room n (omega arith)))

  module _ (h : List Writing) (legal : IsLegal (home_of shards) Accepts h) (room : length h ≤ capacity) where
    -- it is a history
    pub is_history : IsHistory capacity h
    is_history n le = let c = (stands_at h legal room n le).counter in let l = length-take-le n h le in omega arith

    stands : Stands capacity h (store_after capacity h)
    stands = subst (λ x. Stands capacity x (store_after capacity x)) (take-length h) (stands_at h legal room (length h) (omega arith))

    pub counter_is : (store_after capacity h).counter ≡ length h
    counter_is = (stands).counter

    pub objects_are : (store_after capacity h).objects ≡ written (records_of (numbered h))
    objects_are = (stands).objects

    -- what a shard's part says of its keys is what the plain store has
    pub get_is : (k : Key) → map.get (store_after capacity h).objects k ≡ current_of (notes_of (home_of shards) (shard_of k shards) 1 h) k
    get_is k = current_there capacity h (store_after capacity h) stands k ∙ sym (current_home shards (shard_of k shards) k refl h)

    -- and so is the reply to a write request
    pub reply_is : (r : Request) (k : Key) → is_write r ≡ true → key_named r ≡ Some k → (step (store_after capacity h) r).1 ≡ answered capacity (length h) (verdict r (current_of (notes_of (home_of shards) (shard_of k shards) 1 h) k))
    reply_is r k is named =
        let s : Store = store_after capacity h in
        let v : Verdict = verdict r (map.get s.objects k) in
        ap (λ (p : Store × Reply). p.1) (sym (by_verdict s r k (map.get s.objects k) v is named refl refl))
        ∙ (carried v ∙ ap (λ o. answered capacity (length h) (verdict r o)) (get_is k))
      where
        carried : (v : Verdict) → (carried_out (store_after capacity h) k v).1 ≡ answered capacity (length h) v
        carried (Refuse reason) = refl
        carried (Same o) = refl
        carried (Write c) =
            let s : Store = store_after capacity h in
            reply_of (s.counter == s.capacity) (s, Refused StoreFull) (with_change s k c, accepted c (stamp c (s.counter + 1)))
            ∙ (ap (λ n. cond (n == s.capacity) (Refused StoreFull) (accepted c (stamp c (n + 1)))) counter_is
            ∙ ap (λ n. cond (length h == n) (Refused StoreFull) (accepted c (stamp c (length h + 1)))) (stands).capacity_is)
