-- What the log says of the keys at a number.
use Rattle.std.proofs.Common.{◌≡◌, ℕ, zero, suc, ◌≤◌, ◌⊎◌, Bool, true, false, cond, List, [], ◌∷◌, Option, Some, None, refl, sym, ap, ◌∙◌, subst, inl, inr, arith}
use Rattle.std.specs.FinMap as map
use Rattle.std.specs.FinMap.{find, get-insert, get-remove, get-empty, get-entries, get-retain_keys}
use Rattle.objects.specs.declared.key.Key.{Key}
use Rattle.objects.specs.declared.object.Object.{Object}
use Rattle.objects.specs.Key.{key_cmp}
use Rattle.objects.specs.KeyOrder.{exact_keys, key_cmp_total}
use Rattle.requests.specs.Change.{kept}
use Rattle.plain_store.specs.Store.{Objects, put_at}
use Rattle.interleavings.specs.Log.{Log, Writing, last_write, newer, newer_number, state_at, value, with_writing}
use Rattle.interleavings.specs.World.{changed}
use Rattle.interleavings.specs.Step.{insert_all}
use Rattle.interleavings.proofs.Basics.{Compared, same, other, compare, changed-same, changed-other, ComparedKeys, same_key, other_key, compare_keys, is_key_at}

pub get_put : (m : Objects) (k : Key) (o : Option Object) (q : Key) → map.get (put_at m k o) q ≡ cond (is_key_at q k) o (map.get m q)
get_put m k None q = get-remove key_cmp_total m k q
get_put m k (Some o) q = get-insert key_cmp_total m k o q

pub get_state : (log : Log) (n : ℕ) (k : Key) → map.get (state_at log n) k ≡ value log n k
get_state log zero k = get-empty key_cmp k
get_state log (suc n) k = go (log n) (get_state log n k)
  where
    go : (o : Option Writing) → map.get (state_at log n) k ≡ value log n k → map.get (with_writing o n (state_at log n)) k ≡ newer o n k (value log n k)
    go None ih = ih
    go (Some t) ih = get_put (state_at log n) t.key (kept t.change (suc n)) k ∙ ap (λ v. cond (is_key_at k t.key) (kept t.change (suc n)) v) ih

-- a write at an index changes nothing up to it
pub state_put : (log : Log) (i : ℕ) (x : Option Writing) (n : ℕ) → n ≤ i → state_at (changed log i x) n ≡ state_at log n
state_put log i x zero le = refl
state_put log i x (suc n) le = ap (λ o. with_writing o n (state_at (changed log i x) n)) (changed-other log i x n (λ e. absurd (omega arith))) ∙ ap (with_writing (log n) n) (state_put log i x n (omega arith))

-- nor does it change another key
pub value_put : (log : Log) (i : ℕ) (t : Writing) → log i ≡ None → (n : ℕ) (k : Key) → (t.key ≡ k → n ≤ i) → value (changed log i (Some t)) n k ≡ value log n k
value_put log i t empty zero k h = refl
value_put log i t empty (suc n) k h = split (compare n i) (value_put log i t empty n k (λ e. let m = h e in omega arith))
  where
    by_key : n ≡ i → ComparedKeys k t.key → value (changed log i (Some t)) n k ≡ value log n k → newer (Some t) n k (value (changed log i (Some t)) n k) ≡ newer None n k (value log n k)
    by_key e (same_key ke b) ih = let m = h (sym ke) in absurd (omega arith)
    by_key e (other_key ne b) ih = ap (λ v. cond v (kept t.change (suc n)) (value (changed log i (Some t)) n k)) b ∙ ih

    split : Compared n i → value (changed log i (Some t)) n k ≡ value log n k → newer (changed log i (Some t) n) n k (value (changed log i (Some t)) n k) ≡ newer (log n) n k (value log n k)
    split (same e b) ih =
        ap (λ o. newer o n k (value (changed log i (Some t)) n k)) (ap (changed log i (Some t)) e ∙ changed-same log i (Some t))
        ∙ by_key e (compare_keys k t.key) ih
        ∙ ap (λ o. newer o n k (value log n k)) (sym (ap log e ∙ empty))
    split (other ne b) ih = ap (λ o. newer o n k (value (changed log i (Some t)) n k)) (changed-other log i (Some t) n ne) ∙ ap (newer (log n) n k) ih

-- a number with no write says nothing new
pub value_none : (log : Log) (d : ℕ) (k : Key) → log d ≡ None → value log (suc d) k ≡ value log d k
value_none log d k h = ap (λ o. newer o d k (value log d k)) h

-- ---- the last write of a key
pub value_last : (log : Log) (k : Key) (d n : ℕ) → last_write log d k ≤ n → n ≤ d → value log n k ≡ value log d k
value_last log k zero n h m = let e : n ≡ 0 = omega arith in ap (λ i. value log i k) e
value_last log k (suc d) n h m = split (compare n (suc d)) (value_last log k d n)
  where
    by_key : (t : Writing) (b : Bool) → n ≤ d → (last_write log d k ≤ n → n ≤ d → value log n k ≡ value log d k) → cond b (suc d) (last_write log d k) ≤ n → value log n k ≡ cond b (kept t.change (suc d)) (value log d k)
    by_key t true le ih h = absurd (omega arith)
    by_key t false le ih h = ih h le

    by_record : (o : Option Writing) → n ≤ d → (last_write log d k ≤ n → n ≤ d → value log n k ≡ value log d k) → newer_number o d k (last_write log d k) ≤ n → value log n k ≡ newer o d k (value log d k)
    by_record None le ih h = ih h le
    by_record (Some t) le ih h = by_key t (is_key_at k t.key) le ih h

    split : Compared n (suc d) → (last_write log d k ≤ n → n ≤ d → value log n k ≡ value log d k) → value log n k ≡ newer (log d) d k (value log d k)
    split (same e b) ih = ap (λ i. value log i k) e
    split (other ne b) ih = by_record (log d) (omega arith) ih h

pub last_le : (log : Log) (k : Key) (d : ℕ) → last_write log d k ≤ d
last_le log k zero = omega arith
last_le log k (suc d) = by_record (log d) (last_le log k d)
  where
    by_key : (b : Bool) → last_write log d k ≤ d → cond b (suc d) (last_write log d k) ≤ suc d
    by_key true h = omega arith
    by_key false h = omega arith

    by_record : (o : Option Writing) → last_write log d k ≤ d → newer_number o d k (last_write log d k) ≤ suc d
    by_record None h = omega arith
    by_record (Some t) h = by_key (is_key_at k t.key) h

-- a bound of the numbers of each key's writes bounds the last one
pub last_bound : (log : Log) (b : Key → ℕ) → ((i : ℕ) (t : Writing) → log i ≡ Some t → suc i ≤ b t.key) → (k : Key) (d : ℕ) → last_write log d k ≤ b k
last_bound log b h k zero = omega arith
last_bound log b h k (suc d) = by_record (log d) refl (last_bound log b h k d)
  where
    by_key : (t : Writing) → log d ≡ Some t → last_write log d k ≤ b k → ComparedKeys k t.key → cond (is_key_at k t.key) (suc d) (last_write log d k) ≤ b k
    by_key t e ih (same_key ke be) = rw be (subst (λ i. suc d ≤ b i) (sym ke) (h d t e))
    by_key t e ih (other_key ne be) = rw be ih

    by_record : (o : Option Writing) → log d ≡ o → last_write log d k ≤ b k → newer_number o d k (last_write log d k) ≤ b k
    by_record None e ih = ih
    by_record (Some t) e ih = by_key t e ih (compare_keys k t.key)

-- ---- what a read finds, shard by shard
unfoldable pub find_or : Option Object → Option Object → Option Object
find_or None o = o
find_or (Some x) o = Some x

get_insert_all : (es : List (Key × Object)) (m : Objects) (q : Key) → map.get (insert_all es m) q ≡ find_or (find key_cmp q es) (map.get m q)
unfolding find_or
get_insert_all [] m q = refl
get_insert_all (e ∷ es) m q = get-insert key_cmp_total (insert_all es m) e.0 e.1 q ∙ go (is_key_at q e.0) (get_insert_all es m q)
  where
    go : (b : Bool) → map.get (insert_all es m) q ≡ find_or (find key_cmp q es) (map.get m q) → cond b (Some e.1) (map.get (insert_all es m) q) ≡ find_or (cond b (Some e.1) (find key_cmp q es)) (map.get m q)
    go true ih = refl
    go false ih = ih

pub get_retained : (m : Objects) (p : Key → Bool) (q : Key) → map.get (map.retain_keys m p) q ≡ cond (p q) (map.get m q) None
get_retained m p q = get-retain_keys m p q (λ x e. ap p (sym (exact_keys q x e)))

-- after a shard's part its wanted keys have their values, and the others have what they had
pub get_part : (log : Log) (n : ℕ) (p : Key → Bool) (found : Objects) (q : Key) → map.get (insert_all (map.entries (map.retain_keys (state_at log n) p)) found) q ≡ find_or (cond (p q) (value log n q) None) (map.get found q)
get_part log n p found q =
    get_insert_all (map.entries (map.retain_keys (state_at log n) p)) found q
    ∙ ap (λ o. find_or o (map.get found q)) (sym (get-entries (map.retain_keys (state_at log n) p) q) ∙ get_retained (state_at log n) p q ∙ ap (λ o. cond (p q) o None) (get_state log n q))

pub part_of_none : (b : Bool) (o old : Option Object) → b ≡ false → find_or (cond b o None) old ≡ old
unfolding find_or
part_of_none b o old e = ap (λ v. find_or (cond v o None) old) e

pub part_of_same : (b : Bool) (o old : Option Object) → b ≡ true → (old ≡ None ⊎ old ≡ o) → find_or (cond b o None) old ≡ o
unfolding find_or
part_of_same b o old e h = ap (λ v. find_or (cond v o None) old) e ∙ go o h
  where
    go : (o : Option Object) → (old ≡ None ⊎ old ≡ o) → find_or o old ≡ o
    go None (inl h) = h
    go None (inr h) = h
    go (Some x) h = refl
