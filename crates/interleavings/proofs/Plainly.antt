-- The plain store that the log makes up to a number, and what one request does to it.
use Rattle.std.proofs.Common.{◌≡◌, ℕ, zero, suc, ◌+◌, ◌-◌, ◌<◌, ◌≤◌, ◌==◌, Bool, true, false, cond, List, [], ◌∷◌, ◌++◌, get_or, drop, Option, Some, None, refl, sym, ap, ◌∙◌, nat_lt, ltb-true, ltb-false, arith}
use Rattle.std.specs.FinMap as map
use Rattle.objects.specs.declared.key.Key.{Key}
use Rattle.objects.specs.declared.object.Object.{Object}
use Rattle.requests.specs.declared.request.Request.{Request}
use Rattle.requests.specs.declared.reply.Reply.{Reply}
use Rattle.requests.specs.declared.reply.Reply.TheVariants.{Compacted, Refused, Unchanged}
use Rattle.requests.specs.declared.reply.Reason.TheVariants.{Expired, StoreFull, TooLarge}
use Rattle.requests.specs.declared.verdict.Verdict.{Verdict}
use Rattle.requests.specs.declared.verdict.Verdict.TheVariants.{Refuse, Same, Write}
use Rattle.requests.specs.Change.{Change, accepted, kept, stamp}
use Rattle.requests.specs.Verdict.{verdict}
use Rattle.plain_store.specs.Route.{Route, compacts, route, writes}
use Rattle.plain_store.specs.Store.{Objects, Store, carried_out, compacted_to, denied, map_at, put_at, routed, step, with_change}
use Rattle.interleavings.specs.Log.{Log, Writing, state_at, value, with_writing}
use Rattle.interleavings.specs.World.{Size, changed}
use Rattle.interleavings.specs.Step.{accepted_reply}
use Rattle.interleavings.proofs.Basics.{Compared, same, other, compare}
use Rattle.interleavings.proofs.Values.{get_state, state_put}

-- ---- a write, given the capacity: it gets its reply and changes nothing, or it is a change
pub data Judged : Type 0 where
  stays : Reply → Judged
  moves : Change → Judged

abbrev pub by_verdict : Verdict → Judged
by_verdict (Refuse reason) = stays (Refused reason)
by_verdict (Same o) = stays (Unchanged o)
by_verdict (Write c) = moves c

abbrev pub capped : Bool → Judged → Judged
capped full (stays r) = stays r
capped true (moves c) = stays (Refused StoreFull)
capped false (moves c) = moves c

-- over the object, when n numbers are allocated
abbrev pub judge : Size → ℕ → Option Object → Request → Judged
judge z n o r = capped (n == z.capacity) (by_verdict (verdict r o))

pub judge_stays : (z : Size) (n : ℕ) (o : Option Object) (q : Request) (r : Reply) → by_verdict (verdict q o) ≡ stays r → judge z n o q ≡ stays r
judge_stays z n o q r e = ap (capped (n == z.capacity)) e

pub judge_moves : (z : Size) (n : ℕ) (o : Option Object) (q : Request) (c : Change) → n < z.capacity → by_verdict (verdict q o) ≡ moves c → judge z n o q ≡ moves c
judge_moves z n o q c lt e = go (compare n z.capacity)
  where
    go : Compared n z.capacity → capped (n == z.capacity) (by_verdict (verdict q o)) ≡ moves c
    go (same h b) = absurd (omega arith)
    go (other h b) = rw (b, e)

pub judge_full : (z : Size) (n : ℕ) (o : Option Object) (q : Request) (c : Change) → n ≡ z.capacity → by_verdict (verdict q o) ≡ moves c → judge z n o q ≡ stays (Refused StoreFull)
judge_full z n o q c full e = go (compare n z.capacity)
  where
    go : Compared n z.capacity → capped (n == z.capacity) (by_verdict (verdict q o)) ≡ stays (Refused StoreFull)
    go (same h b) = rw (b, e)
    go (other h b) = absurd (h full)

-- what the store does with it
abbrev pub outcome : Store → Key → Judged → Store × Reply
outcome s k (stays r) = (s, r)
outcome s k (moves c) = (with_change s k c, accepted c (stamp c (s.counter + 1)))

carried : (s : Store) (k : Key) (v : Verdict) → carried_out s k v ≡ outcome s k (capped (s.counter == s.capacity) (by_verdict v))
carried s k (Refuse reason) = refl
carried s k (Same o) = refl
carried s k (Write c) = go (s.counter == s.capacity)
  where
    go : (full : Bool) → cond full (s, Refused StoreFull) (with_change s k c, accepted c (stamp c (s.counter + 1))) ≡ outcome s k (capped full (moves c))
    go true = refl
    go false = refl

-- ---- one request, by what it is about
pub step_routed : (s : Store) (q : Request) (ro : Route) → route q ≡ ro → step s q ≡ routed s q ro
unfolding step
step_routed s q ro e = ap (routed s q) e

-- ---- the maps of the log
-- the maps from the number n on, so many of them
abbrev pub pasts : Log → ℕ → ℕ → List Objects
pasts log n zero = []
pasts log n (suc d) = state_at log n ∷ pasts log (suc n) d

abbrev store : Size → (floor counter : ℕ) → Objects → List Objects → Store
store z f n m past = record { objects = m; counter = n; capacity = z.capacity; floor = f; past = past }

-- the plain store after the writes up to the number n, with this floor
abbrev pub plainly : Size → Log → (floor number : ℕ) → Store
plainly z log f n = record { objects = state_at log n; counter = n; capacity = z.capacity; floor = f; past = pasts log f (n - f) }

pasts_put : (log : Log) (i : ℕ) (x : Option Writing) (n d : ℕ) → n + d ≤ i → pasts (changed log i x) n d ≡ pasts log n d
pasts_put log i x n zero le = refl
pasts_put log i x n (suc d) le = ap (λ m. m ∷ pasts (changed log i x) (suc n) d) (state_put log i x n (omega arith)) ∙ ap (λ l. state_at log n ∷ l) (pasts_put log i x (suc n) d (omega arith))

-- a write beyond the number leaves the store
pub plainly_put : (z : Size) (log : Log) (i : ℕ) (x : Option Writing) (f n : ℕ) → f ≤ n → n ≤ i → plainly z (changed log i x) f n ≡ plainly z log f n
plainly_put z log i x f n low le =
    ap (λ m. store z f n m (pasts (changed log i x) f (n - f))) (state_put log i x n le)
    ∙ ap (store z f n (state_at log n)) (pasts_put log i x f (n - f) (omega arith))

pasts_more : (log : Log) (n d : ℕ) → pasts log n d ++ state_at log (n + d) ∷ [] ≡ pasts log n (suc d)
pasts_more log n zero = let e : n + 0 ≡ n = omega arith in ap (λ i. state_at log i ∷ []) e
pasts_more log n (suc d) = let e : n + suc d ≡ suc n + d = omega arith in ap (λ i. state_at log n ∷ (pasts log (suc n) d ++ state_at log i ∷ [])) e ∙ ap (λ l. state_at log n ∷ l) (pasts_more log (suc n) d)

pasts_next : (log : Log) (f n : ℕ) → f ≤ n → pasts log f (n - f) ++ state_at log n ∷ [] ≡ pasts log f (suc n - f)
pasts_next log f n le =
    let a : n ≡ f + (n - f) = omega arith in
    let b : suc (n - f) ≡ suc n - f = omega arith in
    ap (λ i. pasts log f (n - f) ++ state_at log i ∷ []) a ∙ pasts_more log f (n - f) ∙ ap (pasts log f) b

-- the first of them are left out
pasts_drop : (log : Log) (n d e r : ℕ) → e + r ≡ d → drop e (pasts log n d) ≡ pasts log (n + e) r
pasts_drop log n d zero r h = let a : d ≡ r = omega arith in let b : n ≡ n + 0 = omega arith in ap (pasts log n) a ∙ ap (λ i. pasts log i r) b
pasts_drop log n zero (suc e) r h = absurd (omega arith)
pasts_drop log n (suc d) (suc e) r h = let a : suc n + e ≡ n + suc e = omega arith in pasts_drop log (suc n) d e r (omega arith) ∙ ap (λ i. pasts log i r) a

-- one of them, or the present one
pasts_get : (log : Log) (n d e : ℕ) (m : Objects) → e ≤ d → m ≡ state_at log (n + d) → get_or (pasts log n d) e m ≡ state_at log (n + e)
pasts_get log n zero e m le h = let a : n + 0 ≡ n + e = omega arith in h ∙ ap (state_at log) a
pasts_get log n (suc d) zero m le h = let a : n ≡ n + 0 = omega arith in ap (state_at log) a
pasts_get log n (suc d) (suc e) m le h = let a : n + suc d ≡ suc n + d = omega arith in let b : suc n + e ≡ n + suc e = omega arith in pasts_get log (suc n) d e m (omega arith) (h ∙ ap (state_at log) a) ∙ ap (state_at log) b

pub plainly_map_at : (z : Size) (log : Log) (f n i : ℕ) → f ≤ i → i ≤ n → map_at (plainly z log f n) i ≡ state_at log i
plainly_map_at z log f n i low le =
    let a : n ≡ f + (n - f) = omega arith in
    let b : f + (i - f) ≡ i = omega arith in
    pasts_get log f (n - f) (i - f) (state_at log n) (omega arith) (ap (state_at log) a) ∙ ap (state_at log) b

-- a number that is not denied lies between the floor and the counter
pub denied_none : (f c n : ℕ) → denied f c n ≡ None → (f ≤ n) × (n ≤ c)
unfolding denied
denied_none f c n e = go (nat_lt c n) (nat_lt n f) refl refl e
  where
    go : (a b : Bool) → nat_lt c n ≡ a → nat_lt n f ≡ b → cond a (Some TooLarge) (cond b (Some Expired) None) ≡ None → (f ≤ n) × (n ≤ c)
    go true b ea eb e = absurd cc
    go false true ea eb e = absurd cc
    go false false ea eb e = (ltb-false n f eb, ltb-false c n ea)

pub denied_self : (n : ℕ) → denied n n n ≡ None
unfolding denied
denied_self n = ap (λ b. cond b (Some TooLarge) (cond b (Some Expired) None)) (lt_self (nat_lt n n) refl)
  where
    lt_self : (b : Bool) → nat_lt n n ≡ b → nat_lt n n ≡ false
    lt_self false e = e
    lt_self true e = let l : n < n = ltb-true n n e in absurd (omega arith)

-- ---- what a request does to the store of the log
judged_there : (z : Size) (log : Log) (f n : ℕ) (k : Key) (q : Request) (v : Judged) → route q ≡ writes k → judge z n (value log n k) q ≡ v → step (plainly z log f n) q ≡ outcome (plainly z log f n) k v
judged_there z log f n k q v h e =
    step_routed (plainly z log f n) q (writes k) h ∙ carried (plainly z log f n) k (verdict q (map.get (state_at log n) k))
    ∙ ap (outcome (plainly z log f n) k) (ap (λ o. judge z n o q) (get_state log n k) ∙ e)

-- one that is refused or changes nothing
pub stays_there : (z : Size) (log : Log) (f n : ℕ) (k : Key) (q : Request) (r : Reply) → route q ≡ writes k → judge z n (value log n k) q ≡ stays r → step (plainly z log f n) q ≡ (plainly z log f n, r)
stays_there z log f n k q r h e = judged_there z log f n k q (stays r) h e

-- a write that the log has next
pub moves_there : (z : Size) (log : Log) (f n : ℕ) (t : Writing) (q : Request) → f ≤ n → log n ≡ Some t → route q ≡ writes t.key → judge z n (value log n t.key) q ≡ moves t.change → step (plainly z log f n) q ≡ (plainly z log f (suc n), accepted_reply t.change (suc n))
unfolding accepted_reply
moves_there z log f n t q low has h e =
    let one : n + 1 ≡ suc n = omega arith in
    judged_there z log f n t.key q (moves t.change) h e
    ∙ ap (λ i. let end : Store × Reply = (store z f i (put_at (state_at log n) t.key (kept t.change i)) (pasts log f (n - f) ++ state_at log n ∷ []), accepted t.change (stamp t.change i)) in end) one
    ∙ ap (λ o. let end : Store × Reply = (store z f (suc n) (with_writing o n (state_at log n)) (pasts log f (n - f) ++ state_at log n ∷ []), accepted_reply t.change (suc n)) in end) (sym has)
    ∙ ap (λ l. let end : Store × Reply = (store z f (suc n) (state_at log (suc n)) l, accepted_reply t.change (suc n)) in end) (pasts_next log f n low)

-- a compaction that is done
pub compacts_there : (z : Size) (log : Log) (f n i : ℕ) (q : Request) → route q ≡ compacts i → denied f n i ≡ None → step (plainly z log f n) q ≡ (plainly z log i n, Compacted i)
compacts_there z log f n i q h e =
    let within = denied_none f n i e in
    let low : f ≤ i = within.0 in
    let high : i ≤ n = within.1 in
    let a : f + (i - f) ≡ i = omega arith in
    step_routed (plainly z log f n) q (compacts i) h ∙ ap (compacted_to (plainly z log f n) i) e
    ∙ ap (λ l. let end : Store × Reply = (store z i n (state_at log n) l, Compacted i) in end) (pasts_drop log f (n - f) (i - f) (n - i) (omega arith) ∙ ap (λ k. pasts log k (n - i)) a)
