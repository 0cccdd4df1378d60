-- What the shards have at a number is, part by part, what the plain store has.
use Rattle.std.proofs.Common.{◌≡◌, ◌≢◌, ℕ, suc, ◌<◌, ◌≤◌, Bool, true, false, true≢false, cond, ◌&&◌, List, [], ◌∷◌, length, map, Option, Some, None, refl, sym, ap, ◌∙◌, arith, eqb, nat_eq, nat_lt, ltb-true, ltb-false, ne_eqb}
use Rattle.std.specs.Option.{option_or}
use Rattle.std.specs.FinMap as finite
use Rattle.std.specs.FinMap.{entries, entries_sorted, find, get-empty, get-entries, get-insert, is_sorted, same_map}
use Rattle.std.specs.FinMap.Entries.{below_all}
use Rattle.std.proofs.lemmas.Bool.{and_parts}
use Rattle.std.proofs.lemmas.Option.{none-some}
use Rattle.objects.specs.declared.key.Key.{Key}
use Rattle.objects.specs.declared.kind.Kind.{Kind}
use Rattle.objects.specs.declared.object.Object.{Object}
use Rattle.objects.specs.Key.{key_cmp}
use Rattle.objects.specs.KeyOrder.{exact_keys, key_cmp_total}
use Rattle.objects.specs.ShardOf.{shard_of}
use Rattle.requests.specs.declared.request.Request.TheVariants as request
use Rattle.requests.specs.declared.reply.Reply.{Reply}
use Rattle.requests.specs.declared.reply.Reply.TheVariants.{Listed}
use Rattle.plain_store.specs.Filed.{AreFiled}
use Rattle.plain_store.specs.Route.{lists, route}
use Rattle.plain_store.specs.Store.{Objects, Store, collection, is_of, step}
use Rattle.version_map.proofs.Chains.{below_none}
use Rattle.versions.specs.Records.{Records, last_of, state_at, value}
use Rattle.versions.proofs.Found.{is_held}
use Rattle.versions.proofs.States.{state_is_value}
use Rattle.interleavings.proofs.Basics.{Compared, same, other, compare, ComparedKeys, same_key, other_key, compare_keys, is_key_at, key_self}
use Rattle.interleavings.proofs.Values.{get_retained}
use Rattle.interleavings.proofs.Plainly.{step_routed}
use Rattle.interleavings.proofs.Quiets.{shard_below}
use Rattle.interleavings.specs.World.{shard}
use Rattle.line.specs.Notes.{IsLegal, keep, notes_of, notes_up_to}
use Rattle.store.specs.declared.writing.Writing.{Writing}
use Rattle.store.specs.History.{Accepts, current_of, home_of, key_of, record_of, records_of, state_of, store_after}
use Rattle.store.specs.Parts.{part_of, parts_below}
use Rattle.versions.specs.Gathered.{with_objects}
use Rattle.store.proofs.Histories.{counter_is, get_is}

-- ---- a shard has no writes of other shards' keys
module _ (shards i : ℕ) (k : Key) (beside : shard_of k shards ≢ i) where
  last_none : (n : ℕ) (h : List Writing) → last_of k (records_of (notes_of (home_of shards) i n h)) ≡ None
  last_none n [] = refl
  last_none n (w ∷ ws) = by (eqb (home_of shards w) i) refl (last_none (suc n) ws)
    where
      by : (b : Bool) → eqb (home_of shards w) i ≡ b → last_of k (records_of (notes_of (home_of shards) i (suc n) ws)) ≡ None → last_of k (records_of (keep b (n, w) (notes_of (home_of shards) i (suc n) ws))) ≡ None
      by false e ih = ih
      by true e ih = other_ (compare_keys k (key_of w))
        where
          other_ : ComparedKeys k (key_of w) → option_or (last_of k (records_of (notes_of (home_of shards) i (suc n) ws))) (cond (is_key_at k (key_of w)) (Some (record_of (n, w))) None) ≡ None
          other_ (same_key ke kb) = absurd (true≢false (sym e ∙ ne_eqb (home_of shards w) i (λ q. beside (ap (λ x. shard_of x shards) ke ∙ q))))
          other_ (other_key ne kb) = ap (λ o. option_or o (cond (is_key_at k (key_of w)) (Some (record_of (n, w))) None)) ih ∙ ap (λ b. cond b (Some (record_of (n, w))) None) kb

module _ (shards capacity : ℕ) (h : List Writing) (legal : IsLegal (home_of shards) Accepts h) (room : length h ≤ capacity) where
  abbrev objects : Objects
  objects = (store_after capacity h).objects

  -- the part of a shard
  pub part_is : (rs : Records) (has : List (ℕ × Writing)) (n i : ℕ) → ((q : Key) → value rs n q ≡ current_of (notes_up_to n has) q) → n ≡ length h → notes_up_to (length h) has ≡ notes_of (home_of shards) i 1 h → state_at rs n ≡ part_of (store_after capacity h).objects shards i
  part_is rs has n i shown is own = same_map key_cmp_total exact_keys _ _ (λ q.
      state_is_value rs n q ∙ (shown q ∙ (ap (λ m. current_of (notes_up_to m has) q) is ∙ (ap (λ ps. current_of ps q) own ∙ at q (compare (shard_of q shards) i)))) ∙ sym (get_retained (store_after capacity h).objects (λ k. nat_eq (shard_of k shards) i) q))
    where
      at : (q : Key) → Compared (shard_of q shards) i → current_of (notes_of (home_of shards) i 1 h) q ≡ cond (nat_eq (shard_of q shards) i) (finite.get (store_after capacity h).objects q) None
      at q (same e b) = ap (λ j. current_of (notes_of (home_of shards) j 1 h) q) (sym e) ∙ (sym (get_is shards capacity h legal room q) ∙ sym (ap (λ b. cond b (finite.get (store_after capacity h).objects q) None) b))
      at q (other ne b) = ap state_of (last_none shards i q ne 1 h) ∙ sym (ap (λ b. cond b (finite.get (store_after capacity h).objects q) None) b)

-- ---- objects that are put in one by one
abbrev or_else : Option Object → Option Object → Option Object
or_else None d = d
or_else (Some o) d = Some o

abbrev AreOf : List (Key × Object) → Type 0
AreOf es = (q : Key) (o : Object) → find key_cmp q es ≡ Some o → o.key ≡ q

get_filed : (m : Objects) (o : Object) (k q : Key) → o.key ≡ k → finite.get (finite.insert m o.key o) q ≡ cond (is_key_at q k) (Some o) (finite.get m q)
get_filed m o k q own = get-insert key_cmp_total m o.key o q ∙ ap (λ x. cond (is_key_at q x) (Some o) (finite.get m q)) own

get_objects : (es : List (Key × Object)) → is_sorted key_cmp es ≡ true → AreOf es → (m : Objects) (q : Key) → finite.get (with_objects m (map (λ e. e.1) es)) q ≡ or_else (find key_cmp q es) (finite.get m q)
get_objects [] sorted filed m q = refl
get_objects (e ∷ es) sorted filed m q =
    get_objects es parts.1 later (finite.insert m e.1.key e.1) q ∙ ap (or_else (find key_cmp q es)) (get_filed m e.1 e.0 q own) ∙ by (compare_keys q e.0)
  where
    parts : (below_all key_cmp e.0 es ≡ true) × (is_sorted key_cmp es ≡ true)
    parts = and_parts (below_all key_cmp e.0 es) (is_sorted key_cmp es) sorted

    own : e.1.key ≡ e.0
    own = filed e.0 e.1 (ap (λ b. cond b (Some e.1) (find key_cmp e.0 es)) (key_self e.0))

    none : (x : Key) → x ≡ e.0 → find key_cmp x es ≡ None
    none x tie = ap (λ y. find key_cmp y es) tie ∙ below_none e.0 es parts.0

    later : (x : Key) (o : Object) → find key_cmp x es ≡ Some o → o.key ≡ x
    later x o there = at (compare_keys x e.0)
      where
        at : ComparedKeys x e.0 → o.key ≡ x
        at (same_key ke kb) = absurd (none-some o (sym (none x ke) ∙ there))
        at (other_key ne kb) = filed x o (ap (λ b. cond b (Some e.1) (find key_cmp x es)) kb ∙ there)

    by : ComparedKeys q e.0 → or_else (find key_cmp q es) (cond (is_key_at q e.0) (Some e.1) (finite.get m q)) ≡ or_else (cond (is_key_at q e.0) (Some e.1) (find key_cmp q es)) (finite.get m q)
    by (same_key ke kb) =
        ap (λ b. or_else (find key_cmp q es) (cond b (Some e.1) (finite.get m q))) kb ∙ ap (λ o. or_else o (Some e.1)) (none q ke)
        ∙ sym (ap (λ b. or_else (cond b (Some e.1) (find key_cmp q es)) (finite.get m q)) kb)
    by (other_key ne kb) =
        ap (λ b. or_else (find key_cmp q es) (cond b (Some e.1) (finite.get m q))) kb
        ∙ sym (ap (λ b. or_else (cond b (Some e.1) (find key_cmp q es)) (finite.get m q)) kb)

-- a number is below the successor of another exactly if it is at most that other
less_next : (s i : ℕ) → nat_eq s i ≡ true → nat_lt s (suc i) ≡ true
less_next s i e = by (nat_lt s (suc i)) refl
  where
    by : (b : Bool) → nat_lt s (suc i) ≡ b → nat_lt s (suc i) ≡ true
    by true q = q
    by false q = absurd (at (compare s i))
      where
        at : Compared s i → ⊥
        at (same x b) = let l = ltb-false s (suc i) q in omega arith
        at (other x b) = true≢false (sym e ∙ b)

less_still : (s i : ℕ) → nat_eq s i ≡ false → nat_lt s (suc i) ≡ nat_lt s i
less_still s i e = by (nat_lt s (suc i)) refl (nat_lt s i) refl
  where
    by : (b : Bool) → nat_lt s (suc i) ≡ b → (c : Bool) → nat_lt s i ≡ c → nat_lt s (suc i) ≡ nat_lt s i
    by true q true r = q ∙ sym r
    by false q false r = q ∙ sym r
    by true q false r = absurd (at (compare s i))
      where
        at : Compared s i → ⊥
        at (same x b) = true≢false (sym b ∙ e)
        at (other x b) = let l = ltb-true s (suc i) q in let m = ltb-false s i r in x (omega arith)
    by false q true r = absurd (let l = ltb-false s (suc i) q in let m = ltb-true s i r in omega arith)

module _ (m : Objects) (filed : AreFiled m) (kind : Kind) (namespace : List ℕ) (shards : ℕ) where
  -- one more shard's part is gathered
  pub one_more_part : (i : ℕ) → with_objects (parts_below m kind namespace shards i) (collection (part_of m shards i) kind namespace) ≡ parts_below m kind namespace shards (suc i)
  one_more_part i = same_map key_cmp_total exact_keys _ _ (λ q.
      get_objects (entries here) (is_held (is_sorted key_cmp (entries here)) (entries_sorted here)) are_filed found q
      ∙ ap (λ o. or_else o (finite.get found q)) (sym (get-entries here q) ∙ get_here q)
      ∙ ap (or_else (cond (is_of kind namespace q) (cond (nat_eq (shard_of q shards) i) (finite.get m q) None) None)) (get_retained m (λ k. is_of kind namespace k && nat_lt (shard_of k shards) i) q)
      ∙ (settle (is_of kind namespace q) (finite.get m q) q (nat_eq (shard_of q shards) i) refl ∙ sym (get_retained m (λ k. is_of kind namespace k && nat_lt (shard_of k shards) (suc i)) q)))
    where
      here : Objects
      here = finite.retain_keys (part_of m shards i) (is_of kind namespace)

      found : Objects
      found = parts_below m kind namespace shards i

      get_here : (q : Key) → finite.get here q ≡ cond (is_of kind namespace q) (cond (nat_eq (shard_of q shards) i) (finite.get m q) None) None
      get_here q = get_retained (part_of m shards i) (is_of kind namespace) q ∙ ap (λ o. cond (is_of kind namespace q) o None) (get_retained m (λ k. nat_eq (shard_of k shards) i) q)

      are_filed : (q : Key) (o : Object) → find key_cmp q (entries here) ≡ Some o → o.key ≡ q
      are_filed q o there = at (is_of kind namespace q) (nat_eq (shard_of q shards) i) (sym (get_here q) ∙ get-entries here q ∙ there)
        where
          at : (b c : Bool) → cond b (cond c (finite.get m q) None) None ≡ Some o → o.key ≡ q
          at true true e = filed q o e
          at true false e = absurd (none-some o e)
          at false c e = absurd (none-some o e)

      settle : (b : Bool) (o : Option Object) (q : Key) → (c : Bool) → nat_eq (shard_of q shards) i ≡ c → or_else (cond b (cond c o None) None) (cond (b && nat_lt (shard_of q shards) i) o None) ≡ cond (b && nat_lt (shard_of q shards) (suc i)) o None
      settle false o q c e = refl
      settle true o q true e = again o (nat_lt (shard_of q shards) i) ∙ ap (λ t. cond t o None) (sym (less_next (shard_of q shards) i e))
        where
          again : (o : Option Object) (t : Bool) → or_else o (cond t o None) ≡ o
          again None true = refl
          again None false = refl
          again (Some x) t = refl
      settle true o q false e = ap (λ t. cond t o None) (sym (less_still (shard_of q shards) i e))

  -- nothing is gathered at first
  pub no_parts : finite.empty ≡ parts_below m kind namespace shards 0
  no_parts = same_map key_cmp_total exact_keys _ _ (λ q. get-empty key_cmp q ∙ sym (get_retained m (λ k. is_of kind namespace k && nat_lt (shard_of k shards) 0) q ∙ ap (λ t. cond t (finite.get m q) None) (by q (is_of kind namespace q) (nat_lt (shard_of q shards) 0) refl)))
    where
      by : (q : Key) (b c : Bool) → nat_lt (shard_of q shards) 0 ≡ c → (b && c) ≡ false
      by q false c e = refl
      by q true false e = refl
      by q true true e = absurd (let l = ltb-true (shard_of q shards) 0 e in omega arith)

  -- all parts are all objects
  pub all_parts : 0 < shards → parts_below m kind namespace shards shards ≡ finite.retain_keys m (is_of kind namespace)
  unfolding shard
  all_parts some = same_map key_cmp_total exact_keys _ _ (λ q.
      get_retained m (λ k. is_of kind namespace k && nat_lt (shard_of k shards) shards) q
      ∙ (ap (λ t. cond t (finite.get m q) None) (ap (λ t. is_of kind namespace q && t) (within q) ∙ and_true (is_of kind namespace q)) ∙ sym (get_retained m (is_of kind namespace) q)))
    where
      and_true : (b : Bool) → (b && true) ≡ b
      and_true true = refl
      and_true false = refl

      within : (q : Key) → nat_lt (shard_of q shards) shards ≡ true
      within q = by (nat_lt (shard_of q shards) shards) refl
        where
          below_shards : (q : Key) → shard_of q shards < shards
          below_shards q = shard_below record { capacity = 0; shards = shards } q some

          by : (b : Bool) → nat_lt (shard_of q shards) shards ≡ b → nat_lt (shard_of q shards) shards ≡ true
          by true e = e
          by false e = absurd (let l = ltb-false (shard_of q shards) shards e in let r = below_shards q in omega arith)

  pub all_values : 0 < shards → finite.values (parts_below m kind namespace shards shards) ≡ collection m kind namespace
  all_values some = ap (λ x. finite.values x) (all_parts some)

-- the reply to a list
module _ (shards capacity : ℕ) where
  lists_it : (s : Store) (kind : Kind) (namespace : List ℕ) → (step s (request.List kind namespace 0)).1 ≡ Listed (collection s.objects kind namespace) s.counter
  unfolding route
  lists_it s kind namespace = ap (λ (p : Store × Reply). p.1) (step_routed s (request.List kind namespace 0) (lists kind namespace) refl)

  pub list_answer : (h : List Writing) → IsLegal (home_of shards) Accepts h → length h ≤ capacity → 0 < shards → (kind : Kind) (namespace : List ℕ) (n : ℕ) → n ≡ length h
      → Listed (collection (store_after capacity h).objects kind namespace) n ≡ (step (store_after capacity h) (request.List kind namespace 0)).1
  list_answer h legal room some kind namespace n is =
      ap (Listed (collection (store_after capacity h).objects kind namespace)) (is ∙ sym (counter_is shards capacity h legal room))
      ∙ sym (lists_it (store_after capacity h) kind namespace)
