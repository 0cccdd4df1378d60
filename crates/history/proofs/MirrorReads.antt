-- What is read of a shard is its part of what the log has.
use Rattle.std.proofs.Common.{◌≡◌, ℕ, zero, suc, ◌<◌, ◌≤◌, Bool, true, false, cond, ◌&&◌, List, [], ◌∷◌, map, Option, Some, None, refl, sym, ap, ◌∙◌, inl, arith, nat_eq, ne_eqb}
use Rattle.std.specs.FinMap as finite
use Rattle.std.specs.FinMap.{entries, entries_sorted, find, get-empty, get-entries, get-insert, is_sorted, same_map}
use Rattle.std.specs.FinMap.Entries.{below_all}
use Rattle.std.proofs.lemmas.Bool.{and_parts}
use Rattle.std.proofs.lemmas.Option.{none-some}
use Rattle.objects.specs.declared.key.Key.{Key}
use Rattle.objects.specs.declared.kind.Kind.{Kind}
use Rattle.objects.specs.declared.object.Object.{Object}
use Rattle.objects.specs.Key.{key_cmp}
use Rattle.objects.specs.KeyOrder.{exact_keys, key_cmp_total}
use Rattle.requests.specs.declared.request.Request.{Request}
use Rattle.requests.specs.declared.reply.Reply.{Reply}
use Rattle.requests.specs.declared.reply.Reply.TheVariants.{Listed}
use Rattle.plain_store.specs.Route.{gets, lists, lists_at, route, writes}
use Rattle.plain_store.specs.Store as store
use Rattle.plain_store.specs.Store.{Objects, Store, collection, is_of, listed_at, step}
use Rattle.version_map.proofs.Chains.{below_none}
use Rattle.versions.specs.Records as versions
use Rattle.versions.specs.Records.{Records}
use Rattle.versions.proofs.Found.{is_held}
use Rattle.versions.proofs.States.{state_is_value}
use Rattle.interleavings.specs.Log.{IsFiled, Log, state_at, value}
use Rattle.history.specs.Mirrors.{Mirrors, read_up_to, with_object}
use Rattle.versions.specs.Gathered.{with_objects}
use Rattle.interleavings.specs.Step.{only, reads, with_part}
use Rattle.interleavings.specs.World.{Size, shard}
use Rattle.interleavings.proofs.Basics.{Compared, same, other, compare, ComparedKeys, same_key, other_key, compare_keys, is_key_at, key_self}
use Rattle.interleavings.proofs.Values.{find_or, get_part, get_retained, get_state, part_of_none, part_of_same}
use Rattle.interleavings.proofs.Filed.{value_key}
use Rattle.interleavings.proofs.Plainly.{denied_self, step_routed}
use Rattle.interleavings.proofs.Collected.{same_answer}
use Rattle.interleavings.proofs.Quiets.{shard_below}

abbrev AreFiled : List (Key × Object) → Type 0
AreFiled es = (q : Key) (o : Object) → find key_cmp q es ≡ Some o → o.key ≡ q

get_filed : (m : Objects) (o : Object) (k q : Key) → o.key ≡ k → finite.get (finite.insert m o.key o) q ≡ cond (is_key_at q k) (Some o) (finite.get m q)
get_filed m o k q own = get-insert key_cmp_total m o.key o q ∙ ap (λ x. cond (is_key_at q x) (Some o) (finite.get m q)) own

-- objects that are put in one by one are all there
get_objects : (es : List (Key × Object)) → is_sorted key_cmp es ≡ true → AreFiled es → (m : Objects) (q : Key) → finite.get (with_objects m (map (λ e. e.1) es)) q ≡ find_or (find key_cmp q es) (finite.get m q)
unfolding find_or
get_objects [] sorted filed m q = refl
get_objects (e ∷ es) sorted filed m q =
    get_objects es parts.1 later (finite.insert m e.1.key e.1) q ∙ ap (find_or (find key_cmp q es)) (get_filed m e.1 e.0 q own) ∙ by (compare_keys q e.0)
  where
    parts : (below_all key_cmp e.0 es ≡ true) × (is_sorted key_cmp es ≡ true)
    parts = and_parts (below_all key_cmp e.0 es) (is_sorted key_cmp es) sorted

    own : e.1.key ≡ e.0
    own = filed e.0 e.1 (ap (λ b. cond b (Some e.1) (find key_cmp e.0 es)) (key_self e.0))

    none : (x : Key) → x ≡ e.0 → find key_cmp x es ≡ None
    none x tie = ap (λ y. find key_cmp y es) tie ∙ below_none e.0 es parts.0

    later : (x : Key) (o : Object) → find key_cmp x es ≡ Some o → o.key ≡ x
    later x o there = at (compare_keys x e.0)
      where
        at : ComparedKeys x e.0 → o.key ≡ x
        at (same_key ke kb) = absurd (none-some o (sym (none x ke) ∙ there))
        at (other_key ne kb) = filed x o (ap (λ b. cond b (Some e.1) (find key_cmp x es)) kb ∙ there)

    by : ComparedKeys q e.0 → find_or (find key_cmp q es) (cond (is_key_at q e.0) (Some e.1) (finite.get m q)) ≡ find_or (cond (is_key_at q e.0) (Some e.1) (find key_cmp q es)) (finite.get m q)
    by (same_key ke kb) =
        ap (λ b. find_or (find key_cmp q es) (cond b (Some e.1) (finite.get m q))) kb ∙ ap (λ o. find_or o (Some e.1)) (none q ke)
        ∙ sym (ap (λ b. find_or (cond b (Some e.1) (find key_cmp q es)) (finite.get m q)) kb)
    by (other_key ne kb) =
        ap (λ b. find_or (find key_cmp q es) (cond b (Some e.1) (finite.get m q))) kb
        ∙ sym (ap (λ b. find_or (cond b (Some e.1) (find key_cmp q es)) (finite.get m q)) kb)

-- ---- parts

-- what a key is with the part of one more shard
get_with_part : (z : Size) (log : Log) (n : ℕ) (r : Request) (s : ℕ) (found : Objects) (q : Key)
    → finite.get (with_part z log n r s found) q ≡ find_or (cond (reads (route r) q && nat_eq (shard z q) s) (value log n q) None) (finite.get found q)
unfolding with_part
get_with_part z log n r s found q = get_part log n (λ k. reads (route r) k && nat_eq (shard z k) s) found q

module _ {z : Size} {log : Log} {d s : ℕ} {rs : Records} {f : ℕ} (shown : Mirrors z log d s rs f) (filed : IsFiled log) (n : ℕ) (from : f ≤ n) where
  -- what the records say of any key
  value_shown : (q : Key) → versions.value rs n q ≡ cond (nat_eq (shard z q) s) (value log n q) None
  value_shown q = by (compare (shard z q) s)
    where
      by : Compared (shard z q) s → versions.value rs n q ≡ cond (nat_eq (shard z q) s) (value log n q) None
      by (same e b) = shown.values n q from e ∙ sym (ap (λ b. cond b (value log n q) None) b)
      by (other ne b) = shown.others n q from ne ∙ sym (ap (λ b. cond b (value log n q) None) b)

  -- the object that a shard has at a number has the key that was looked up
  pub key_shown : (q : Key) (o : Object) → versions.value rs n q ≡ Some o → o.key ≡ q
  key_shown q o is = by (nat_eq (shard z q) s) (sym (value_shown q) ∙ is)
    where
      by : (b : Bool) → cond b (value log n q) None ≡ Some o → o.key ≡ q
      by true there = value_key log filed n q o there
      by false there = absurd (none-some o there)

  nested : (a b : Bool) (o : Option Object) → cond a (cond b o None) None ≡ cond (a && b) o None
  nested true b o = refl
  nested false b o = refl

  module _ (r : Request) (found : Objects) where
    -- a list that a caller puts into what it has found
    pub listed : (kind : Kind) (namespace : List ℕ) → ((k : Key) → reads (route r) k ≡ is_of kind namespace k)
        → with_objects found (collection (versions.state_at rs n) kind namespace) ≡ with_part z log n r s found
    listed kind namespace wanted = same_map key_cmp_total exact_keys _ _ (λ q.
        get_objects (entries here) (is_held (is_sorted key_cmp (entries here)) (entries_sorted here)) are_filed found q
        ∙ ap (λ o. find_or o (finite.get found q)) (sym (get-entries here q) ∙ get_here q) ∙ sym (get_with_part z log n r s found q))
      where
        here : Objects
        here = finite.retain_keys (versions.state_at rs n) (is_of kind namespace)

        get_here : (q : Key) → finite.get here q ≡ cond (reads (route r) q && nat_eq (shard z q) s) (value log n q) None
        get_here q =
            get_retained (versions.state_at rs n) (is_of kind namespace) q ∙ ap (λ o. cond (is_of kind namespace q) o None) (state_is_value rs n q ∙ value_shown q)
            ∙ nested (is_of kind namespace q) (nat_eq (shard z q) s) (value log n q)
            ∙ ap (λ b. cond (b && nat_eq (shard z q) s) (value log n q) None) (sym (wanted q))

        are_filed : AreFiled (entries here)
        are_filed q o there = at (is_of kind namespace q) (sym (get_retained (versions.state_at rs n) (is_of kind namespace) q) ∙ get-entries here q ∙ there)
          where
            at : (b : Bool) → cond b (finite.get (versions.state_at rs n) q) None ≡ Some o → o.key ≡ q
            at true there = key_shown q o (sym (state_is_value rs n q) ∙ there)
            at false there = absurd (none-some o there)

    pub list_part : (kind : Kind) (namespace : List ℕ) → route r ≡ lists kind namespace
        → with_objects found (collection (versions.state_at rs n) kind namespace) ≡ with_part z log n r s found
    list_part kind namespace is = listed kind namespace (λ k. ap (λ ro. reads ro k) is)

    pub list_at_part : (kind : Kind) (namespace : List ℕ) (number : ℕ) → route r ≡ lists_at kind namespace number
        → with_objects found (collection (versions.state_at rs n) kind namespace) ≡ with_part z log n r s found
    list_at_part kind namespace number is = listed kind namespace (λ k. ap (λ ro. reads ro k) is)

    -- an object that a caller puts there
    pub object_part : (k : Key) → route r ≡ gets k → with_object found (versions.value rs n k) ≡ with_part z log n r s found
    unfolding find_or
    object_part k is = same_map key_cmp_total exact_keys _ _ (λ q.
        by_object q (versions.value rs n k) (key_shown k) ∙ ap (λ o. find_or o (finite.get found q)) (at q (compare_keys q k)) ∙ sym (get_with_part z log n r s found q))
      where
        by_object : (q : Key) (o : Option Object) → ((x : Object) → o ≡ Some x → x.key ≡ k) → finite.get (with_object found o) q ≡ find_or (cond (is_key_at q k) o None) (finite.get found q)
        by_object q None own = elim (is_key_at q k) as (λ b. finite.get found q ≡ find_or (cond b None None) (finite.get found q)) [ true ↦ refl | false ↦ refl ]
        by_object q (Some x) own = get_filed found x k q (own x refl) ∙ elim (is_key_at q k) as (λ b. cond b (Some x) (finite.get found q) ≡ find_or (cond b (Some x) None) (finite.get found q)) [ true ↦ refl | false ↦ refl ]

        at : (q : Key) → ComparedKeys q k → cond (is_key_at q k) (versions.value rs n k) None ≡ cond (reads (route r) q && nat_eq (shard z q) s) (value log n q) None
        at q (same_key ke kb) =
            ap (λ b. cond b (versions.value rs n k) None) kb ∙ ap (λ x. versions.value rs n x) (sym ke) ∙ value_shown q
            ∙ ap (λ b. cond (b && nat_eq (shard z q) s) (value log n q) None) (sym (ap (λ ro. reads ro q) is ∙ kb))
        at q (other_key ne kb) =
            ap (λ b. cond b (versions.value rs n k) None) kb ∙ ap (λ b. cond (b && nat_eq (shard z q) s) (value log n q) None) (sym (ap (λ ro. reads ro q) is ∙ kb))

-- ---- all parts

module _ (z : Size) (log : Log) (n : ℕ) (r : Request) where
  both : (a b : Bool) → a ≡ true → b ≡ true → (a && b) ≡ true
  both a b first second = ap (λ c. c && b) first ∙ second

  only_first : (a b : Bool) → b ≡ false → (a && b) ≡ false
  only_first true b second = second
  only_first false b second = refl

  -- a key is not there before its shard is read
  before : (k : Key) (s : ℕ) → s ≤ shard z k → finite.get (read_up_to z log n r s) k ≡ None
  before k zero le = get-empty key_cmp k
  before k (suc s) le =
      get_with_part z log n r s (read_up_to z log n r s) k ∙ part_of_none _ (value log n k) _ (only_first (reads (route r) k) (nat_eq (shard z k) s) (ne_eqb (shard z k) s (λ same. absurd (omega arith))))
      ∙ before k s (omega arith)

  -- and then it is what it was
  beyond : (k : Key) → reads (route r) k ≡ true → (s : ℕ) → shard z k < s → finite.get (read_up_to z log n r s) k ≡ value log n k
  beyond k wanted zero lt = absurd (omega arith)
  beyond k wanted (suc s) lt = get_with_part z log n r s (read_up_to z log n r s) k ∙ at (compare (shard z k) s) (beyond k wanted s)
    where
      at : Compared (shard z k) s → (shard z k < s → finite.get (read_up_to z log n r s) k ≡ value log n k)
          → find_or (cond (reads (route r) k && nat_eq (shard z k) s) (value log n k) None) (finite.get (read_up_to z log n r s) k) ≡ value log n k
      at (same e b) ih = part_of_same _ (value log n k) _ (both (reads (route r) k) (nat_eq (shard z k) s) wanted b) (inl (before k s (omega arith)))
      at (other ne b) ih = part_of_none _ (value log n k) _ (only_first (reads (route r) k) (nat_eq (shard z k) s) b) ∙ ih (omega arith)

  -- nothing else is there
  pub none_unwanted : (k : Key) → reads (route r) k ≡ false → (s : ℕ) → finite.get (read_up_to z log n r s) k ≡ None
  none_unwanted k unwanted zero = get-empty key_cmp k
  none_unwanted k unwanted (suc s) =
      get_with_part z log n r s (read_up_to z log n r s) k ∙ part_of_none _ (value log n k) _ (ap (λ b. b && nat_eq (shard z k) s) unwanted) ∙ none_unwanted k unwanted s

  pub read_of_all_parts : 0 < z.shards → (k : Key) → reads (route r) k ≡ true → finite.get (read_up_to z log n r z.shards) k ≡ value log n k
  read_of_all_parts some k wanted = beyond k wanted z.shards (shard_below z k some)

  pub answer_of_all_parts : 0 < z.shards → ((k : Key) → route r ≡ writes k → ⊥) → (step (only z n (state_at log n)) r).1 ≡ (step (only z n (read_up_to z log n r z.shards)) r).1
  answer_of_all_parts some no_write = same_answer z log n r (read_up_to z log n r z.shards) (route r) refl no_write (read_of_all_parts some)

-- ---- replies

all_values : (m : Objects) (wanted : Key → Bool) → ((k : Key) → wanted k ≡ false → finite.get m k ≡ None) → finite.retain_keys m wanted ≡ m
all_values m wanted none = same_map key_cmp_total exact_keys (finite.retain_keys m wanted) m (λ k. get_retained m wanted k ∙ at k (wanted k) refl)
  where
    at : (k : Key) (b : Bool) → wanted k ≡ b → cond b (finite.get m k) None ≡ finite.get m k
    at k true e = refl
    at k false e = sym (none k e)

module _ (z : Size) (n : ℕ) (r : Request) (found : Objects) where
  -- the reply to a get is the object of its key
  pub get_reply : (k : Key) → route r ≡ gets k → (step (only z n found) r).1 ≡ store.found (finite.get found k)
  get_reply k is = ap (λ (x : Store × Reply). x.1) (step_routed (only z n found) r (gets k) is)

  -- that to a list is all objects, if only objects of the list are there
  pub list_reply : (kind : Kind) (namespace : List ℕ) → route r ≡ lists kind namespace → ((k : Key) → reads (route r) k ≡ false → finite.get found k ≡ None)
      → (step (only z n found) r).1 ≡ Listed (finite.values found) n
  list_reply kind namespace is none =
      ap (λ (x : Store × Reply). x.1) (step_routed (only z n found) r (lists kind namespace) is)
      ∙ ap (λ m. Listed (finite.values m) n) (all_values found (is_of kind namespace) (λ k unwanted. none k (ap (λ ro. reads ro k) is ∙ unwanted)))

  pub list_at_reply : (kind : Kind) (namespace : List ℕ) → route r ≡ lists_at kind namespace n → ((k : Key) → reads (route r) k ≡ false → finite.get found k ≡ None)
      → (step (only z n found) r).1 ≡ Listed (finite.values found) n
  list_at_reply kind namespace is none =
      ap (λ (x : Store × Reply). x.1) (step_routed (only z n found) r (lists_at kind namespace n) is)
      ∙ ap (listed_at n (collection found kind namespace)) (denied_self n)
      ∙ ap (λ m. Listed (finite.values m) n) (all_values found (is_of kind namespace) (λ k unwanted. none k (ap (λ ro. reads ro k) is ∙ unwanted)))

-- what the one shard of a get says is its reply
pub get_answer : {z : Size} {log : Log} {d : ℕ} {rs : Records} {f : ℕ} (k : Key) → Mirrors z log d (shard z k) rs f → (n : ℕ) → f ≤ n → (r : Request) → route r ≡ gets k
    → (step (only z n (state_at log n)) r).1 ≡ store.found (versions.value rs n k)
get_answer {z = z} {log = log} k shown n from r is = get_reply z n r (state_at log n) k is ∙ ap store.found (get_state log n k ∙ sym (shown.values n k from refl))
