-- Requests and their replies show the objects of a key as one life after another.
use Rattle.std.proofs.Common.{◌≡◌, ◌+◌, ◌==◌, ℕ, Bool, true, false, cond, List, [], ◌∷◌, ◌++◌, Option, Some, None, refl, sym, ap, subst, ◌∙◌}
use Rattle.std.specs.Prelude.{option_map, filter, flat_map}
use Rattle.std.specs.List.{AllByRecursion}
use Rattle.std.specs.Ordering.{eq_by_cmp}
use Rattle.std.specs.FinMap as map
use Rattle.std.specs.FinMap.{FinMap, get-empty, get-insert, get-remove}
use Rattle.objects.specs.declared.key.Key.{Key}
use Rattle.objects.specs.declared.object.Object.{Object}
use Rattle.objects.specs.Key.{key_cmp}
use Rattle.objects.specs.KeyOrder.{key_cmp_total}
use Rattle.requests.specs.declared.request.Request.{Request}
use Rattle.requests.specs.declared.reply.Reply.{Reply}
use Rattle.requests.specs.declared.reply.Reply.TheVariants.{Listed, Refused}
use Rattle.requests.specs.declared.reply.Reason.TheVariants.{StoreFull}
use Rattle.requests.specs.declared.reply.Reason.{Reason}
use Rattle.requests.specs.Verdict.{verdict}
use Rattle.requests.specs.declared.verdict.Verdict.{Verdict}
use Rattle.requests.specs.declared.verdict.Verdict.TheVariants.{Refuse, Same, Write}
use Rattle.requests.specs.Change.{Change, creates, updates, marks, removes, stamp, accepted}
use Rattle.plain_store.specs.Route.{Route, compacts, gets, lists, lists_at, route, writes}
use Rattle.plain_store.specs.Store.{Store, carried_out, compacted_to, denied, found, is_of, opening, routed, step, with_change}
use Rattle.plain_store.specs.Run.{exchanges}
use Rattle.plain_store.specs.AtKey.{Has}
use Rattle.plain_store.specs.Filed.{AreFiled}
use Rattle.plain_store.specs.Lives.{Event, begins, changes, lasts, ends, events, events_by, events_of, reply_events, is_about, AreLives, HasUidOf}
use Rattle.version_map.proofs.Collections.{values_of}
use Rattle.plain_store.proofs.FoundEntries.{IsIn, kept_in}
use Rattle.plain_store.proofs.Routes.{names_its_key, objects_stay}
use Rattle.plain_store.proofs.Verdicts.{Replaces, Writes, tied, writing}
use Rattle.plain_store.proofs.KeptUids.{IsNew, IsNext, allowed, filed_after, filed_in_run}

abbrev about : Key → List Event → List Event
about q = filter (is_about q)

abbrev at : Store → Key → Option Object
at s q = map.get s.objects q

-- what a reply shows of the key comes before what is shown from the store that the step leaves
abbrev TellsOf : Key → Store → Store → List Event → Type 0
TellsOf q s t told = (later : List Event) → AreLives (at t q) (about q later) → AreLives (at s q) (about q (told ++ later))

abbrev Tells : Key → Store → Store × Reply → Type 0
Tells q s end = TellsOf q s end.0 (reply_events end.1)

-- what is shown of an object of the key, by whether it is there
lasts_by : (b : Bool) (current : Option Object) (o : Object) (later : List Event) → (b ≡ true → current ≡ Some o) → AreLives current later
    → AreLives current (cond b (lasts o ∷ later) later)
lasts_by true current o later is lives = (is refl, lives)
lasts_by false current o later is lives = lives

begins_by : (b : Bool) (before now : Option Object) (p : Object) (later : List Event) → (b ≡ true → before ≡ None) → now ≡ cond b (Some p) before
    → AreLives now later → AreLives before (cond b (begins p ∷ later) later)
begins_by true before now p later none is lives = (none refl, subst (λ x. AreLives x later) is lives)
begins_by false before now p later none is lives = subst (λ x. AreLives x later) is lives

changes_by : (b : Bool) (before now : Option Object) (p : Object) (later : List Event) → (b ≡ true → HasUidOf p before) → now ≡ cond b (Some p) before
    → AreLives now later → AreLives before (cond b (changes p ∷ later) later)
changes_by true before now p later uid is lives = (uid refl, subst (λ x. AreLives x later) is lives)
changes_by false before now p later uid is lives = subst (λ x. AreLives x later) is lives

ends_by : (b : Bool) (before now : Option Object) (p : Object) (later : List Event) → (b ≡ true → HasUidOf p before) → now ≡ cond b None before
    → AreLives now later → AreLives before (cond b (ends p ∷ later) later)
ends_by true before now p later uid is lives = (uid refl, subst (λ x. AreLives x later) is lives)
ends_by false before now p later uid is lives = subst (λ x. AreLives x later) is lives

-- under that key the object is found that has it
found_at : (s : Store) (q k : Key) (o p : Object) → AreFiled s.objects → Has s k o → p.key ≡ o.key → eq_by_cmp key_cmp q p.key ≡ true → Has s q o
found_at s q k o p filed there named tie = ap (at s) (tied q p.key tie ∙ named ∙ filed k o there) ∙ there

lasts_tells : (q : Key) (s : Store) (k : Key) (o : Object) → AreFiled s.objects → Has s k o → (later : List Event)
    → AreLives (at s q) (about q later) → AreLives (at s q) (about q (lasts o ∷ later))
lasts_tells q s k o filed there later lives =
    lasts_by (eq_by_cmp key_cmp q o.key) (at s q) o (about q later) (found_at s q k o o filed there refl) lives

found_tells : (q : Key) (s : Store) (k : Key) (o : Option Object) → AreFiled s.objects → at s k ≡ o → Tells q s (s, found o)
found_tells q s k None filed there = λ later lives. lives
found_tells q s k (Some o) filed there = lasts_tells q s k o filed there

-- each entry is of the store's map, so the object that is listed is the one that lives
listed_tells : (q : Key) (s : Store) (es : List (Key × Object)) (n : ℕ) → AreFiled s.objects → AllByRecursion (IsIn s.objects) es → Tells q s (s, Listed (values_of es) n)
listed_tells q s [] n filed there = λ later lives. lives
listed_tells q s (e ∷ es) n filed there = λ later lives.
    lasts_tells q s e.0 e.1 filed there.0 (reply_events (Listed (values_of es) n) ++ later) (listed_tells q s es n filed there.1 later lives)

-- what the map has at a key after an object is put there or removed, by the key that the object has
inserted_at : (m : FinMap key_cmp Object) (k q : Key) (p : Object) → p.key ≡ k → map.get (map.insert m k p) q ≡ cond (eq_by_cmp key_cmp q p.key) (Some p) (map.get m q)
inserted_at m k q p named = get-insert key_cmp_total m k p q ∙ ap (λ x. cond (eq_by_cmp key_cmp q x) (Some p) (map.get m q)) (sym named)

taken_at : (m : FinMap key_cmp Object) (k q : Key) (p : Object) → p.key ≡ k → map.get (map.remove m k) q ≡ cond (eq_by_cmp key_cmp q p.key) None (map.get m q)
taken_at m k q p named = get-remove key_cmp_total m k q ∙ ap (λ x. cond (eq_by_cmp key_cmp q x) None (map.get m q)) (sym named)

abbrev Writing : Store → Key → Verdict → Type 0
Writing s k v = Writes (IsNew (s.counter + 1)) (IsNext (s.counter + 1)) (s.counter + 1) k (at s k) v

-- the object that has the key has the UID of the one that replaces it, or is removed
uid_at : (s : Store) (q : Key) (o p : Object) → Has s q o → p.meta.uid ≡ o.meta.uid → HasUidOf p (at s q)
uid_at s q o p there uid = ap (option_map (λ (x : Object). x.meta.uid)) there ∙ ap Some (sym uid)

-- an object that replaces another
replaced_tells : (q : Key) (s : Store) (k : Key) (p : Object) → AreFiled s.objects → Replaces (IsNext (s.counter + 1)) k (at s k) p → (later : List Event)
    → AreLives (map.get (map.insert s.objects k p) q) (about q later) → AreLives (at s q) (about q (changes p ∷ later))
replaced_tells q s k p filed new later lives =
    let named : p.key ≡ k = new.changed.key (filed k new.old new.there) in
    changes_by (eq_by_cmp key_cmp q p.key) (at s q) (map.get (map.insert s.objects k p) q) p (about q later)
    (λ tie. uid_at s q new.old p (found_at s q k new.old p filed new.there (named ∙ sym (filed k new.old new.there)) tie) new.changed.uid)
    (inserted_at s.objects k q p named) lives

change_tells : (q : Key) (s : Store) (k : Key) (c : Change) → AreFiled s.objects → Writing s k (Write c) → Tells q s (with_change s k c, accepted c (stamp c (s.counter + 1)))
change_tells q s k (creates o) filed wrote = λ later lives.
    let p = stamp (creates o) (s.counter + 1) in
    let named : p.key ≡ k = wrote.1.key in
    begins_by (eq_by_cmp key_cmp q p.key) (at s q) (map.get (map.insert s.objects k p) q) p (about q later)
    (λ tie. ap (at s) (tied q p.key tie ∙ named) ∙ wrote.0) (inserted_at s.objects k q p named) lives
change_tells q s k (updates o) filed wrote = replaced_tells q s k (stamp (updates o) (s.counter + 1)) filed wrote
change_tells q s k (marks o) filed wrote = replaced_tells q s k (stamp (marks o) (s.counter + 1)) filed wrote
change_tells q s k (removes o) filed wrote = λ later lives.
    let p = stamp (removes o) (s.counter + 1) in
    ends_by (eq_by_cmp key_cmp q p.key) (at s q) (map.get (map.remove s.objects k) q) p (about q later)
    (λ tie. uid_at s q o p (found_at s q k o p filed wrote refl tie) refl) (taken_at s.objects k q p (filed k o wrote)) lives

write_tells : (q : Key) (s : Store) (k : Key) (c : Change) (full : Bool) → AreFiled s.objects → Writing s k (Write c)
    → Tells q s (cond full (s, Refused StoreFull) (with_change s k c, accepted c (stamp c (s.counter + 1))))
write_tells q s k c true filed wrote = λ later lives. lives
write_tells q s k c false filed wrote = change_tells q s k c filed wrote

verdict_tells : (q : Key) (s : Store) (k : Key) (v : Verdict) → AreFiled s.objects → Writing s k v → Tells q s (carried_out s k v)
verdict_tells q s k (Refuse reason) filed wrote = λ later lives. lives
verdict_tells q s k (Same o) filed wrote = lasts_tells q s k o filed wrote
verdict_tells q s k (Write c) filed wrote = write_tells q s k c (s.counter == s.capacity) filed wrote

-- a compaction leaves each key as it was
compaction_tells : (q : Key) (s : Store) (n : ℕ) (denial : Option Reason) → TellsOf q s (compacted_to s n denial).0 []
compaction_tells q s n denial = λ later lives. subst (λ m. AreLives (map.get m q) (about q later)) (objects_stay s n denial) lives

step_tells : (q : Key) (s : Store) (r : Request) → AreFiled s.objects → TellsOf q s (step s r).0 (events (r, (step s r).1))
unfolding step
step_tells q s r filed = by (route r) refl
  where
    by : (x : Route) → route r ≡ x → TellsOf q s (routed s r x).0 (events_by x (routed s r x).1)
    by (gets k) is = found_tells q s k (at s k) filed refl
    by (lists kind namespace) is = listed_tells q s (map.entries (map.retain_keys s.objects (is_of kind namespace))) s.counter filed (kept_in s.objects (is_of kind namespace))
    by (writes k) is =
        verdict_tells q s k (verdict r (at s k)) filed
        (writing (IsNew (s.counter + 1)) (IsNext (s.counter + 1)) (s.counter + 1) r k (at s k) (names_its_key r k is) (allowed (s.counter + 1) r))
    by (lists_at kind namespace n) is = λ later lives. lives
    by (compacts n) is = compaction_tells q s n (denied s.floor s.counter n)

lives_from : (q : Key) (s : Store) (rs : List Request) → AreFiled s.objects → AreLives (at s q) (events_of q (exchanges s rs))
lives_from q s [] filed = tt
lives_from q s (r ∷ rs) filed = step_tells q s r filed (flat_map events (exchanges (step s r).0 rs)) (lives_from q (step s r).0 rs (filed_after s r filed))

-- the exchanges with a store that was opened show one life after another
pub lives_in_run : (capacity : ℕ) (rs : List Request) (q : Key) → AreLives None (events_of q (exchanges (opening capacity) rs))
lives_in_run capacity rs q =
    subst (λ o. AreLives o (events_of q (exchanges (opening capacity) rs))) (get-empty key_cmp q) (lives_from q (opening capacity) rs (filed_in_run capacity []))
