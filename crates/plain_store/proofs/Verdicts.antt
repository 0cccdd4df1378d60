-- What the verdicts on requests may write, and what a step then leaves under each key. A fact of what is made, and one
-- of what is changed, are shown for each kind of request, and so hold of each step. A new kind of request is a line of
-- `Allows` and of `writing`, and of each such fact.
use Rattle.std.proofs.Common.{◌≡◌, ◌+◌, ◌==◌, ℕ, Bool, true, false, cond, ◌⊎◌, inl, inr, List, [], Option, Some, None, refl, sym, ap, subst, ◌∙◌}
use Rattle.std.specs.Prelude.{⊤, is_some}
use Rattle.std.specs.FinMap as map
use Rattle.std.specs.FinMap.{FinMap, get-insert, get-remove}
use Rattle.std.specs.Ordering.{eq_by_cmp}
use Rattle.std.proofs.lemmas.Option.{none-some, same_Some}
use Rattle.objects.specs.declared.key.Key.{Key}
use Rattle.objects.specs.declared.object.Draft.{Draft}
use Rattle.objects.specs.declared.object.Object.{Object}
use Rattle.objects.specs.declared.kind.Kind.TheVariants.{Pod}
use Rattle.objects.specs.Key.{key_cmp}
use Rattle.objects.specs.KeyOrder.{equal_from, exact_keys, key_cmp_total}
use Rattle.objects.specs.Same.{same_data}
use Rattle.requests.specs.declared.request.Request.{Request}
use Rattle.requests.specs.declared.request.Request.TheVariants as request
use Rattle.requests.specs.declared.request.Request.TheVariants.{Create, Get, Update, UpdateStatus, Delete, Compact}
use Rattle.requests.specs.declared.reply.Reply.{Reply}
use Rattle.requests.specs.declared.reply.Reply.TheVariants.{Refused}
use Rattle.requests.specs.declared.reply.Reason.{Reason}
use Rattle.requests.specs.declared.reply.Reason.TheVariants.{AlreadyExists, Conflict, Invalid, StoreFull}
use Rattle.requests.specs.declared.verdict.Verdict.{Verdict}
use Rattle.requests.specs.declared.verdict.Verdict.TheVariants.{Refuse, Same, Write}
use Rattle.requests.specs.Change.{Change, creates, updates, marks, removes, at_version, stamp, accepted, kept}
use Rattle.requests.specs.Verdict.{born, changes_data, conflicts, deleted, graceful, has_status, marked, on_create, on_delete, on_status, on_status_of, on_update, same_member, nonempty, status_unless_same, unless_same, updated, verdict, with_status_of}
use Rattle.requests.specs.Keys.{key_named}
use Rattle.std.specs.Prelude.{codes}
use Rattle.plain_store.specs.Store.{Store, step, carried_out, compacted_to, denied, put_at, routed, with_change}
use Rattle.plain_store.specs.Route.{Route, compacts, gets, lists, lists_at, route, writes}
use Rattle.plain_store.specs.AtKey.{Has, HasNone}
use Rattle.plain_store.proofs.Routes.{counter_stays, names_its_key, objects_stay}

-- a fact of an object that is made under a key, and a fact of a key's object and what replaces it
abbrev pub OfMade : Type 1
OfMade = Key → Object → Type 0

abbrev pub OfChanged : Type 1
OfChanged = Key → Object → Object → Type 0

-- there is an object, and this one replaces it
pub record Replaces (U : OfChanged) (k : Key) (current : Option Object) (new : Object) : Type 0 where
  pub old : Object
  pub there : current ≡ Some old
  pub changed : U k old new

-- what the verdict writes with the number n has the facts, given what is there
abbrev pub Writes : OfMade → OfChanged → ℕ → Key → Option Object → Verdict → Type 0
Writes C U n k current (Refuse reason) = ⊤
Writes C U n k current (Same o) = current ≡ Some o
Writes C U n k current (Write (creates o)) = (current ≡ None) × C k (stamp (creates o) n)
Writes C U n k current (Write (updates o)) = Replaces U k current (stamp (updates o) n)
Writes C U n k current (Write (marks o)) = Replaces U k current (stamp (marks o) n)
Writes C U n k current (Write (removes o)) = current ≡ Some o

-- the changes that a request can make have the facts
abbrev pub Allows : OfMade → OfChanged → ℕ → Request → Type 0
Allows C U n (Get k) = ⊤
Allows C U n (request.List kind namespace exact) = ⊤
Allows C U n (Create d) = C d.object.key (stamp (creates (born d.object)) n)
Allows C U n (Update d) = (o : Object) → U d.object.key o (at_version (updated o d) n)
Allows C U n (UpdateStatus d) = (o : Object) → U d.object.key o (at_version (with_status_of o d) n)
Allows C U n (Delete k uid version at) = (t : List ℕ) (o : Object) → U k o (at_version (marked t o) n)
Allows C U n (Compact to) = ⊤

either : (P : Verdict → Type 0) (b : Bool) (v w : Verdict) → P v → P w → P (cond b v w)
either P true v w p q = p
either P false v w p q = q

create_writes : (C : OfMade) (U : OfChanged) (n : ℕ) (d : Draft) (current : Option Object) → Allows C U n (Create d) → Writes C U n d.object.key current (on_create d current)
create_writes C U n d None made =
    either (Writes C U n d.object.key None) (is_some (nonempty d.version)) (Refuse Invalid) (Write (creates (born d.object))) tt (refl, made)
create_writes C U n d (Some o) made =
    either (Writes C U n d.object.key (Some o)) (is_some (nonempty d.version)) (Refuse Invalid) (Refuse AlreadyExists) tt tt

update_writes : (C : OfMade) (U : OfChanged) (n : ℕ) (d : Draft) (current : Option Object) → Allows C U n (Update d) → Writes C U n d.object.key current (on_update d current)
update_writes C U n d None changed = tt
update_writes C U n d (Some o) changed =
    let P = Writes C U n d.object.key (Some o) in
    either P (conflicts d.version d.uid o) (Refuse Conflict) _ tt
    (either P (changes_data d o) (Refuse Invalid) (unless_same o (updated o d)) tt
    (either P (same_data o.body (updated o d).body) (Same o) (Write (updates (updated o d))) refl (record { old = o; there = refl; changed = changed o })))

status_of_writes : (C : OfMade) (U : OfChanged) (n : ℕ) (d : Draft) (current : Option Object) → Allows C U n (UpdateStatus d) → Writes C U n d.object.key current (on_status_of d current)
status_of_writes C U n d None changed = tt
status_of_writes C U n d (Some o) changed =
    let P = Writes C U n d.object.key (Some o) in
    either P (conflicts d.version d.uid o) (Refuse Conflict) (status_unless_same o d) tt
    (either P (same_member (codes "status") o.body d.object.body) (Same o) (Write (updates (with_status_of o d))) refl (record { old = o; there = refl; changed = changed o }))

status_writes : (C : OfMade) (U : OfChanged) (n : ℕ) (d : Draft) (current : Option Object) → Allows C U n (UpdateStatus d) → Writes C U n d.object.key current (on_status d current)
status_writes C U n d current changed =
    either (Writes C U n d.object.key current) (has_status d.object.key.kind) (on_status_of d current) (Refuse Invalid) (status_of_writes C U n d current changed) tt

deleted_writes : (C : OfMade) (U : OfChanged) (n : ℕ) (k : Key) (time : Option (List ℕ)) (o : Object) → ((t : List ℕ) → U k o (at_version (marked t o) n)) → Writes C U n k (Some o) (deleted time o)
deleted_writes C U n k None o changed = refl
deleted_writes C U n k (Some t) o changed =
    either (Writes C U n k (Some o)) (is_some o.meta.deletion) (Same o) (Write (marks (marked t o))) refl (record { old = o; there = refl; changed = changed t })

delete_writes : (C : OfMade) (U : OfChanged) (n : ℕ) (k : Key) (uid version at : Option (List ℕ)) (current : Option Object) → Allows C U n (Delete k uid version at)
    → Writes C U n k current (on_delete version uid at current)
delete_writes C U n k uid version at None changed = tt
delete_writes C U n k uid version at (Some o) changed =
    either (Writes C U n k (Some o)) (conflicts version uid o) (Refuse Conflict) (deleted (graceful o.key.kind at) o) tt
    (deleted_writes C U n k (graceful o.key.kind at) o (λ t. changed t o))

named : {A : Type 0} (P : Key → A → Type 0) (q k : Key) (a : A) → Some q ≡ Some k → P q a → P k a
named P q k a same holds = subst (λ x. P x a) (same_Some q k same) holds

-- what the verdict on a write request writes has the facts
pub writing : (C : OfMade) (U : OfChanged) (n : ℕ) (r : Request) (k : Key) (current : Option Object) → key_named r ≡ Some k → Allows C U n r
    → Writes C U n k current (verdict r current)
writing C U n (Get q) k current is allowed = tt
writing C U n (request.List kind namespace exact) k current is allowed = tt
writing C U n (Create d) k current is allowed = named (λ q v. Writes C U n q current v) d.object.key k (on_create d current) is (create_writes C U n d current allowed)
writing C U n (Update d) k current is allowed = named (λ q v. Writes C U n q current v) d.object.key k (on_update d current) is (update_writes C U n d current allowed)
writing C U n (UpdateStatus d) k current is allowed = named (λ q v. Writes C U n q current v) d.object.key k (on_status d current) is (status_writes C U n d current allowed)
writing C U n (Delete q uid version at) k current is allowed =
    named (λ x v. Writes C U n x current v) q k (on_delete version uid at current) is (delete_writes C U n q uid version at current allowed)
writing C U n (Compact to) k current is allowed = tt

-- ---- what is left under each key

-- an object and what is in its place after a step that may have written under the key k
abbrev pub Turn : OfMade → OfChanged → Key → Key → Option Object → Option Object → Type 0
Turn C U k q None None = ⊤
Turn C U k q None (Some p) = (q ≡ k) × C k p
Turn C U k q (Some o) None = ⊤
Turn C U k q (Some o) (Some p) = (p ≡ o) ⊎ U q o p

stays : (C : OfMade) (U : OfChanged) (k q : Key) (o : Option Object) → Turn C U k q o o
stays C U k q None = tt
stays C U k q (Some o) = inl refl

goes : (C : OfMade) (U : OfChanged) (k q : Key) (o : Option Object) → Turn C U k q o None
goes C U k q None = tt
goes C U k q (Some o) = tt

-- an object that is there where none was, or that replaces another
comes : (C : OfMade) (U : OfChanged) (k : Key) (current : Option Object) (p : Object) → current ≡ None → C k p → Turn C U k k current (Some p)
comes C U k current p none made = subst (λ o. Turn C U k k o (Some p)) (sym none) (refl, made)

replaces : (C : OfMade) (U : OfChanged) (k : Key) (current : Option Object) (p : Object) → Replaces U k current p → Turn C U k k current (Some p)
replaces C U k current p new = subst (λ o. Turn C U k k o (Some p)) (sym new.there) (inr new.changed)

pub tied : (q k : Key) → eq_by_cmp key_cmp q k ≡ true → q ≡ k
tied q k tie = exact_keys q k (equal_from (key_cmp q k) tie)

placed : (C : OfMade) (U : OfChanged) (b : Bool) (k q : Key) (m : FinMap key_cmp Object) (new : Option Object) → (b ≡ true → q ≡ k)
    → Turn C U k k (map.get m k) new → Turn C U k q (map.get m q) (cond b new (map.get m q))
placed C U true k q m new here turn = subst (λ x. Turn C U k x (map.get m x) new) (sym (here refl)) turn
placed C U false k q m new here turn = stays C U k q (map.get m q)

put_turn : (C : OfMade) (U : OfChanged) (k q : Key) (m : FinMap key_cmp Object) (p : Object) → Turn C U k k (map.get m k) (Some p) → Turn C U k q (map.get m q) (map.get (map.insert m k p) q)
put_turn C U k q m p turn =
    subst (Turn C U k q (map.get m q)) (sym (get-insert key_cmp_total m k p q)) (placed C U (eq_by_cmp key_cmp q k) k q m (Some p) (tied q k) turn)

take_turn : (C : OfMade) (U : OfChanged) (k q : Key) (m : FinMap key_cmp Object) → Turn C U k q (map.get m q) (map.get (map.remove m k) q)
take_turn C U k q m =
    subst (Turn C U k q (map.get m q)) (sym (get-remove key_cmp_total m k q)) (placed C U (eq_by_cmp key_cmp q k) k q m None (tied q k) (goes C U k k (map.get m k)))

changed_turn : (C : OfMade) (U : OfChanged) (n : ℕ) (k q : Key) (m : FinMap key_cmp Object) (c : Change) → Writes C U n k (map.get m k) (Write c)
    → Turn C U k q (map.get m q) (map.get (put_at m k (kept c n)) q)
changed_turn C U n k q m (creates o) wrote = put_turn C U k q m (stamp (creates o) n) (comes C U k (map.get m k) (stamp (creates o) n) wrote.0 wrote.1)
changed_turn C U n k q m (updates o) wrote = put_turn C U k q m (stamp (updates o) n) (replaces C U k (map.get m k) (stamp (updates o) n) wrote)
changed_turn C U n k q m (marks o) wrote = put_turn C U k q m (stamp (marks o) n) (replaces C U k (map.get m k) (stamp (marks o) n) wrote)
changed_turn C U n k q m (removes o) wrote = take_turn C U k q m

-- a step that leaves all objects as they were, or allocates the next number for what it changes
pub data Carried (C : OfMade) (U : OfChanged) (s : Store) (k : Key) (t : Store) : Type 0 where
  idle : t.objects ≡ s.objects → t.counter ≡ s.counter → Carried C U s k t
  moves : t.counter ≡ s.counter + 1 → ((q : Key) → Turn C U k q (map.get s.objects q) (map.get t.objects q)) → Carried C U s k t

write_carried : (C : OfMade) (U : OfChanged) (s : Store) (k : Key) (c : Change) (full : Bool) → Writes C U (s.counter + 1) k (map.get s.objects k) (Write c)
    → let end : Store × Reply = cond full (s, Refused StoreFull) (with_change s k c, accepted c (stamp c (s.counter + 1))) in Carried C U s k end.0
write_carried C U s k c true wrote = idle refl refl
write_carried C U s k c false wrote = moves refl (λ q. changed_turn C U (s.counter + 1) k q s.objects c wrote)

pub carried : (C : OfMade) (U : OfChanged) (s : Store) (k : Key) (v : Verdict) → Writes C U (s.counter + 1) k (map.get s.objects k) v → Carried C U s k (carried_out s k v).0
carried C U s k (Refuse reason) wrote = idle refl refl
carried C U s k (Same o) wrote = idle refl refl
carried C U s k (Write c) wrote = write_carried C U s k c (s.counter == s.capacity) wrote

-- for a step that wrote under no key
nowhere : Key
nowhere = record { kind = Pod; namespace = []; name = [] }

compacted : (C : OfMade) (U : OfChanged) (s : Store) (n : ℕ) (denial : Option Reason) → Carried C U s nowhere (compacted_to s n denial).0
compacted C U s n denial = idle (objects_stay s n denial) (counter_stays s n denial)

-- What holds of a store that keeps its objects, and of each that a write leaves, holds of each step.
pub by_turn : (C : OfMade) (U : OfChanged) (s : Store) (P : Store → Type 0) → ((k : Key) (t : Store) → Carried C U s k t → P t)
    → (r : Request) → Allows C U (s.counter + 1) r → P (step s r).0
unfolding step
by_turn C U s P holds r allowed = by (route r) refl
  where
    by : (x : Route) → route r ≡ x → P (routed s r x).0
    by (gets k) is = holds nowhere s (idle refl refl)
    by (lists kind namespace) is = holds nowhere s (idle refl refl)
    by (writes k) is = holds k _ (carried C U s k (verdict r (map.get s.objects k)) (writing C U (s.counter + 1) r k (map.get s.objects k) (names_its_key r k is) allowed))
    by (lists_at kind namespace n) is = holds nowhere s (idle refl refl)
    by (compacts n) is = holds nowhere _ (compacted C U s n (denied s.floor s.counter n))

-- ---- an object before and after

turned : (C : OfMade) (U : OfChanged) (k q : Key) (was is : Option Object) (o p : Object) → Turn C U k q was is → was ≡ Some o → is ≡ Some p → (p ≡ o) ⊎ U q o p
turned C U k q was is o p turn before after =
    subst (λ x. Turn C U k q (Some o) x) after (subst (λ x. Turn C U k q x is) before turn)

new : (C : OfMade) (U : OfChanged) (k q : Key) (was is : Option Object) (p : Object) → Turn C U k q was is → was ≡ None → is ≡ Some p → (q ≡ k) × C k p
new C U k q was is p turn before after =
    subst (λ x. Turn C U k q None x) after (subst (λ x. Turn C U k q x is) before turn)

-- the object is the same, or changed by the number allocated
pub left : (C : OfMade) (U : OfChanged) (s t : Store) (k q : Key) (o p : Object) → Carried C U s k t → Has s q o → Has t q p → (p ≡ o) ⊎ ((t.counter ≡ s.counter + 1) × U q o p)
left C U s t k q o p (idle is counted) before after = inl (same_Some p o (sym after ∙ ap (λ m. map.get m q) is ∙ before))
left C U s t k q o p (moves counted turns) before after =
    elim (turned C U k q (map.get s.objects q) (map.get t.objects q) o p (turns q) before after) [ inl e ↦ inl e | inr u ↦ inr (counted, u) ]

-- the object is made by the number allocated, under the key that was written
pub made : (C : OfMade) (U : OfChanged) (s t : Store) (k q : Key) (p : Object) → Carried C U s k t → HasNone s q → Has t q p → (t.counter ≡ s.counter + 1) × (q ≡ k) × C k p
made C U s t k q p (idle is counted) before after = absurd (none-some p (sym before ∙ ap (λ m. map.get m q) (sym is) ∙ after))
made C U s t k q p (moves counted turns) before after =
    let n = new C U k q (map.get s.objects q) (map.get t.objects q) p (turns q) before after in (counted, n.0, n.1)

-- where an object comes from that a step leaves
pub data Origin (C : OfMade) (U : OfChanged) (s t : Store) (k q : Key) (p : Object) : Type 0 where
  is_made : t.counter ≡ s.counter + 1 → q ≡ k → C k p → Origin C U s t k q p
  was : (o : Object) → Has s q o → (p ≡ o) ⊎ ((t.counter ≡ s.counter + 1) × U q o p) → Origin C U s t k q p

origin_by : (C : OfMade) (U : OfChanged) (s t : Store) (k q : Key) (p : Object) (before : Option Object) → Carried C U s k t → Has t q p → map.get s.objects q ≡ before → Origin C U s t k q p
origin_by C U s t k q p None step after before = let m = made C U s t k q p step before after in is_made m.0 m.1 m.2
origin_by C U s t k q p (Some o) step after before = was o before (left C U s t k q o p step before after)

pub origin : (C : OfMade) (U : OfChanged) (s t : Store) (k q : Key) (p : Object) → Carried C U s k t → Has t q p → Origin C U s t k q p
origin C U s t k q p step after = origin_by C U s t k q p (map.get s.objects q) step after refl
