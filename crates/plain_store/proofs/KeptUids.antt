-- Objects keep their keys and their UIDs, and no two of a store that was opened have one UID.
use Rattle.std.proofs.Common.{◌≡◌, ◌≢◌, ◌≤◌, ◌+◌, ℕ, ◌⊎◌, inl, inr, List, [], ◌∷◌, Some, refl, sym, ap, subst, ◌∙◌, arith}
use Rattle.std.specs.FinMap as map
use Rattle.std.specs.FinMap.{get-empty}
use Rattle.std.proofs.lemmas.Option.{none-some}
use Rattle.objects.specs.declared.key.Key.{Key}
use Rattle.objects.specs.declared.object.Object.{Object}
use Rattle.objects.specs.Key.{key_cmp}
use Rattle.requests.specs.declared.request.Request.{Request}
use Rattle.requests.specs.declared.request.Request.TheVariants as request
use Rattle.requests.specs.declared.request.Request.TheVariants.{Create, Get, Update, UpdateStatus, Delete, Compact}
use Rattle.plain_store.specs.Store.{Store, opening, step}
use Rattle.plain_store.specs.Run.{after}
use Rattle.plain_store.specs.AtKey.{Has, Leaves, Makes}
use Rattle.plain_store.specs.Filed.{AreFiled}
use Rattle.plain_store.specs.Reached.{IsReached}
use Rattle.plain_store.specs.Since.{IsUidSince, IsVersionSince}
use Rattle.plain_store.proofs.Past.{counter_step}
use Rattle.plain_store.proofs.Verdicts.{Allows, Carried, idle, moves, Origin, is_made, was, by_turn, left, made, origin}

-- an object as the number that makes it leaves it
pub record IsNew (n : ℕ) (k : Key) (p : Object) : Type 0 where
  pub key : p.key ≡ k
  pub uid : p.meta.uid ≡ n
  pub revision : p.meta.revision ≡ n

-- an object as the number that changes it leaves it
pub record IsNext (n : ℕ) (k : Key) (o p : Object) : Type 0 where
  pub key : o.key ≡ k → p.key ≡ k
  pub uid : p.meta.uid ≡ o.meta.uid
  pub revision : p.meta.revision ≡ n

pub allowed : (n : ℕ) (r : Request) → Allows (IsNew n) (IsNext n) n r
allowed n (Get k) = tt
allowed n (request.List kind namespace exact) = tt
allowed n (Compact to) = tt
allowed n (Create d) = record { key = refl; uid = refl; revision = refl }
allowed n (Update d) = λ o. record { key = λ named. refl; uid = refl; revision = refl }
allowed n (UpdateStatus d) = λ o. record { key = λ named. named; uid = refl; revision = refl }
allowed n (Delete k uid version at) = λ t o. record { key = λ named. named; uid = refl; revision = refl }

-- a step of the store, as it is carried out
abbrev Steps : Store → Key → Store → Type 0
Steps s k t = Carried (IsNew (s.counter + 1)) (IsNext (s.counter + 1)) s k t

steps : (s : Store) (r : Request) (P : Store → Type 0) → ((k : Key) (t : Store) → Steps s k t → P t) → P (step s r).0
steps s r P holds = by_turn (IsNew (s.counter + 1)) (IsNext (s.counter + 1)) s P holds r (allowed (s.counter + 1) r)

-- ---- what an object keeps

abbrev Kept : (s t : Store) (q : Key) (o p : Object) → Type 0
Kept s t q o p = (p ≡ o) ⊎ ((t.counter ≡ s.counter + 1) × IsNext (s.counter + 1) q o p)

kept : (s : Store) (r : Request) (q : Key) (o p : Object) → Leaves s r q o p → Kept s (step s r).0 q o p
kept s r q o p there =
    steps s r (λ t. Has t q p → Kept s t q o p) (λ k t c after. left (IsNew (s.counter + 1)) (IsNext (s.counter + 1)) s t k q o p c there.0 after) there.1

key_kept : (s t : Store) (q : Key) (o p : Object) → Kept s t q o p → o.key ≡ q → p.key ≡ q
key_kept s t q o p (inl e) named = ap (λ (x : Object). x.key) e ∙ named
key_kept s t q o p (inr c) named = c.1.key named

uid_kept : (s t : Store) (q : Key) (o p : Object) → Kept s t q o p → p.meta.uid ≡ o.meta.uid
uid_kept s t q o p (inl e) = ap (λ (x : Object). x.meta.uid) e
uid_kept s t q o p (inr c) = c.1.uid

pub uid_stays : (s : Store) (r : Request) (q : Key) (o p : Object) → Leaves s r q o p → p.meta.uid ≡ o.meta.uid
uid_stays s r q o p there = uid_kept s (step s r).0 q o p (kept s r q o p there)

version_by : (s t : Store) (q : Key) (o p : Object) → Kept s t q o p → p ≢ o → p.meta.revision ≡ t.counter
version_by s t q o p (inl e) other = absurd (other e)
version_by s t q o p (inr c) other = c.1.revision ∙ sym c.0

pub version_is_drawn : (s : Store) (r : Request) (q : Key) (o p : Object) → Leaves s r q o p → p ≢ o → p.meta.revision ≡ (step s r).0.counter
version_is_drawn s r q o p there other = version_by s (step s r).0 q o p (kept s r q o p there) other

risen : (s t : Store) (q : Key) (o p : Object) → Kept s t q o p → o.meta.revision ≤ s.counter → o.meta.revision ≤ p.meta.revision
risen s t q o p (inl e) low = let same : p.meta.revision ≡ o.meta.revision = ap (λ (x : Object). x.meta.revision) e in omega arith
risen s t q o p (inr c) low = let next : p.meta.revision ≡ s.counter + 1 = c.1.revision in omega arith

pub version_rises : (s : Store) (r : Request) (q : Key) (o p : Object) → Leaves s r q o p → o.meta.revision ≤ s.counter → o.meta.revision ≤ p.meta.revision
version_rises s r q o p there low = risen s (step s r).0 q o p (kept s r q o p there) low

pub made_by_number : (s : Store) (r : Request) (q : Key) (p : Object) → let n = (step s r).0.counter in Makes s r q p → (p.meta.uid ≡ n) × (p.meta.revision ≡ n)
made_by_number s r q p there =
    steps s r (λ t. Has t q p → (p.meta.uid ≡ t.counter) × (p.meta.revision ≡ t.counter)) (λ k t c after.
    let new = made (IsNew (s.counter + 1)) (IsNext (s.counter + 1)) s t k q p c there.0 after in
    (new.2.uid ∙ sym new.0, new.2.revision ∙ sym new.0)) there.1

-- ---- what holds of a store that was opened

abbrev Came : Store → Store → Key → Key → Object → Type 0
Came s t k q p = Origin (IsNew (s.counter + 1)) (IsNext (s.counter + 1)) s t k q p

came : (s t : Store) (k q : Key) (p : Object) → Steps s k t → Has t q p → Came s t k q p
came s t k q p c there = origin (IsNew (s.counter + 1)) (IsNext (s.counter + 1)) s t k q p c there

filed_by : (s t : Store) (k q : Key) (p : Object) → AreFiled s.objects → Came s t k q p → p.key ≡ q
filed_by s t k q p filed (is_made counted here new) = new.key ∙ sym here
filed_by s t k q p filed (was o there how) = key_kept s t q o p how (filed q o there)

pub filed_after : (s : Store) (r : Request) → AreFiled s.objects → AreFiled (step s r).0.objects
filed_after s r filed = steps s r (λ t. AreFiled t.objects) (λ k t c q p there. filed_by s t k q p filed (came s t k q p c there))

-- the UID of an object was allocated when it was made, and its version then or later
abbrev IsDrawn : ℕ → Object → Type 0
IsDrawn counter o = (1 ≤ o.meta.uid) × (o.meta.uid ≤ o.meta.revision) × (o.meta.revision ≤ counter)

abbrev AreDrawn : Store → Type 0
AreDrawn s = (q : Key) (o : Object) → Has s q o → IsDrawn s.counter o

rising : (s : Store) (k : Key) (t : Store) → Steps s k t → s.counter ≤ t.counter
rising s k t (idle is counted) = omega arith
rising s k t (moves counted turns) = omega arith

still_drawn : (s t : Store) (q : Key) (o p : Object) → s.counter ≤ t.counter → IsDrawn s.counter o → Kept s t q o p → IsDrawn t.counter p
still_drawn s t q o p more drawn (inl e) = subst (IsDrawn t.counter) (sym e) (drawn.0, drawn.1, let low : o.meta.revision ≤ s.counter = drawn.2 in omega arith)
still_drawn s t q o p more drawn (inr c) =
    let counted : t.counter ≡ s.counter + 1 = c.0 in
    let uid : p.meta.uid ≡ o.meta.uid = c.1.uid in
    let revision : p.meta.revision ≡ s.counter + 1 = c.1.revision in
    let low : 1 ≤ o.meta.uid = drawn.0 in
    let old : o.meta.uid ≤ o.meta.revision = drawn.1 in
    let high : o.meta.revision ≤ s.counter = drawn.2 in
    (omega arith, omega arith, omega arith)

drawn_by : (s t : Store) (k q : Key) (p : Object) → s.counter ≤ t.counter → AreDrawn s → Came s t k q p → IsDrawn t.counter p
drawn_by s t k q p more drawn (is_made counted here new) =
    let uid : p.meta.uid ≡ s.counter + 1 = new.uid in
    let revision : p.meta.revision ≡ s.counter + 1 = new.revision in
    (omega arith, omega arith, omega arith)
drawn_by s t k q p more drawn (was o there how) = still_drawn s t q o p more (drawn q o there) how

drawn_after : (s : Store) (r : Request) → AreDrawn s → AreDrawn (step s r).0
drawn_after s r drawn = steps s r AreDrawn (λ k t c q p there. drawn_by s t k q p (rising s k t c) drawn (came s t k q p c there))

-- no two keys have objects of one UID
abbrev AreApart : Store → Type 0
AreApart s = (q k : Key) (o p : Object) → Has s q o → Has s k p → o.meta.uid ≡ p.meta.uid → q ≡ k

-- an object that was there has a UID below the one that is allocated
older : (s t : Store) (q : Key) (o p : Object) → AreDrawn s → Has s q o → Kept s t q o p → p.meta.uid ≡ s.counter + 1 → ⊥
older s t q o p drawn there how new =
    let same : p.meta.uid ≡ o.meta.uid = uid_kept s t q o p how in
    let known = drawn q o there in
    let old : o.meta.uid ≤ o.meta.revision = known.1 in
    let high : o.meta.revision ≤ s.counter = known.2 in
    omega arith

apart_by : (s t : Store) (k a b : Key) (o p : Object) → AreDrawn s → AreApart s → Came s t k a o → Came s t k b p → o.meta.uid ≡ p.meta.uid → a ≡ b
apart_by s t k a b o p drawn apart (is_made c here new) (is_made d there other) same = here ∙ sym there
apart_by s t k a b o p drawn apart (is_made c here new) (was q there how) same = absurd (older s t b q p drawn there how (sym same ∙ new.uid))
apart_by s t k a b o p drawn apart (was q there how) (is_made c here new) same = absurd (older s t a q o drawn there how (same ∙ new.uid))
apart_by s t k a b o p drawn apart (was q there how) (was r beside other) same =
    apart a b q r there beside (sym (uid_kept s t a q o how) ∙ same ∙ uid_kept s t b r p other)

apart_after : (s : Store) (r : Request) → AreDrawn s → AreApart s → AreApart (step s r).0
apart_after s r drawn apart = steps s r AreApart (λ k t c a b o p here there. apart_by s t k a b o p drawn apart (came s t k a o c here) (came s t k b p c there))

record IsSound (s : Store) : Type 0 where
  filed : AreFiled s.objects
  drawn : AreDrawn s
  apart : AreApart s

nothing : (q : Key) (o : Object) (P : Type 0) → map.get (map.empty {R = key_cmp}) q ≡ Some o → P
nothing q o P there = absurd (none-some o (sym (get-empty key_cmp q) ∙ there))

opening_sound : (capacity : ℕ) → IsSound (opening capacity)
opening_sound capacity = record {
  filed = λ q o there. nothing q o (o.key ≡ q) there;
  drawn = λ q o there. nothing q o (IsDrawn 0 o) there;
  apart = λ q k o p here there same. nothing q o (q ≡ k) here;
}

sound_run : (s : Store) (rs : List Request) → IsSound s → IsSound (after s rs)
sound_run s [] sound = sound
sound_run s (r ∷ rs) sound = sound_run (step s r).0 rs (record {
  filed = filed_after s r sound.filed;
  drawn = drawn_after s r sound.drawn;
  apart = apart_after s r sound.drawn sound.apart;
})

sound : (capacity : ℕ) (rs : List Request) → IsSound (after (opening capacity) rs)
sound capacity rs = sound_run (opening capacity) rs (opening_sound capacity)

pub filed_in_run : (capacity : ℕ) (rs : List Request) → AreFiled (after (opening capacity) rs).objects
filed_in_run capacity rs = (sound capacity rs).filed

pub filed_when_reached : (s : Store) → IsReached s → AreFiled s.objects
filed_when_reached s is = subst (λ (t : Store). AreFiled t.objects) (sym is.left) (filed_in_run is.capacity is.requests)

pub drawn_in_run : (capacity : ℕ) (rs : List Request) (q : Key) (o : Object) → Has (after (opening capacity) rs) q o → IsDrawn (after (opening capacity) rs).counter o
drawn_in_run capacity rs = (sound capacity rs).drawn

pub apart_in_run : (capacity : ℕ) (rs : List Request) → AreApart (after (opening capacity) rs)
apart_in_run capacity rs = (sound capacity rs).apart

-- ---- what was there before a run

version_from : (s t : Store) (k q : Key) (p : Object) → Came s t k q p → IsVersionSince s q p
version_from s t k q p (is_made counted here new) = inl (let drawn : p.meta.revision ≡ s.counter + 1 = new.revision in omega arith)
version_from s t k q p (was o there (inl e)) = inr (there ∙ ap Some (sym e))
version_from s t k q p (was o there (inr c)) = inl (let drawn : p.meta.revision ≡ s.counter + 1 = c.1.revision in omega arith)

uid_from : (s t : Store) (k q : Key) (p : Object) → Came s t k q p → IsUidSince s q p
uid_from s t k q p (is_made counted here new) = inl (let drawn : p.meta.uid ≡ s.counter + 1 = new.uid in omega arith)
uid_from s t k q p (was o there how) = inr (o, there, sym (uid_kept s t q o p how))

version_by_step : (s : Store) (r : Request) (q : Key) (o : Object) → IsVersionSince (step s r).0 q o → IsVersionSince s q o
version_by_step s r q o (inl more) = inl (let g = (counter_step s r).0 in omega arith)
version_by_step s r q o (inr there) = steps s r (λ t. Has t q o → IsVersionSince s q o) (λ k t c h. version_from s t k q o (came s t k q o c h)) there

pub version_since : (s : Store) (rs : List Request) (q : Key) (o : Object) → Has (after s rs) q o → IsVersionSince s q o
version_since s [] q o there = inr there
version_since s (r ∷ rs) q o there = version_by_step s r q o (version_since (step s r).0 rs q o there)

same_uid : (s : Store) (q : Key) (p o : Object) → p.meta.uid ≡ o.meta.uid → IsUidSince s q p → IsUidSince s q o
same_uid s q p o same (inl more) = inl (omega arith)
same_uid s q p o same (inr old) = inr (old.0, old.1, old.2 ∙ same)

uid_by_step : (s : Store) (r : Request) (q : Key) (o : Object) → IsUidSince (step s r).0 q o → IsUidSince s q o
uid_by_step s r q o (inl more) = inl (let g = (counter_step s r).0 in omega arith)
uid_by_step s r q o (inr old) =
    same_uid s q old.0 o old.2 (steps s r (λ t. Has t q old.0 → IsUidSince s q old.0) (λ k t c h. uid_from s t k q old.0 (came s t k q old.0 c h)) old.1)

pub uid_since : (s : Store) (rs : List Request) (q : Key) (o : Object) → Has (after s rs) q o → IsUidSince s q o
uid_since s [] q o there = inr (o, there, refl)
uid_since s (r ∷ rs) q o there = uid_by_step s r q o (uid_since (step s r).0 rs q o there)
