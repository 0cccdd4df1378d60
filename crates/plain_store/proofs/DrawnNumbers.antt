-- Each step allocates one number, which it writes, or none, and then changes nothing.
use Rattle.std.proofs.Common.{◌≡◌, ◌≢◌, ◌≤◌, ◌<◌, ◌+◌, ◌==◌, ℕ, Bool, true, false, cond, List, [], ◌∷◌, length, Option, Some, None, MatchOption, refl, subst, arith}
use Rattle.objects.specs.declared.key.Key.{Key}
use Rattle.requests.specs.declared.request.Request.{Request}
use Rattle.requests.specs.declared.request.Request.TheVariants.{Compact}
use Rattle.requests.specs.declared.reply.Reply.{Reply}
use Rattle.requests.specs.declared.reply.Reply.TheVariants.{Refused}
use Rattle.requests.specs.declared.reply.Reason.TheVariants.{StoreFull}
use Rattle.requests.specs.declared.reply.Reason.{Reason}
use Rattle.requests.specs.declared.verdict.Verdict.{Verdict}
use Rattle.requests.specs.declared.verdict.Verdict.TheVariants.{Refuse, Same, Write}
use Rattle.requests.specs.Change.{Change, accepted, creates, updates, marks, removes, stamp}
use Rattle.requests.specs.Verdict.{verdict}
use Rattle.objects.specs.declared.object.Object.{Object}
use Rattle.std.specs.FinMap as map
use Rattle.plain_store.specs.Store.{Store, collection, compacted_to, denied, listed_at, map_at, routed, step, carried_out, found, with_change}
use Rattle.plain_store.specs.Route.{Route, compacts, gets, lists, lists_at, route, writes}
use Rattle.plain_store.proofs.Routes.{is_compaction}
use Rattle.plain_store.specs.Run.{after, replies}
use Rattle.plain_store.specs.Drawn.{AreNext, AreRising, among, uid_given, uids_given, version_drawn, versions_drawn}

-- what a step does to the counter, by what its reply says
record Draws (s t : Store) (r : Reply) : Type 0 where
  version : MatchOption (version_drawn r) (t.counter ≡ s.counter) (λ v. (v ≡ s.counter + 1) × (t.counter ≡ v))
  uid : MatchOption (uid_given r) (s.counter ≤ t.counter) (λ u. (u ≡ s.counter + 1) × (t.counter ≡ u))

draws-write : (s : Store) (k : Key) (c : Change) (full : Bool) →
    let end : Store × Reply = cond full (s, Refused StoreFull) (with_change s k c, accepted c (stamp c (s.counter + 1))) in Draws s end.0 end.1
draws-write s k c true = record { version = refl; uid = omega arith }
draws-write s k (creates o) false = record { version = (refl, refl); uid = (refl, refl) }
draws-write s k (updates o) false = record { version = (refl, refl); uid = omega arith }
draws-write s k (marks o) false = record { version = (refl, refl); uid = omega arith }
draws-write s k (removes o) false = record { version = (refl, refl); uid = omega arith }

draws-verdict : (s : Store) (k : Key) (v : Verdict) → let end = carried_out s k v in Draws s end.0 end.1
draws-verdict s k (Refuse reason) = record { version = refl; uid = omega arith }
draws-verdict s k (Same o) = record { version = refl; uid = omega arith }
draws-verdict s k (Write c) = draws-write s k c (s.counter == s.capacity)

draws-found : (s : Store) (o : Option Object) → Draws s s (found o)
draws-found s None = record { version = refl; uid = omega arith }
draws-found s (Some o) = record { version = refl; uid = omega arith }

draws-listed_at : (s : Store) (os : List Object) (n : ℕ) (denial : Option Reason) → Draws s s (listed_at n os denial)
draws-listed_at s os n None = record { version = refl; uid = omega arith }
draws-listed_at s os n (Some reason) = record { version = refl; uid = omega arith }

draws-compaction : (s : Store) (n : ℕ) (denial : Option Reason) → let end = compacted_to s n denial in Draws s end.0 end.1
draws-compaction s n None = record { version = refl; uid = omega arith }
draws-compaction s n (Some reason) = record { version = refl; uid = omega arith }

draws : (s : Store) (r : Request) → Draws s (step s r).0 (step s r).1
unfolding step
draws s r = by (route r)
  where
    by : (x : Route) → Draws s (routed s r x).0 (routed s r x).1
    by (gets k) = draws-found s (map.get s.objects k)
    by (lists kind namespace) = record { version = refl; uid = omega arith }
    by (writes k) = draws-verdict s k (verdict r (map.get s.objects k))
    by (lists_at kind namespace n) = draws-listed_at s (collection (map_at s n) kind namespace) n (denied s.floor s.counter n)
    by (compacts n) = draws-compaction s n (denied s.floor s.counter n)

stays-write : (s : Store) (k : Key) (c : Change) (full : Bool) →
    let end : Store × Reply = cond full (s, Refused StoreFull) (with_change s k c, accepted c (stamp c (s.counter + 1))) in version_drawn end.1 ≡ None → end.0 ≡ s
stays-write s k c true none = refl
stays-write s k (creates o) false none = absurd cc
stays-write s k (updates o) false none = absurd cc
stays-write s k (marks o) false none = absurd cc
stays-write s k (removes o) false none = absurd cc

stays-verdict : (s : Store) (k : Key) (v : Verdict) → version_drawn (carried_out s k v).1 ≡ None → (carried_out s k v).0 ≡ s
stays-verdict s k (Refuse reason) none = refl
stays-verdict s k (Same o) none = refl
stays-verdict s k (Write c) none = stays-write s k c (s.counter == s.capacity) none

pub nothing_changes : (s : Store) (r : Request) → ((to : ℕ) → r ≢ Compact to) → version_drawn (step s r).1 ≡ None → (step s r).0 ≡ s
unfolding step
nothing_changes s r other none = by (route r) refl none
  where
    by : (x : Route) → route r ≡ x → version_drawn (routed s r x).1 ≡ None → (routed s r x).0 ≡ s
    by (gets k) is drawn = refl
    by (lists kind namespace) is drawn = refl
    by (writes k) is drawn = stays-verdict s k (verdict r (map.get s.objects k)) drawn
    by (lists_at kind namespace n) is drawn = refl
    by (compacts n) is drawn = absurd (other n (is_compaction r n is))

next : (n m : ℕ) (drawn : Option ℕ) (rest : List ℕ) (Stays : Type 0) → (Stays → m ≡ n) → MatchOption drawn Stays (λ v. (v ≡ n + 1) × (m ≡ v))
    → AreNext m rest → AreNext n (among drawn rest)
next n m None rest Stays is fact later = subst (λ x. AreNext x rest) (is fact) later
next n m (Some v) rest Stays is fact later = (fact.0, subst (λ x. AreNext x rest) fact.1 later)

pub versions_next : (s : Store) (rs : List Request) → AreNext s.counter (versions_drawn (replies s rs))
versions_next s [] = tt
versions_next s (r ∷ rs) =
    next s.counter (step s r).0.counter (version_drawn (step s r).1) _ ((step s r).0.counter ≡ s.counter) (λ same. same) (draws s r).version
    (versions_next (step s r).0 rs)

counts : (n m end : ℕ) (drawn : Option ℕ) (rest : List ℕ) (Stays : Type 0) → (Stays → m ≡ n) → MatchOption drawn Stays (λ v. (v ≡ n + 1) × (m ≡ v))
    → end ≡ m + length rest → end ≡ n + length (among drawn rest)
counts n m end None rest Stays is fact later = let e : m ≡ n = is fact in omega arith
counts n m end (Some v) rest Stays is fact later = let e : v ≡ n + 1 = fact.0 in let f : m ≡ v = fact.1 in omega arith

pub counter_counts : (s : Store) (rs : List Request) → (after s rs).counter ≡ s.counter + length (versions_drawn (replies s rs))
counter_counts s [] = omega arith
counter_counts s (r ∷ rs) =
    counts s.counter (step s r).0.counter _ (version_drawn (step s r).1) _ ((step s r).0.counter ≡ s.counter) (λ same. same) (draws s r).version
    (counter_counts (step s r).0 rs)

above : (n m : ℕ) (rest : List ℕ) → n ≤ m → AreRising m rest → AreRising n rest
above n m [] low rising = tt
above n m (v ∷ rest) low rising = (let inside : m < v = rising.0 in omega arith, rising.1)

rise : (n m : ℕ) (given : Option ℕ) (rest : List ℕ) → MatchOption given (n ≤ m) (λ u. (u ≡ n + 1) × (m ≡ u)) → AreRising m rest → AreRising n (among given rest)
rise n m None rest fact later = above n m rest fact later
rise n m (Some u) rest fact later = (let e : u ≡ n + 1 = fact.0 in omega arith, subst (λ x. AreRising x rest) fact.1 later)

pub uids_rising : (s : Store) (rs : List Request) → AreRising s.counter (uids_given (replies s rs))
uids_rising s [] = tt
uids_rising s (r ∷ rs) = rise s.counter (step s r).0.counter (uid_given (step s r).1) _ (draws s r).uid (uids_rising (step s r).0 rs)
