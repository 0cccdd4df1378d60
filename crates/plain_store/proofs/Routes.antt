-- What a request is about, against what it is.
use Rattle.std.proofs.Common.{◌≡◌, ℕ, ◌==◌, Bool, true, false, cond, List, Option, Some, None, refl, ap}
use Rattle.std.proofs.lemmas.Option.{same_Some}
use Rattle.objects.specs.declared.key.Key.{Key}
use Rattle.objects.specs.declared.kind.Kind.{Kind}
use Rattle.requests.specs.declared.request.Request.{Request}
use Rattle.requests.specs.declared.request.Request.TheVariants as request
use Rattle.requests.specs.declared.request.Request.TheVariants.{Create, Get, Update, UpdateStatus, Delete, Compact}
use Rattle.requests.specs.declared.reply.Reason.{Reason}
use Rattle.requests.specs.Keys.{key_named}
use Rattle.requests.specs.Verdict.{is_write}
use Rattle.plain_store.specs.Route.{Route, compacts, is_read, lists, lists_at, route, writes}
use Rattle.plain_store.specs.Store.{Store, compacted_to, routed, step}

-- a list of one of the two kinds
abbrev listing : Kind → List ℕ → ℕ → Bool → Route
listing kind namespace n b = cond b (lists kind namespace) (lists_at kind namespace n)

no_write : (kind : Kind) (namespace : List ℕ) (n : ℕ) (k : Key) (b : Bool) → listing kind namespace n b ≡ writes k → ⊥
no_write kind namespace n k true is = cc
no_write kind namespace n k false is = cc

no_compaction : (kind : Kind) (namespace : List ℕ) (n m : ℕ) (b : Bool) → listing kind namespace n b ≡ compacts m → ⊥
no_compaction kind namespace n m true is = cc
no_compaction kind namespace n m false is = cc

-- a write is about the key that it names
pub names_its_key : (r : Request) (k : Key) → route r ≡ writes k → key_named r ≡ Some k
unfolding route
names_its_key (Create d) k is = cc
names_its_key (Get q) k is = absurd cc
names_its_key (request.List kind namespace exact) k is = absurd (no_write kind namespace exact k (exact == 0) is)
names_its_key (Update d) k is = cc
names_its_key (UpdateStatus d) k is = cc
names_its_key (Delete q uid version at) k is = cc
names_its_key (Compact to) k is = absurd cc

pub routes_to_its_key : (r : Request) (k : Key) → is_write r ≡ true → key_named r ≡ Some k → route r ≡ writes k
unfolding route
routes_to_its_key (Create d) k is named = ap writes (same_Some d.object.key k named)
routes_to_its_key (Get q) k is named = cc
routes_to_its_key (request.List kind namespace exact) k is named = cc
routes_to_its_key (Update d) k is named = ap writes (same_Some d.object.key k named)
routes_to_its_key (UpdateStatus d) k is named = ap writes (same_Some d.object.key k named)
routes_to_its_key (Delete q uid version at) k is named = ap writes (same_Some q k named)
routes_to_its_key (Compact to) k is named = cc

pub is_compaction : (r : Request) (n : ℕ) → route r ≡ compacts n → r ≡ Compact n
unfolding route
is_compaction (Create d) n is = absurd cc
is_compaction (Get q) n is = absurd cc
is_compaction (request.List kind namespace exact) n is = absurd (no_compaction kind namespace exact n (exact == 0) is)
is_compaction (Update d) n is = absurd cc
is_compaction (UpdateStatus d) n is = absurd cc
is_compaction (Delete q uid version at) n is = absurd cc
is_compaction (Compact to) n is = cc

listing_stays : (s : Store) (r : Request) (kind : Kind) (namespace : List ℕ) (n : ℕ) (b : Bool) → (routed s r (listing kind namespace n b)).0 ≡ s
listing_stays s r kind namespace n true = refl
listing_stays s r kind namespace n false = refl

-- what only reads leaves the store as it was
pub reads_stay : (s : Store) (r : Request) → is_read r ≡ true → (step s r).0 ≡ s
unfolding step route
reads_stay s (Create d) is = cc
reads_stay s (Get q) is = refl
reads_stay s (request.List kind namespace exact) is = listing_stays s (request.List kind namespace exact) kind namespace exact (exact == 0)
reads_stay s (Update d) is = cc
reads_stay s (UpdateStatus d) is = cc
reads_stay s (Delete q uid version at) is = cc
reads_stay s (Compact to) is = cc

-- a compaction leaves the objects and the counter as they were
pub objects_stay : (s : Store) (n : ℕ) (denial : Option Reason) → (compacted_to s n denial).0.objects ≡ s.objects
objects_stay s n None = refl
objects_stay s n (Some reason) = refl

pub counter_stays : (s : Store) (n : ℕ) (denial : Option Reason) → (compacted_to s n denial).0.counter ≡ s.counter
counter_stays s n None = refl
counter_stays s n (Some reason) = refl
