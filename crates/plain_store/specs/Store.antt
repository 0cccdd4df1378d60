-- The plain store: a map from keys to objects as it is now, the maps of the past that may still be read, a counter of
-- the numbers allocated, and a capacity for them. It handles one whole request at a time.
use Rattle.std.specs.Prelude.{ℕ, ◌+◌, ◌-◌, ◌==◌, nat_lt, List, [], ◌∷◌, ◌++◌, get_or, drop, Option, Some, None, refl, if◌then◌else◌}
use Rattle.std.specs.Coded.{Coded, code_by, coded×, coded_list, coded_ℕ}
use Rattle.std.specs.FinMap as map
use Rattle.std.specs.FinMap.{FinMap}
use Rattle.objects.specs.declared.key.Key.{Key}
use Rattle.objects.specs.declared.object.Object.{Object}
use Rattle.objects.specs.Key.{key_cmp, key_coded}
use Rattle.objects.specs.Object.{object_coded}
use Rattle.requests.specs.declared.request.Request.{Request}
use Rattle.requests.specs.declared.reply.Reply.{Reply}
use Rattle.requests.specs.declared.reply.Reply.TheVariants.{Compacted, Found, Listed, Unchanged, Refused}
use Rattle.requests.specs.declared.reply.Reason.{Reason}
use Rattle.requests.specs.declared.reply.Reason.TheVariants.{Expired, NotFound, StoreFull, TooLarge}
use Rattle.requests.specs.declared.verdict.Verdict.{Verdict}
use Rattle.requests.specs.declared.verdict.Verdict.TheVariants.{Refuse, Same, Write}
use Rattle.requests.specs.Change.{Change, accepted, kept, stamp}
use Rattle.requests.specs.Verdict.{verdict}
use Rattle.plain_store.specs.Route.{Route, compacts, gets, lists, lists_at, route, writes}
pub use Rattle.version_map.specs.Keyed.{collection, put_at}
pub use Rattle.version_map.specs.Keys.{is_of}

abbrev pub Objects : Type 0
Objects = FinMap key_cmp Object

-- `past` has the map at each number from the floor to the one before the counter, the oldest first.
pub record Store : Type 0 where
  pub objects : Objects
  pub counter : ℕ
  pub capacity : ℕ
  pub floor : ℕ
  pub past : List Objects

abbrev pub objects_coded : Coded Objects
objects_coded = map.code key_coded object_coded

abbrev pub store_coded : Coded Store
store_coded =
    code_by (Objects × (ℕ × (ℕ × (ℕ × List Objects)))) (coded× objects_coded (coded× coded_ℕ (coded× coded_ℕ (coded× coded_ℕ (coded_list objects_coded)))))
    (λ s. (s.objects, (s.counter, (s.capacity, (s.floor, s.past)))))
    (λ p. record { objects = p.0; counter = p.1.0; capacity = p.1.1.0; floor = p.1.1.1.0; past = p.1.1.1.1 }) (λ _. refl)

-- as the store opens: nothing is there, and no number is allocated
abbrev pub opening : ℕ → Store
opening capacity = record { objects = map.empty; counter = 0; capacity = capacity; floor = 0; past = [] }

-- the map at a number from the floor to the counter
abbrev pub map_at : Store → ℕ → Objects
map_at s n = get_or s.past (n - s.floor) s.objects

-- why a number can't be requested: it is not allocated yet, or else it is below the floor
unfoldable pub denied : (floor counter number : ℕ) → Option Reason
denied floor counter n = if nat_lt counter n then Some TooLarge else if nat_lt n floor then Some Expired else None

abbrev pub found : Option Object → Reply
found None = Refused NotFound
found (Some o) = Found o

-- the store with what the key is from the next number on
abbrev pub with_next : Store → Key → Option Object → Store
with_next s k now = record { objects = put_at s.objects k now; counter = s.counter + 1; capacity = s.capacity; floor = s.floor; past = s.past ++ s.objects ∷ [] }

-- the store with a change made at the next number
abbrev pub with_change : Store → Key → Change → Store
with_change s k c = with_next s k (kept c (s.counter + 1))

-- A write allocates the next number, unless all are allocated. Nothing else allocates one.
abbrev pub carried_out : Store → Key → Verdict → Store × Reply
carried_out s k (Refuse reason) = (s, Refused reason)
carried_out s k (Same o) = (s, Unchanged o)
carried_out s k (Write c) = if s.counter == s.capacity then (s, Refused StoreFull) else (with_change s k c, accepted c (stamp c (s.counter + 1)))

-- a write request has the effect of its verdict over the object that now has its key
abbrev pub written : Store → Key → Request → Store × Reply
written s k r = carried_out s k (verdict r (map.get s.objects k))

-- a list at a number, unless it is denied
abbrev pub listed_at : ℕ → List Object → Option Reason → Reply
listed_at n objects (Some reason) = Refused reason
listed_at n objects None = Listed objects n

-- the store with the floor at a number, and no map from before it
abbrev pub with_floor : Store → ℕ → Store
with_floor s n = record { objects = s.objects; counter = s.counter; capacity = s.capacity; floor = n; past = drop (n - s.floor) s.past }

-- a compaction to a number, unless it is denied
abbrev pub compacted_to : Store → ℕ → Option Reason → Store × Reply
compacted_to s n (Some reason) = (s, Refused reason)
compacted_to s n None = (with_floor s n, Compacted n)

-- the effect of a request, by what it is about
abbrev pub routed : Store → Request → Route → Store × Reply
routed s r (gets k) = (s, found (map.get s.objects k))
routed s r (lists kind namespace) = (s, Listed (collection s.objects kind namespace) s.counter)
routed s r (writes k) = written s k r
routed s r (lists_at kind namespace n) = (s, listed_at n (collection (map_at s n) kind namespace) (denied s.floor s.counter n))
routed s r (compacts n) = compacted_to s n (denied s.floor s.counter n)

-- one whole request: what the store is then, and the reply
unfoldable pub step : Store → Request → Store × Reply
step s r = routed s r (route r)
