-- A controller's whole round over a store to which nobody else writes.
use Rattle.std.specs.Prelude.{◌≡◌, ◌+◌, ◌≤◌, ◌&&◌, ℕ, Bool, true, false, List, [], ◌∷◌, length, None}
use Rattle.std.specs.FinMap as finite
use Rattle.std.specs.Option.{option_map_or}
use Rattle.objects.specs.declared.key.Key.{Key}
use Rattle.objects.specs.declared.kind.Kind.TheVariants.{PersistentVolumeClaim}
use Rattle.objects.specs.declared.object.Object.{Object}
use Rattle.requests.specs.declared.request.Request.{Request}
use Rattle.objects.specs.Metadata.{owners_of}
use Rattle.requests.specs.Lists.{Has as Among}
use Rattle.collector.specs.Collectable.{HasOwner, is_collectable, is_listed}
use Rattle.plain_store.specs.AtKey.{Has}
use Rattle.plain_store.specs.Run.{after}
use Rattle.plain_store.specs.Store.{Store, is_of}
use Rattle.rounds.specs.Phase.{reading_set}
use Rattle.rounds.specs.Reconciler.{Reconciler}
use Rattle.resting.specs.Still.{exchanged_times, listed_in, owners_in, plan_over, reads_of_a_round}

-- the deletes of claims at the end of a round, over what the store shows then
abbrev pub collection_over : Reconciler → Store → List Request
collection_over c s = c.collect (listed_in s c.set PersistentVolumeClaim) (owners_in s c.set) s.counter

-- the plan is carried out, and then a collection over what the plan has left
abbrev pub after_round : Reconciler → Store → Object → Store
after_round c s set = let planned = after s (plan_over c s set) in after planned (collection_over c planned)

-- the reads, and each request of the plan and of the collection
abbrev pub requests_of_a_round : Reconciler → Store → Object → ℕ
requests_of_a_round c s set = reads_of_a_round + length (plan_over c s set) + length (collection_over c (after s (plan_over c s set)))

-- from its first read of the set the controller has sent all requests of a round, and begins again over this store
abbrev pub EndsRound : Reconciler → Object → Store → Store → Type 0
EndsRound c set s t = exchanged_times (requests_of_a_round c s set) c (s, reading_set) ≡ (t, reading_set)

-- a claim in the namespace of that key, each of whose owners is gone, by what the store shows
abbrev pub is_collected : Store → Key → Object → Bool
is_collected s key o = is_of PersistentVolumeClaim key.namespace o.key && is_collectable s.counter (is_listed (owners_in s key)) o

-- what a collection leaves in a store: those claims are gone, and all else is as it was
pub record IsCollectedOver (key : Key) (before after : Store) : Type 0 where
  pub gone : (k : Key) (o : Object) → Has before k o → is_collected before key o ≡ true → finite.get after.objects k ≡ None
  pub others : (k : Key) → option_map_or (is_collected before key) (finite.get before.objects k) false ≡ false → finite.get after.objects k ≡ finite.get before.objects k

-- No claim in the namespace of that key is owned by another one, and each of its owners has a UID that the store has given.
abbrev pub OwnNoClaim : Key → Store → Type 0
OwnNoClaim key s = (o : Object) (n : ℕ) → Among o (listed_in s key PersistentVolumeClaim) → HasOwner n (owners_of o.body) → (n ≤ s.counter) × (is_listed (listed_in s key PersistentVolumeClaim ∷ []) n ≡ false)

-- a collection over what the store shows leaves no claim to collect: none has an owner that is a claim or to come, and numbers are left for its deletes
abbrev pub MayCollect : Reconciler → Store → Type 0
MayCollect c s = (s.counter + length (collection_over c s) ≤ s.capacity) × OwnNoClaim c.set s
