-- The writes of all shards by their numbers, and what they make of the keys.
use Rattle.std.specs.Prelude.{◌≡◌, ℕ, zero, suc, cond, Option, Some, None}
use Rattle.std.specs.Ordering.{eq_by_cmp}
use Rattle.std.specs.FinMap as map
use Rattle.objects.specs.declared.key.Key.{Key}
use Rattle.objects.specs.declared.object.Object.{Object}
use Rattle.objects.specs.Key.{key_cmp}
use Rattle.requests.specs.Change.{Change, change_object, kept}
use Rattle.plain_store.specs.Store.{Objects, put_at}

-- a write that its check accepted: the place of its call, its key, and what it changes there
pub record Writing : Type 0 where
  pub place : ℕ
  pub key : Key
  pub change : Change

-- At index i is the write of number i + 1, once it is published.
abbrev pub Log : Type 0
Log = ℕ → Option Writing

abbrev pub newer : Option Writing → ℕ → Key → Option Object → Option Object
newer None i k before = before
newer (Some t) i k before = cond (eq_by_cmp key_cmp k t.key) (kept t.change (suc i)) before

-- what a key is at a number: what the last write of it up to that number left
abbrev pub value : Log → ℕ → Key → Option Object
value log zero k = None
value log (suc n) k = newer (log n) n k (value log n k)

abbrev pub with_writing : Option Writing → ℕ → Objects → Objects
with_writing None i m = m
with_writing (Some t) i m = put_at m t.key (kept t.change (suc i))

-- all that is there at a number
abbrev pub state_at : Log → ℕ → Objects
state_at log zero = map.empty
state_at log (suc n) = with_writing (log n) n (state_at log n)

abbrev pub newer_number : Option Writing → ℕ → Key → ℕ → ℕ
newer_number None i k before = before
newer_number (Some t) i k before = cond (eq_by_cmp key_cmp k t.key) (suc i) before

-- the number of the last write of a key up to a number, 0 if there is none
abbrev pub last_write : Log → ℕ → Key → ℕ
last_write log zero k = 0
last_write log (suc n) k = newer_number (log n) n k (last_write log n k)

-- each write is of an object of its key
abbrev pub IsFiled : Log → Type 0
IsFiled log = (i : ℕ) (t : Writing) → log i ≡ Some t → (change_object t.change).key ≡ t.key
