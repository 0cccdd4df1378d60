-- How an order is followed: one place after another, each request handled by a plain store, and its reply compared.
use Rattle.std.specs.Prelude.{◌≡◌, ℕ, ◌<◌, ◌≤◌, List, [], ◌∷◌, Option, Some, None, zip}
use Rattle.std.specs.BTreeMap.{get}
use Rattle.std.specs.Ordering.{nat_cmp}
use Rattle.std.specs.List.{slice_get}
use Rattle.requests.specs.declared.request.Request.{Request}
use Rattle.requests.specs.declared.reply.Reply.{Reply}
use Rattle.plain_store.specs.Run.{replies}
use Rattle.plain_store.specs.Store.{Store, step}
use Rattle.interleavings.specs.declared.trace.Item.{Item}
use Rattle.interleavings.specs.declared.trace.Item.TheVariants as item
use Rattle.order_check.specs.declared.walk.Walk.{Walk}
use Rattle.interleavings.specs.Linearization.{AreOnce, Before, Has}
use Rattle.order_check.specs.Lookup.{Lookup, IsWithout}

-- by the places of their calls, the calls and the replies that are still to come; the plain store so far; and the
-- largest place so far
pub record Standing : Type 0 where
  pub calls : Lookup
  pub answers : Lookup
  pub store : Store
  pub latest : ℕ

abbrev pub standing : Walk → Standing
standing w = record { calls = get nat_cmp w.calls; answers = get nat_cmp w.answers; store = w.store; latest = w.latest }

-- the index is that of this request's call at the place
abbrev pub IsCalled : List Item → Option ℕ → ℕ → Request → Type 0
IsCalled items None place request = ⊥
IsCalled items (Some i) place request = (caller : ℕ) × (slice_get items i ≡ Some (item.Call place caller request))

-- if there is an index, its item has this reply, and comes after all calls so far
abbrev pub IsAnswered : List Item → Option ℕ → (latest : ℕ) → Reply → Type 0
IsAnswered items None latest reply = Unit {0}
IsAnswered items (Some i) latest reply = (at : ℕ) × ((caller : ℕ) × ((slice_get items i ≡ Some (item.Reply at caller reply)) × (latest ≤ at)))

-- a request was called at the place, and its reply is the store's
pub record MayTake (items : List Item) (s : Standing) (place : ℕ) : Type 0 where
  pub request : Request
  pub called : IsCalled items (s.calls place) place request
  pub answer_fits : IsAnswered items (s.answers place) s.latest (step s.store request).1

pub record Takes (items : List Item) (s : Standing) (place : ℕ) (t : Standing) : Type 0 where
  pub may : MayTake items s place
  pub stepped : t.store ≡ (step s.store may.request).0
  pub calls : IsWithout place s.calls t.calls
  pub answers : IsWithout place s.answers t.answers
  pub grows : s.latest ≤ t.latest
  pub reached : place ≤ t.latest
  pub least : (n : ℕ) → s.latest ≤ n → place ≤ n → t.latest ≤ n

-- all are done, and no reply is left
abbrev pub Follows : List Item → Standing → List ℕ → Type 0
Follows items s [] = (p : ℕ) → s.answers p ≡ None
Follows items s (p ∷ ps) = (t : Standing) × (Takes items s p t × Follows items t ps)

-- ---- what is left of a legal order, with its requests
abbrev pub AreCallsAt : List Item → Lookup → List ℕ → List Request → Type 0
AreCallsAt items calls [] [] = Unit {0}
AreCallsAt items calls (p ∷ ps) (r ∷ rs) = IsCalled items (calls p) p r × AreCallsAt items calls ps rs
AreCallsAt items calls [] (r ∷ rs) = ⊥
AreCallsAt items calls (p ∷ ps) [] = ⊥

-- the reply with that index is the store's to the call at p, and no call after it comes before p in the order
pub record IsDue (items : List Item) (s : Standing) (places : List ℕ) (requests : List Request) (p index : ℕ) : Type 0 where
  pub at : ℕ
  pub caller : ℕ
  pub reply : Reply
  pub is : slice_get items index ≡ Some (item.Reply at caller reply)
  pub right : Has (p, reply) (zip places (replies s.store requests))
  pub late : s.latest ≤ at
  pub in_time : (q : ℕ) → Has q places → at < q → Before p q places

pub record IsRest (items : List Item) (s : Standing) (places : List ℕ) (requests : List Request) : Type 0 where
  pub called : AreCallsAt items s.calls places requests
  pub once : AreOnce places
  pub due : (p i : ℕ) → s.answers p ≡ Some i → IsDue items s places requests p i
