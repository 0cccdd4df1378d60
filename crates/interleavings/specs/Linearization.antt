-- Legal orders of a trace (Herlihy and Wing 1990, linearizability): an order of its requests in which one plain store,
-- which handles whole requests one at a time, gives exactly the replies of the trace, and in which a request comes
-- before each one called after its reply.
use Rattle.std.specs.Prelude.{◌≡◌, ℕ, ◌<◌, ◌≤◌, ◌⊎◌, List, [], ◌∷◌, zip}
pub use Rattle.requests.specs.Lists.{Has}
use Rattle.requests.specs.declared.request.Request.{Request}
use Rattle.requests.specs.declared.reply.Reply.{Reply}
use Rattle.interleavings.specs.declared.trace.Item.{Item}
use Rattle.interleavings.specs.declared.trace.Item.TheVariants as item
use Rattle.plain_store.specs.Store.{opening}
use Rattle.plain_store.specs.Run.{replies}

-- At the place `at` the request that was called at `place` got the reply: the call is the caller's last one before
-- the reply, and the reply the first one to the caller after the call.
pub record Answers (trace : List Item) (at place : ℕ) (reply : Reply) : Type 0 where
  pub caller : ℕ
  pub request : Request
  pub called : Has (item.Call place caller request) trace
  pub replied : Has (item.Reply at caller reply) trace
  pub before : place < at
  pub last : (p : ℕ) (r : Request) → Has (item.Call p caller r) trace → p < at → p ≤ place
  pub first : (a : ℕ) (r : Reply) → Has (item.Reply a caller r) trace → place < a → at ≤ a

abbrev pub place_of : Item → ℕ
place_of (item.Call place caller request) = place
place_of (item.Reply place caller reply) = place

-- each place is above those before it
abbrev pub AreRising : List Item → Type 0
AreRising [] = Unit {0}
AreRising (i ∷ is) = ((j : Item) → Has j is → place_of i < place_of j) × AreRising is

-- The trace is a history of callers that each wait for their replies: each reply answers a call, and a caller calls
-- again only after its last call was answered.
pub record IsHistory (trace : List Item) : Type 0 where
  pub rising : AreRising trace
  pub paired : (at caller : ℕ) (reply : Reply) → Has (item.Reply at caller reply) trace → (place : ℕ) × Answers trace at place reply
  pub sequential : (p q caller : ℕ) (r s : Request) → Has (item.Call p caller r) trace → Has (item.Call q caller s) trace → p < q
      → (at : ℕ) × ((reply : Reply) × (Answers trace at p reply × (at < q)))

-- An order is a list of the places of calls, first to last. These are its requests.
abbrev pub AreCalled : List Item → List ℕ → List Request → Type 0
AreCalled trace [] [] = Unit {0}
AreCalled trace (p ∷ ps) (r ∷ rs) = ((caller : ℕ) × Has (item.Call p caller r) trace) × AreCalled trace ps rs
AreCalled trace [] (r ∷ rs) = ⊥
AreCalled trace (p ∷ ps) [] = ⊥

-- none occurs twice
abbrev pub AreOnce : List ℕ → Type 0
AreOnce [] = Unit {0}
AreOnce (p ∷ ps) = (Has p ps → ⊥) × AreOnce ps

-- p is before q
abbrev pub Before : ℕ → ℕ → List ℕ → Type 0
Before p q [] = ⊥
Before p q (x ∷ xs) = ((p ≡ x) × Has q xs) ⊎ Before p q xs

pub record IsLegal (capacity : ℕ) (trace : List Item) (order : List ℕ) : Type 0 where
  -- each request that got a reply is in the order
  pub answered : (at p : ℕ) (reply : Reply) → Answers trace at p reply → Has p order
  -- what is in the order was called, and is in it once
  pub requests : List Request
  pub called : AreCalled trace order requests
  pub once : AreOnce order
  -- the plain store gives each of these requests that got a reply this reply
  pub right : (at p : ℕ) (reply : Reply) → Answers trace at p reply → Has (p, reply) (zip order (replies (opening capacity) requests))
  -- a request is before each one called after its reply
  pub in_time : (at p q : ℕ) (reply : Reply) → Answers trace at p reply → at < q → Has q order → Before p q order
