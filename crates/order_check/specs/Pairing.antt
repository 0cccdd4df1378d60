-- How a trace is read: one item after another, each call kept until its reply comes.
use Rattle.std.specs.Prelude.{◌≡◌, ◌≢◌, ℕ, ◌<◌, List, Option, Some, None}
use Rattle.std.specs.BTreeMap.{get}
use Rattle.std.specs.Ordering.{nat_cmp}
use Rattle.std.specs.List.{slice_get}
use Rattle.requests.specs.declared.request.Request.{Request}
use Rattle.requests.specs.declared.reply.Reply.{Reply}
use Rattle.order_check.specs.declared.pairs.Pairs.{Pairs}
use Rattle.interleavings.specs.declared.trace.Item.{Item}
use Rattle.interleavings.specs.declared.trace.Item.TheVariants as item
use Rattle.interleavings.specs.Linearization.{Answers, Has}
use Rattle.order_check.specs.Lookup.{Lookup, IsWith, IsWithout}

-- the place of the last item; by its caller, the place of each call that has no reply yet; by its place, the index of
-- each call; by the place of its call, the index of each reply
pub record Seen : Type 0 where
  pub last : Option ℕ
  pub awaited : Lookup
  pub calls : Lookup
  pub answers : Lookup

abbrev pub seen : Pairs → Seen
seen p = record { last = p.last; awaited = get nat_cmp p.awaited; calls = get nat_cmp p.calls; answers = get nat_cmp p.answers }

-- a place is above the last one
abbrev pub IsAfter : Option ℕ → ℕ → Type 0
IsAfter None place = Unit {0}
IsAfter (Some last) place = last < place

-- the item may continue a history: its caller waits for no reply if it calls, and waits for one if it gets one
abbrev pub MayCome : Item → Seen → Type 0
MayCome (item.Call place caller request) s = IsAfter s.last place × (s.awaited caller ≡ None)
MayCome (item.Reply place caller reply) s = IsAfter s.last place × (s.awaited caller ≢ None)

-- a call at its place, whose item has that index, by a caller that has all its replies
pub record IsCall (index place caller : ℕ) (s t : Seen) : Type 0 where
  pub rises : IsAfter s.last place
  pub last : t.last ≡ Some place
  pub idle : s.awaited caller ≡ None
  pub awaited : IsWith caller place s.awaited t.awaited
  pub calls : IsWith place index s.calls t.calls
  pub answers : t.answers ≡ s.answers

-- a reply at its place, whose item has that index, to a caller that waits for one
pub record IsReply (index place caller : ℕ) (s t : Seen) : Type 0 where
  pub called : ℕ
  pub rises : IsAfter s.last place
  pub last : t.last ≡ Some place
  pub was : s.awaited caller ≡ Some called
  pub awaited : IsWithout caller s.awaited t.awaited
  pub calls : t.calls ≡ s.calls
  pub answers : IsWith called index s.answers t.answers

abbrev pub IsRead : ℕ → Item → Seen → Seen → Type 0
IsRead index (item.Call place caller request) s t = IsCall index place caller s t
IsRead index (item.Reply place caller reply) s t = IsReply index place caller s t

-- the item of that index is the reply of the trace to the call at p
pub record IsReplyTo (items trace : List Item) (index p : ℕ) : Type 0 where
  pub at : ℕ
  pub caller : ℕ
  pub reply : Reply
  pub is : slice_get items index ≡ Some (item.Reply at caller reply)
  pub answers : Answers trace at p reply

-- each call is found among the items by its place, and each reply by the place of its call
pub record AreFound (items trace : List Item) (calls answers : Lookup) : Type 0 where
  pub called : (p c : ℕ) (r : Request) → Has (item.Call p c r) trace → (i : ℕ) × ((calls p ≡ Some i) × (slice_get items i ≡ Some (item.Call p c r)))
  pub replied : (at p : ℕ) (reply : Reply) → Answers trace at p reply
      → (i : ℕ) × ((caller : ℕ) × ((answers p ≡ Some i) × (slice_get items i ≡ Some (item.Reply at caller reply))))
  pub right : (p i : ℕ) → answers p ≡ Some i → IsReplyTo items trace i p
