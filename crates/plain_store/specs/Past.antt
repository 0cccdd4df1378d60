-- What requests name of the past, and what a run did to it.
use Rattle.std.specs.Prelude.{◌≡◌, ◌<◌, ◌++◌, ℕ, List, Option, Some, None}
use Rattle.std.specs.List.{Contains}
use Rattle.requests.specs.declared.request.Request.{Request}
use Rattle.requests.specs.declared.request.Request.TheVariants.{Compact}
use Rattle.requests.specs.declared.reply.Reply.{Reply}
use Rattle.requests.specs.declared.reply.Reply.TheVariants.{Compacted}
use Rattle.plain_store.specs.Route.{Route, compacts, gets, lists, lists_at, route, writes}
use Rattle.plain_store.specs.Run.{after}
use Rattle.plain_store.specs.Store.{opening}

abbrev pub asked_by : Route → Option ℕ
asked_by (gets key) = None
asked_by (lists kind namespace) = None
asked_by (writes key) = None
asked_by (lists_at kind namespace number) = Some number
asked_by (compacts to) = Some to

-- the resource version that a list or a compaction names
abbrev pub asked : Request → Option ℕ
asked r = asked_by (route r)

-- some first requests had allocated so many numbers
pub record WasAt (capacity : ℕ) (requests : List Request) (number : ℕ) : Type 0 where
  pub first : List Request
  pub more : List Request
  pub are : requests ≡ first ++ more
  pub counted : (after (opening capacity) first).counter ≡ number

-- a compaction to a number above this one was made
abbrev pub WasCompactedAbove : ℕ → List (Request × Reply) → Type 0
WasCompactedAbove n es = (to : ℕ) × (n < to) × Contains es (Compact to, Compacted to)
