-- The log of a race: what is noted of requests and replies.
use Rattle.std.specs.Prelude.{◌≡◌, ℕ, ◌<◌, ◌≤◌, not, List, [], ◌∷◌, length, Option, Some, None}
use Rattle.requests.specs.declared.request.Request.{Request}
use Rattle.requests.specs.declared.reply.Reply.{Reply}
use Rattle.requests.specs.DrawnRevisions.{drew_revision}
use Rattle.interleavings.specs.declared.trace.Item.{Item}
use Rattle.interleavings.specs.declared.trace.Item.TheVariants as item
use Rattle.interleavings.specs.Linearization.{Answers, Has, place_of}
use Rattle.race_log.specs.declared.stamp.Stamp.{Stamp}
use Rattle.race_log.specs.Twice.{reply_at}

-- The requests and replies in the order in which they were noted; for each caller, the index of its call that has no
-- reply yet; and a stamp for each call that has one.
pub record Noted : Type 0 where
  pub items : List Item
  pub open_calls : ℕ → Option ℕ
  pub stamps : List Stamp

-- a stamp for the call, if there is one
abbrev pub stamp_for : Option ℕ → (number place : ℕ) → Reply → List Stamp
stamp_for None number place reply = []
stamp_for (Some call) number place reply = record { number = number; follows = not (drew_revision reply); call = call; reply = place } ∷ []

-- the caller's last call is at this index, and has no reply
pub record IsOpen (items : List Item) (caller place : ℕ) : Type 0 where
  pub request : Request
  pub called : Has (item.Call place caller request) items
  pub last : (p : ℕ) (r : Request) → Has (item.Call p caller r) items → p ≤ place
  pub no_reply : (p : ℕ) (r : Reply) → Has (item.Reply p caller r) items → p < place

-- the reply that the stamp names answers the call that it names, and is that of an accepted write or follows one
pub record IsStamped (items : List Item) (s : Stamp) : Type 0 where
  pub reply : Reply
  pub is : reply_at items s.reply ≡ Some reply
  pub answers : Answers items s.reply s.call reply
  pub follows : s.follows ≡ not (drew_revision reply)

-- indices are below the length, and calls and stamps match them
pub record IsNoted (n : Noted) : Type 0 where
  pub placed : (i : Item) → Has i n.items → place_of i < length n.items
  pub waits : (caller place : ℕ) → n.open_calls caller ≡ Some place → IsOpen n.items caller place
  pub stamped : (s : Stamp) → Has s n.stamps → IsStamped n.items s
