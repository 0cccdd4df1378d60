-- The log of a race, as a merge of the requests and replies of its callers.
use Rattle.std.specs.Prelude.{◌≡◌, ℕ, ◌==◌, List, [], ◌∷◌, Option, Some, None, filter, flat_map, map}
use Rattle.std.specs.declared.cmp.Ordering.{Ordering}
use Rattle.std.specs.Ordering.{nat_cmp, ordering_then}
use Rattle.std.specs.List.Sorted.{IsPermutation, IsSorted}
use Rattle.requests.specs.declared.request.Request.{Request}
use Rattle.requests.specs.declared.reply.Reply.{Reply}
use Rattle.interleavings.specs.declared.trace.Item.{Item}
use Rattle.interleavings.specs.declared.trace.Item.TheVariants as item
use Rattle.race_log.specs.declared.part.TimedExchange.{TimedExchange}
use Rattle.race_log.specs.declared.part.Part.{Part}
use Rattle.race_log.specs.declared.stamp.Stamp.{Stamp}
use Rattle.race_log.specs.Logged.{Noted}

-- a caller sends a request, or gets a reply, with its number if that is known
pub data Said : Type 0 where
  asks : Request → Said
  told : Reply → Option ℕ → Said

-- at a place, by a caller
pub record Event : Type 0 where
  pub place : ℕ
  pub caller : ℕ
  pub said : Said

abbrev pub event : (place caller : ℕ) → Said → Event
event place caller said = record { place = place; caller = caller; said = said }

-- of a part: a call, its reply, the next call ..
abbrev pub exchange_events : ℕ → TimedExchange → List Event
exchange_events caller a = event a.call caller (asks a.request) ∷ event a.place caller (told a.reply (Some a.number)) ∷ []

abbrev pub part_events : Part → List Event
part_events p = flat_map (exchange_events p.caller) p.exchanges.items

-- of all parts, one part after another
abbrev pub events_of : List Part → List Event
events_of parts = flat_map part_events parts

-- of a log, whose stamps have the numbers of its replies, in their order
abbrev pub stamped_events : List Item → List Stamp → List Event
stamped_events [] stamps = []
stamped_events (item.Call place caller request ∷ items) stamps = event place caller (asks request) ∷ stamped_events items stamps
stamped_events (item.Reply place caller reply ∷ items) [] = event place caller (told reply None) ∷ stamped_events items []
stamped_events (item.Reply place caller reply ∷ items) (s ∷ stamps) = event place caller (told reply (Some s.number)) ∷ stamped_events items stamps

abbrev pub noted_events : Noted → List Event
noted_events log = stamped_events log.items log.stamps

-- the indices of the replies of a log
abbrev pub reply_places : List Item → List ℕ
reply_places [] = []
reply_places (item.Call place caller request ∷ items) = reply_places items
reply_places (item.Reply place caller reply ∷ items) = place ∷ reply_places items

abbrev pub stamped_places : List Stamp → List ℕ
stamped_places stamps = map (λ (s : Stamp). s.reply) stamps

-- the calls and replies of one caller, in order
abbrev pub said_by : ℕ → List Event → List Said
said_by caller es = map (λ (e : Event). e.said) (filter (λ (e : Event). e.caller == caller) es)

abbrev pub turn_of : Event → ℕ × ℕ
turn_of e = (e.place, e.caller)

abbrev pub turn_cmp : ℕ × ℕ → ℕ × ℕ → Ordering
turn_cmp s t = ordering_then (nat_cmp s.0 t.0) (nat_cmp s.1 t.1)

-- The log has the calls and replies of each caller, in their order and with their numbers, and nothing else. Each reply
-- has one stamp, in the order of the replies.
pub record IsMergeOf (parts : List Part) (log : Noted) : Type 0 where
  pub said : (caller : ℕ) → said_by caller (noted_events log) ≡ said_by caller (events_of parts)
  pub stamped : stamped_places log.stamps ≡ reply_places log.items

-- Callers take turns as the places that they drew say, and in its turn each adds its next call or reply.
pub record IsByTurns (parts : List Part) (log : Noted) : Type 0 where
  pub turns : List (ℕ × ℕ)
  pub drawn : IsPermutation (map turn_of (events_of parts)) turns
  pub sorted : IsSorted turn_cmp turns
  pub callers : map (λ (e : Event). e.caller) (noted_events log) ≡ map (λ (t : ℕ × ℕ). t.1) turns
