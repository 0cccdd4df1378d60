-- The replies to a compaction and to a list of the past, while the floor is held.
use Rattle.std.specs.Prelude.{ℕ, Bool, true, false, List, take, Option, Some, None}
use Rattle.objects.specs.declared.kind.Kind.{Kind}
use Rattle.plain_store.specs.Store.{collection}
use Rattle.requests.specs.declared.reply.Reply.{Reply}
use Rattle.requests.specs.declared.reply.Reply.TheVariants.{Created, Found, Listed, Updated, Unchanged, Marked, Removed, Compacted, Refused}
use Rattle.requests.specs.declared.reply.Reason.{Reason}
use Rattle.store.specs.declared.writing.Writing.{Writing}
use Rattle.store.specs.History.{store_after}

-- the floor after a compaction, unless that is denied
abbrev pub floor_after : ℕ → ℕ → Option Reason → ℕ
floor_after floor number (Some reason) = floor
floor_after floor number None = number

-- a list at a number, unless that is denied: what the plain store had after the writes up to that number
abbrev pub list_reply : Option Reason → ℕ → List Writing → Kind → List ℕ → ℕ → Reply
list_reply (Some reason) capacity h kind namespace n = Refused reason
list_reply None capacity h kind namespace n = Listed (collection (store_after capacity (take n h)).objects kind namespace) n

-- a compaction to a number, unless that is denied
abbrev pub compacted_reply : Option Reason → ℕ → Reply
compacted_reply (Some reason) n = Refused reason
compacted_reply None n = Compacted n

abbrev pub is_compacted : Reply → Bool
is_compacted (Created o) = false
is_compacted (Found o) = false
is_compacted (Listed os n) = false
is_compacted (Updated o) = false
is_compacted (Unchanged o) = false
is_compacted (Marked o) = false
is_compacted (Removed o) = false
is_compacted (Compacted n) = true
is_compacted (Refused r) = false
