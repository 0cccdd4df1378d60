-- Short runs with two shards, and the replies of their callers. The pods `a` and `b` are in the namespace `default`:
-- `a` is in the shard 1, `b` in the shard 0.
use Rattle.std.specs.Prelude.{ℕ, List, [], ◌∷◌, ◌++◌, take, drop, codes, None}
use Rattle.serde_json.specs.Data.{object, no_members}
use Rattle.objects.specs.declared.key.Key.{Key}
use Rattle.objects.specs.declared.kind.Kind.TheVariants.{Pod}
use Rattle.objects.specs.declared.object.Object.{Object}
use Rattle.requests.specs.declared.request.Request.{Request}
use Rattle.requests.specs.declared.request.Request.TheVariants.{Create, Get}
use Rattle.requests.specs.declared.request.Request.TheVariants as request
use Rattle.requests.specs.declared.reply.Reply.{Reply}
use Rattle.requests.specs.declared.reply.Reply.TheVariants.{Created, Found, Listed, Updated, Unchanged, Marked, Removed, Compacted, Refused}
use Rattle.requests.specs.Reasons.{reason_name}
use Rattle.interleavings.specs.declared.event.Event.{Event}
use Rattle.interleavings.specs.declared.event.Event.TheVariants.{Call, Check, Reserve, Publish, Raise, Read, ReadAt, Compact, Part, Crash}
use Rattle.interleavings.specs.declared.event.Event.TheVariants as event
use Rattle.interleavings.specs.declared.trace.Item.{Item}
use Rattle.interleavings.specs.declared.trace.Item.TheVariants as item
use Rattle.interleavings.specs.Order.{order}
use Rattle.interleavings.specs.Trace.{trace}

-- the place of a reply, its name, and the resource version that it has
pub record ReplySummary : Type 0 where
  pub place : ℕ
  pub name : List ℕ
  pub version : ℕ

abbrev pub summary : ℕ → Reply → ReplySummary
summary at (Created o) = record { place = at; name = codes "Created"; version = o.meta.revision }
summary at (Found o) = record { place = at; name = codes "Found"; version = o.meta.revision }
summary at (Listed os n) = record { place = at; name = codes "Listed"; version = n }
summary at (Updated o) = record { place = at; name = codes "Updated"; version = o.meta.revision }
summary at (Unchanged o) = record { place = at; name = codes "Unchanged"; version = o.meta.revision }
summary at (Marked o) = record { place = at; name = codes "Marked"; version = o.meta.revision }
summary at (Removed o) = record { place = at; name = codes "Removed"; version = o.meta.revision }
summary at (Compacted n) = record { place = at; name = codes "Compacted"; version = n }
summary at (Refused reason) = record { place = at; name = reason_name reason; version = 0 }

abbrev pub replies_in : List Item → List ReplySummary
replies_in [] = []
replies_in (item.Call at c r ∷ items) = replies_in items
replies_in (item.Reply at c r ∷ items) = summary at r ∷ replies_in items

abbrev pub answers : ℕ → List Event → List ReplySummary
answers capacity events = replies_in (trace (record { capacity = capacity; shards = 2 }) events)

abbrev pub order_in : ℕ → List Event → List ℕ
order_in capacity events = order (record { capacity = capacity; shards = 2 }) events

abbrev pub pod : List ℕ → Key
pod name = record { kind = Pod; namespace = codes "default"; name = name }

abbrev pub a : Key
a = pod (codes "a")

abbrev pub b : Key
b = pod (codes "b")

abbrev pub bare : Key → Object
bare k = record { key = k; meta = record { uid = 0; revision = 0; generation = 0; deletion = None }; body = object no_members }

abbrev pub create : Key → Request
create k = Create (record { object = bare k; uid = None; version = None })

abbrev pub pods : Request
pods = request.List Pod (codes "default") 0

abbrev pub pods_at_1 : Request
pods_at_1 = request.List Pod (codes "default") 1

-- A write gets its reply once the frontier has passed its number; the frontier passes no number that is not filled. A
-- refusal that saw the write waits for it.
abbrev pub hole : List Event
hole =
    Call 1 (create a) ∷ Check 1 ∷ Reserve 1 ∷ Call 2 (create b) ∷ Check 2 ∷ Reserve 2 ∷ Publish 2
    ∷ Call 3 (create b) ∷ Check 3 ∷ Raise ∷ event.Reply 2 ∷ event.Reply 3
    ∷ Publish 1 ∷ Raise ∷ event.Reply 2 ∷ event.Reply 3 ∷ Raise ∷ event.Reply 3 ∷ event.Reply 2 ∷ []

-- A write is refused as StoreFull once all numbers are allocated; it gets the refusal once the frontier has passed
-- them.
abbrev pub full_store : List Event
full_store =
    Call 1 (create a) ∷ Check 1 ∷ Reserve 1
    ∷ Call 2 (create b) ∷ Check 2 ∷ Reserve 2 ∷ event.Reply 2
    ∷ Publish 1 ∷ Raise ∷ event.Reply 2
    ∷ Call 3 (create a) ∷ Check 3 ∷ event.Reply 3 ∷ []

-- A write that allocated a number is published although its caller has crashed.
abbrev pub crash_after_reserve : List Event
crash_after_reserve =
    Call 1 (create a) ∷ Check 1 ∷ Reserve 1 ∷ Crash 1 ∷ Publish 1 ∷ Raise ∷ event.Reply 1
    ∷ Call 2 (create a) ∷ Check 2 ∷ event.Reply 2 ∷ []

-- One that allocated none is dropped, and its shard is free.
abbrev pub crash_in_holding : List Event
crash_in_holding =
    Call 1 (create a) ∷ Check 1 ∷ Crash 1
    ∷ Call 2 (create a) ∷ Check 2 ∷ Reserve 2 ∷ Publish 2 ∷ Raise ∷ event.Reply 2 ∷ []

-- A list at a number is too early before the frontier has reached it, continues if a compaction passes the number, and
-- is too late after that.
abbrev pub past_list : List Event
past_list =
    Call 1 (create a) ∷ Check 1 ∷ Reserve 1 ∷ Publish 1 ∷ Call 2 pods_at_1 ∷ ReadAt 2 ∷ Raise ∷ event.Reply 2 ∷ event.Reply 1
    ∷ Call 1 (create b) ∷ Check 1 ∷ Reserve 1 ∷ Publish 1 ∷ Raise ∷ event.Reply 1
    ∷ Call 2 pods_at_1 ∷ ReadAt 2 ∷ Call 3 (request.Compact 2) ∷ Compact 3 ∷ event.Reply 3 ∷ Part 2 ∷ Part 2 ∷ event.Reply 2
    ∷ Call 2 pods_at_1 ∷ ReadAt 2 ∷ event.Reply 2 ∷ []

-- A read below a hole sees nothing of what is beyond it, and is before it in the order.
abbrev pub read_below_a_hole : List Event
read_below_a_hole =
    Call 1 (create a) ∷ Check 1 ∷ Reserve 1 ∷ Call 2 (create b) ∷ Check 2 ∷ Reserve 2 ∷ Publish 2 ∷ event.Reply 2
    ∷ Call 3 (Get b) ∷ Read 3 ∷ Part 3 ∷ event.Reply 3
    ∷ Publish 1 ∷ Raise ∷ Raise ∷ event.Reply 2
    ∷ Call 3 (Get b) ∷ Read 3 ∷ Part 3 ∷ event.Reply 3 ∷ []

-- A list is in the order where it begins, whatever is written before its last part.
abbrev pub list_beside_a_write : List Event
list_beside_a_write =
    Call 1 (create a) ∷ Check 1 ∷ Reserve 1 ∷ Publish 1 ∷ Raise ∷ event.Reply 1
    ∷ Call 2 pods ∷ Read 2 ∷ Part 2
    ∷ Call 1 (create b) ∷ Check 1 ∷ Reserve 1 ∷ Publish 1 ∷ Raise ∷ event.Reply 1
    ∷ Part 2 ∷ event.Reply 2 ∷ []

-- A create by caller 1, with one crash before its step n, and then a get by caller 2.
abbrev pub create_steps : List Event
create_steps = Call 1 (create a) ∷ Check 1 ∷ Reserve 1 ∷ Publish 1 ∷ Raise ∷ event.Reply 1 ∷ []

abbrev pub crash_before : ℕ → List Event
crash_before n = take n create_steps ++ Crash 1 ∷ drop n create_steps ++ Call 2 (Get a) ∷ Read 2 ∷ Part 2 ∷ event.Reply 2 ∷ []
