-- A reply compared with what was recorded of it.
use Rattle.std.specs.Prelude.{◌≡◌, Bool, true, false, Option, Some, None}
use Rattle.requests.specs.declared.reply.Reply.{Reply}
use Rattle.requests.specs.declared.reply.Reply.TheVariants.{Created, Found, Listed, Updated, Unchanged, Marked, Removed, Compacted, Refused}

-- the reply is the recorded one, if one was recorded
abbrev pub Fits : Option Reply → Reply → Type 0
Fits None reply = Unit {0}
Fits (Some recorded) reply = recorded ≡ reply

-- the reply is one that only a get or a list has
abbrev pub is_to_read : Reply → Bool
is_to_read (Created o) = false
is_to_read (Found o) = true
is_to_read (Listed os revision) = true
is_to_read (Updated o) = false
is_to_read (Unchanged o) = false
is_to_read (Marked o) = false
is_to_read (Removed o) = false
is_to_read (Compacted revision) = false
is_to_read (Refused reason) = false
