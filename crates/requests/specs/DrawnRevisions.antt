-- Which replies say that a revision was allocated.
use Rattle.std.specs.Prelude.{Bool, true, false}
use Rattle.requests.specs.declared.reply.Reply.{Reply}
use Rattle.requests.specs.declared.reply.Reply.TheVariants.{Created, Found, Listed, Updated, Unchanged, Marked, Removed, Compacted, Refused}

-- the reply is one to a write that allocated a revision
abbrev pub drew_revision : Reply → Bool
drew_revision (Created o) = true
drew_revision (Found o) = false
drew_revision (Listed os n) = false
drew_revision (Updated o) = true
drew_revision (Unchanged o) = false
drew_revision (Marked o) = true
drew_revision (Removed o) = true
drew_revision (Compacted n) = false
drew_revision (Refused r) = false
