-- Replies that say the same: the same answer, of objects whose keys, metadata and bodies are the same.
use Rattle.std.specs.Prelude.{ℕ, ◌==◌, Bool, true, false, ◌&&◌, List, [], ◌∷◌, bytes_eq, Option, Some, None}
use Rattle.std.specs.Ordering.{eq_by_cmp}
use Rattle.objects.specs.declared.object.Object.{Object}
use Rattle.objects.specs.declared.meta.Meta.{Meta}
use Rattle.objects.specs.Key.{key_cmp}
use Rattle.objects.specs.Same.{same_data}
use Rattle.requests.specs.declared.reply.Reason.{Reason}
use Rattle.requests.specs.declared.reply.Reason.TheVariants.{NotFound, AlreadyExists, Conflict, Invalid, StoreFull, Expired, TooLarge}
use Rattle.requests.specs.declared.reply.Reply.{Reply}
use Rattle.requests.specs.declared.reply.Reply.TheVariants.{Created, Found, Listed, Updated, Unchanged, Marked, Removed, Compacted, Refused}

abbrev pub same_time : Option (List ℕ) → Option (List ℕ) → Bool
same_time None None = true
same_time (Some s) (Some t) = bytes_eq s t
same_time s t = false

abbrev pub same_meta : Meta → Meta → Bool
same_meta m n = m.uid == n.uid && m.revision == n.revision && m.generation == n.generation && same_time m.deletion n.deletion

abbrev pub same_object : Object → Object → Bool
same_object o p = eq_by_cmp key_cmp o.key p.key && same_meta o.meta p.meta && same_data o.body p.body

abbrev pub same_objects : List Object → List Object → Bool
same_objects [] [] = true
same_objects (o ∷ os) (p ∷ ps) = same_object o p && same_objects os ps
same_objects os ps = false

abbrev pub reason_index : Reason → ℕ
reason_index NotFound = 0
reason_index AlreadyExists = 1
reason_index Conflict = 2
reason_index Invalid = 3
reason_index StoreFull = 4
reason_index Expired = 5
reason_index TooLarge = 6

abbrev pub same_reply : Reply → Reply → Bool
same_reply (Created o) (Created p) = same_object o p
same_reply (Found o) (Found p) = same_object o p
same_reply (Listed os n) (Listed ps m) = same_objects os ps && n == m
same_reply (Updated o) (Updated p) = same_object o p
same_reply (Unchanged o) (Unchanged p) = same_object o p
same_reply (Marked o) (Marked p) = same_object o p
same_reply (Removed o) (Removed p) = same_object o p
same_reply (Compacted n) (Compacted m) = n == m
same_reply (Refused r) (Refused s) = reason_index r == reason_index s
same_reply r s = false
