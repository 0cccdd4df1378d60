-- What an accepted request writes, except for the number that it is given (Kubernetes API concepts: resource versions,
-- UIDs, generation).
use Rattle.std.specs.Prelude.{◌≡◌, ℕ, ◌==◌, Option, Some, None, refl, if◌then◌else◌}
use Rattle.std.specs.Coded.{Coded, code_by, coded×, coded_ℕ}
use Rattle.objects.specs.declared.object.Object.{Object}
use Rattle.objects.specs.Object.{object_coded}
pub use Rattle.objects.specs.Rewrites.{at_version}
use Rattle.requests.specs.declared.reply.Reply.{Reply}
use Rattle.requests.specs.declared.reply.Reply.TheVariants.{Created, Updated, Marked, Removed}
use Rattle.requests.specs.declared.version.Version.{Version}

-- an object that is made, one that is changed, a pod that is marked with the time of its deletion, an object that is
-- removed
pub data Change : Type 0 where
  creates : Object → Change
  updates : Object → Change
  marks : Object → Change
  removes : Object → Change

abbrev pub change_object : Change → Object
change_object (creates o) = o
change_object (updates o) = o
change_object (marks o) = o
change_object (removes o) = o

-- changes as codes: the index of the kind, and the object
abbrev pub form_index : Change → ℕ
form_index (creates o) = 0
form_index (updates o) = 1
form_index (marks o) = 2
form_index (removes o) = 3

abbrev pub change_at : ℕ → Object → Change
change_at n o = if n == 0 then creates o else if n == 1 then updates o else if n == 2 then marks o else removes o

pub change_at-form_index : (c : Change) → change_at (form_index c) (change_object c) ≡ c
change_at-form_index (creates o) = refl
change_at-form_index (updates o) = refl
change_at-form_index (marks o) = refl
change_at-form_index (removes o) = refl

abbrev pub change_coded : Coded Change
change_coded = code_by (ℕ × Object) (coded× coded_ℕ object_coded) (λ c. (form_index c, change_object c)) (λ p. change_at p.0 p.1) change_at-form_index

-- The object of a change that is given the number n: a creation has n as its UID too, generation 1 and no deletion. The
-- reply to a removal has the object at the number of its removal.
abbrev pub stamp : Change → ℕ → Object
stamp (creates o) n = record { key = o.key; meta = record { uid = n; revision = n; generation = 1; deletion = None }; body = o.body }
stamp (updates o) n = at_version o n
stamp (marks o) n = at_version o n
stamp (removes o) n = at_version o n

-- what the key has from the number n on
abbrev pub kept : Change → ℕ → Option Object
kept (creates o) n = Some (stamp (creates o) n)
kept (updates o) n = Some (stamp (updates o) n)
kept (marks o) n = Some (stamp (marks o) n)
kept (removes o) n = None

-- the reply to a write that left this object
abbrev pub accepted : Change → Object → Reply
accepted (creates o) written = Created written
accepted (updates o) written = Updated written
accepted (marks o) written = Marked written
accepted (removes o) written = Removed written

-- the record of a change that is given the number n
abbrev pub version_of : Change → ℕ → Version
version_of c n = record { key = (change_object c).key; state = kept c n }
