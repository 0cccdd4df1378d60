-- What a request does, given the object that now has its key (Kubernetes API concepts: resource versions, UIDs, and the
-- preconditions of a write).
use Rattle.std.specs.Prelude.{ℕ, Bool, true, false, not, ◌||◌, ◌&&◌, List, [], ◌∷◌, bytes_eq, codes, decimal, Option, Some, None, is_some, if◌then◌else◌}
use Rattle.std.specs.Option.{option_map_or}
use Rattle.objects.specs.declared.kind.Kind.{Kind}
use Rattle.objects.specs.declared.kind.Kind.TheVariants.{StatefulSet, Pod, PersistentVolumeClaim, ControllerRevision}
use Rattle.objects.specs.declared.object.Object.{Object}
use Rattle.objects.specs.declared.object.Draft.{Draft}
use Rattle.serde_json.specs.Data.{Data}
pub use Rattle.objects.specs.Rewrites.{generation_after, meta_after}
use Rattle.objects.specs.Same.{same_data}
pub use Rattle.objects.specs.Status.{same_found}
use Rattle.objects.specs.Status.{member_of, with_member}
use Rattle.objects.specs.Uid.{uid_text}
use Rattle.requests.specs.declared.reply.Reason.TheVariants.{NotFound, AlreadyExists, Conflict, Invalid}
use Rattle.requests.specs.declared.request.Request.{Request}
use Rattle.requests.specs.declared.request.Request.TheVariants as request
use Rattle.requests.specs.declared.request.Request.TheVariants.{Create, Get, Update, UpdateStatus, Delete, Compact}
use Rattle.requests.specs.declared.verdict.Verdict.{Verdict}
use Rattle.requests.specs.declared.verdict.Verdict.TheVariants.{Refuse, Same, Write}
use Rattle.requests.specs.Change.{creates, updates, marks, removes}

-- an empty text counts as none
abbrev pub nonempty : Option (List ℕ) → Option (List ℕ)
nonempty None = None
nonempty (Some []) = None
nonempty (Some (c ∷ cs)) = Some (c ∷ cs)

-- a text was given, and it is another one
abbrev pub differs : Option (List ℕ) → List ℕ → Bool
differs precondition current = option_map_or (λ t. not (bytes_eq t current)) (nonempty precondition) false

-- the resource version or the UID that was given is not the text of its number
abbrev pub conflicts_with : Option (List ℕ) → Option (List ℕ) → (revision number : ℕ) → Bool
conflicts_with version uid revision number = differs version (decimal revision) || differs uid (uid_text number)

-- the resource version or the UID that was given is not that of the current object
abbrev pub conflicts : Option (List ℕ) → Option (List ℕ) → Object → Bool
conflicts version uid o = conflicts_with version uid o.meta.revision o.meta.uid

-- A ControllerRevision has no status, and keeps all of its members.
abbrev pub has_status : Kind → Bool
has_status StatefulSet = true
has_status Pod = true
has_status PersistentVolumeClaim = true
has_status ControllerRevision = false

-- the body with that status or with none, for a kind that has a status
abbrev pub body_with_status : Kind → Option Data → Data → Data
body_with_status kind status body = if has_status kind then with_member (codes "status") status body else body

-- the object that a create makes: its status comes later, by a request of its own
abbrev pub born : Object → Object
born o = record { key = o.key; meta = o.meta; body = body_with_status o.key.kind None o.body }

abbrev pub same_member : List ℕ → Data → Data → Bool
same_member k a b = same_found (member_of k a) (member_of k b)

-- A create may not name a resource version, and its name has to be free.
abbrev pub on_create : Draft → Option Object → Verdict
on_create d current =
    if is_some (nonempty d.version) then Refuse Invalid
    else if is_some current then Refuse AlreadyExists
    else Write (creates (born d.object))

-- what an update makes of the current object: its UID, deletion and status stay, and all else is what is passed
abbrev pub updated : Object → Draft → Object
updated o d = record {
  key = d.object.key;
  meta = meta_after o d.object;
  body = body_with_status d.object.key.kind (member_of (codes "status") o.body) d.object.body;
}

-- An update that would leave the object as it is writes nothing (an unchanged object keeps its resource version).
abbrev pub unless_same : Object → Object → Verdict
unless_same o new = if same_data o.body new.body then Same o else Write (updates new)

-- The `data` of a ControllerRevision never changes.
abbrev pub changes_data : Draft → Object → Bool
changes_data d o = not (has_status o.key.kind) && not (same_member (codes "data") o.body d.object.body)

abbrev pub on_update : Draft → Option Object → Verdict
on_update d None = Refuse NotFound
on_update d (Some o) =
    if conflicts d.version d.uid o then Refuse Conflict
    else if changes_data d o then Refuse Invalid
    else unless_same o (updated o d)

-- what a status request makes of the current object: its status is the one that is passed; a missing one removes it
abbrev pub with_status_of : Object → Draft → Object
with_status_of o d = record { key = o.key; meta = o.meta; body = with_member (codes "status") (member_of (codes "status") d.object.body) o.body }

abbrev pub status_unless_same : Object → Draft → Verdict
status_unless_same o d = if same_member (codes "status") o.body d.object.body then Same o else Write (updates (with_status_of o d))

abbrev pub on_status_of : Draft → Option Object → Verdict
on_status_of d None = Refuse NotFound
on_status_of d (Some o) = if conflicts d.version d.uid o then Refuse Conflict else status_unless_same o d

-- A status request writes `status` and nothing else.
abbrev pub on_status : Draft → Option Object → Verdict
on_status d current = if has_status d.object.key.kind then on_status_of d current else Refuse Invalid

-- the object with the time of its deletion
abbrev pub marked : List ℕ → Object → Object
marked at o = record {
  key = o.key;
  meta = record { uid = o.meta.uid; revision = o.meta.revision; generation = o.meta.generation; deletion = Some at };
  body = o.body;
}

-- Only a pod is deleted gracefully; for the other kinds a time is ignored.
abbrev pub graceful : Kind → Option (List ℕ) → Option (List ℕ)
graceful StatefulSet at = None
graceful Pod at = nonempty at
graceful PersistentVolumeClaim at = None
graceful ControllerRevision at = None

-- A graceful deletion marks the object, once, with the time that is passed. Any other removes it, a marked one too.
abbrev pub deleted : Option (List ℕ) → Object → Verdict
deleted None o = Write (removes o)
deleted (Some at) o = if is_some o.meta.deletion then Same o else Write (marks (marked at o))

-- A delete names a key, and may name the UID and the resource version that the object has to have.
abbrev pub on_delete : Option (List ℕ) → Option (List ℕ) → Option (List ℕ) → Option Object → Verdict
on_delete version uid at None = Refuse NotFound
on_delete version uid at (Some o) = if conflicts version uid o then Refuse Conflict else deleted (graceful o.key.kind at) o

-- Reads and compactions have no verdict: they allocate no resource version.
abbrev pub is_write : Request → Bool
is_write (Create d) = true
is_write (Get k) = false
is_write (request.List kind namespace exact) = false
is_write (Update d) = true
is_write (UpdateStatus d) = true
is_write (Delete k uid version at) = true
is_write (Compact to) = false

-- The table: what a request does, given the object that now has its key. It is never used for reads and compactions.
abbrev pub verdict : Request → Option Object → Verdict
verdict (Create d) current = on_create d current
verdict (Get k) current = Refuse Invalid
verdict (request.List kind namespace exact) current = Refuse Invalid
verdict (Update d) current = on_update d current
verdict (UpdateStatus d) current = on_status d current
verdict (Delete k uid version at) current = on_delete version uid at current
verdict (Compact to) current = Refuse Invalid
