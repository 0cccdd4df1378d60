-- The text of an object: compact JSON (RFC 8259) with keys in byte order, the held members back in `metadata`.
use Rattle.std.specs.Prelude.{ℕ, ◌==◌, List, codes, decimal, Option, Some, None, option_map, if◌then◌else◌, unwrap_or}
use Rattle.serde_json.specs.Data.{Data, number, unsigned, string, object, Members, no_members, put}
use Rattle.serde_json.specs.Find.{as_object}
use Rattle.serde_json.specs.Written.{compact_text}
use Rattle.trees.specs.Building.{put_some}
use Rattle.objects.specs.declared.object.Object.{Object}
use Rattle.objects.specs.Object.{object_at}
use Rattle.objects.specs.Uid.{uid_text}

abbrev pub unless_zero : ℕ → Data → Option Data
unless_zero n d = if n == 0 then None else Some d

-- the metadata with the members that key and meta hold
abbrev pub full_metadata : Object → Members → Members
full_metadata o ms =
    put_some (codes "deletionTimestamp") (option_map string o.meta.deletion)
    (put_some (codes "generation") (unless_zero o.meta.generation (number (unsigned o.meta.generation)))
    (put (codes "name") (string o.key.name)
    (put (codes "namespace") (string o.key.namespace)
    (put_some (codes "resourceVersion") (unless_zero o.meta.revision (string (decimal o.meta.revision)))
    (put_some (codes "uid") (unless_zero o.meta.uid (string (uid_text o.meta.uid))) ms)))))

-- the object as JSON
unfoldable pub printed : Object → Data
printed o =
    let members = unwrap_or (as_object o.body) no_members in
    let metadata = unwrap_or (object_at (codes "metadata") members) no_members in
    object (put (codes "metadata") (object (full_metadata o metadata)) members)

abbrev pub text : Object → List ℕ
text o = compact_text (printed o)
