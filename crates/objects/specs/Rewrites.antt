-- An object as a write leaves it: at another resource version, with another status, or replaced by another object.
use Rattle.std.specs.Prelude.{ℕ, ◌+◌, ◌^◌, nat_lt, Bool, Option, codes, if◌then◌else◌}
use Rattle.serde_json.specs.Data.{Data}
use Rattle.objects.specs.declared.meta.Meta.{Meta}
use Rattle.objects.specs.declared.object.Object.{Object}
use Rattle.objects.specs.Status.{member_of, same_found, with_member}

-- the object at another resource version
abbrev pub at_version : Object → ℕ → Object
at_version o n = record {
  key = o.key;
  meta = record { uid = o.meta.uid; revision = n; generation = o.meta.generation; deletion = o.meta.deletion };
  body = o.body;
}

-- the object with that status, or without one
abbrev pub with_status : Option Data → Object → Object
with_status status o = record { key = o.key; meta = o.meta; body = with_member (codes "status") status o.body }

-- The generation rises with each change of `spec`, up to its limit.
abbrev pub generation_after : ℕ → Bool → ℕ
generation_after g same_spec = if same_spec then g else if nat_lt (g + 1) (2 ^ 63) then g + 1 else g

-- what the store knows of an object once an update has replaced it by another, whose spec is the same or not
abbrev pub meta_by : Object → Bool → Meta
meta_by o same_spec = record { uid = o.meta.uid; revision = o.meta.revision; generation = generation_after o.meta.generation same_spec; deletion = o.meta.deletion }

-- the same of the new object
abbrev pub meta_after : Object → Object → Meta
meta_after o new = meta_by o (same_found (member_of (codes "spec") o.body) (member_of (codes "spec") new.body))

-- what an update with the new object makes of one that has a status, which stays
abbrev pub replaced : Object → Object → Object
replaced o new = record { key = new.key; meta = meta_after o new; body = with_member (codes "status") (member_of (codes "status") o.body) new.body }
