-- An object that was printed, as it reads back.
use Rattle.std.specs.Prelude.{ℕ, ◌==◌, List, decimal, Option, Some, None, if◌then◌else◌}
use Rattle.objects.specs.declared.object.Object.{Object}
use Rattle.objects.specs.declared.object.Draft.{Draft}
use Rattle.objects.specs.Uid.{uid_text}

-- the text, unless the number is 0, which stands for none
abbrev pub text_unless_zero : ℕ → List ℕ → Option (List ℕ)
text_unless_zero n s = if n == 0 then None else Some s

-- the object, with the texts of its UID and its resource version
abbrev pub draft_again_of : Object → Draft
draft_again_of o = record {
  object = o;
  uid = text_unless_zero o.meta.uid (uid_text o.meta.uid);
  version = text_unless_zero o.meta.revision (decimal o.meta.revision);
}
