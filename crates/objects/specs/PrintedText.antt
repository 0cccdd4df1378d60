-- The text that a printed object holds in place of the object.
use Rattle.std.specs.Prelude.{◌≡◌, ℕ, List, [], false, length, Option, Some, None, Result, Ok, Err}
use Rattle.serde_json.specs.Data.{Data, null}
use Rattle.serde_json.specs.Written.{has_float}
use Rattle.objects.specs.declared.kind.Kind.TheVariants.{StatefulSet}
use Rattle.objects.specs.declared.fault.ReadError.{ReadError}
use Rattle.objects.specs.declared.object.Object.{Object}
use Rattle.objects.specs.declared.object.Draft.{Draft}
use Rattle.trees.specs.Reading.{read_within}
use Rattle.objects.specs.Reading.{draft_of}
use Rattle.objects.specs.Text.{text, printed}
use Rattle.objects.specs.Again.{draft_again_of}

-- The text is that of the object, and reads back as the object, whatever its length and depth.
pub record IsTextOf (o : Object) (t : List ℕ) : Type 0 where
  pub text : t ≡ text o
  pub value : read_within (length t) t ≡ Some (printed o)
  pub integral : has_float (printed o) ≡ false
  pub draft : draft_of (printed o) ≡ Ok (draft_again_of o)

-- what a text that is no object stands for; no printed object has such a text
abbrev no_object : Object
no_object = record {
  key = record { kind = StatefulSet; namespace = []; name = [] };
  meta = record { uid = 0; revision = 0; generation = 0; deletion = None };
  body = null;
}

abbrev object_of_draft : Result Draft ReadError → Object
object_of_draft (Ok d) = d.object
object_of_draft (Err e) = no_object

abbrev object_of_data : Option Data → Object
object_of_data (Some d) = object_of_draft (draft_of d)
object_of_data None = no_object

-- the object that a text reads as
unfoldable pub object_of_text : List ℕ → Object
object_of_text t = object_of_data (read_within (length t) t)
