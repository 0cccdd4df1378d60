-- The objects of an input, by their kinds.
use Rattle.std.specs.Prelude.{ℕ, Bool, ◌&&◌, bytes_eq, List, [], ◌∷◌, ◌++◌, Result, Ok}
use Rattle.objects.specs.declared.fault.ReadError.{ReadError}
use Rattle.objects.specs.declared.kind.Kind.{Kind}
use Rattle.objects.specs.declared.kind.Kind.TheVariants.{StatefulSet, Pod, PersistentVolumeClaim, ControllerRevision}
use Rattle.objects.specs.declared.object.Object.{Object}
use Rattle.objects.specs.Reading.{reading}
use Rattle.objects.specs.Steps.{◌>>=◌}
use Rattle.plan_lines.specs.declared.listed.Listed.{Listed}

-- each list in the order of the input
pub record Lists : Type 0 where
  pub sets : List Object
  pub pods : List Object
  pub claims : List Object
  pub revisions : List Object

abbrev pub nothing : Lists
nothing = record { sets = []; pods = []; claims = []; revisions = [] }

-- with an object of that kind appended to its list
abbrev pub with_kind : Kind → Lists → Object → Lists
with_kind StatefulSet l o = record { sets = l.sets ++ o ∷ []; pods = l.pods; claims = l.claims; revisions = l.revisions }
with_kind Pod l o = record { sets = l.sets; pods = l.pods ++ o ∷ []; claims = l.claims; revisions = l.revisions }
with_kind PersistentVolumeClaim l o = record { sets = l.sets; pods = l.pods; claims = l.claims ++ o ∷ []; revisions = l.revisions }
with_kind ControllerRevision l o = record { sets = l.sets; pods = l.pods; claims = l.claims; revisions = l.revisions ++ o ∷ [] }

abbrev pub with_last : Lists → Object → Lists
with_last l o = with_kind o.key.kind l o

-- the objects of the lines, after those of these lists; or the first refusal
abbrev pub read_from : Lists → List (List ℕ) → Result Lists ReadError
read_from l [] = Ok l
read_from l (line ∷ rest) = reading line >>= λ draft. read_from (with_last l draft.object) rest

abbrev pub lists_of : Listed → Lists
lists_of l = record { sets = l.sets.items; pods = l.pods.items; claims = l.claims.items; revisions = l.revisions.items }

abbrev pub is_named : (namespace name : List ℕ) → Object → Bool
is_named namespace name o = bytes_eq o.key.namespace namespace && bytes_eq o.key.name name
