-- Which revision a set's pods are to get (Kubernetes, "StatefulSets": "Rolling Updates"; API reference, apps/v1,
-- ControllerRevision: `data` never changes, and the greatest `revision` is the newest). Lists of revisions are in
-- order, the newest last.
use Rattle.std.specs.Prelude.{ℕ, Bool, false, List, [], ◌∷◌, codes, bytes_eq, reverse, Option, option_and_then, if◌then◌else◌}
use Rattle.std.specs.List.{find}
use Rattle.std.specs.Option.{option_map_or}
use Rattle.serde_json.specs.Data.{Data, object, Members, no_members, member}
use Rattle.serde_json.specs.Find.{as_object}
use Rattle.objects.specs.declared.object.Object.{Object}
use Rattle.objects.specs.Same.{same_data}
use Rattle.set_views.specs.Set.{SetParts}
use Rattle.set_views.specs.Values.{inside}
use Rattle.revisions.specs.Revision.{number_of, data_in}

-- the `data` of a revision of this template
abbrev pub data_with : Members → Data
data_with template = object (member (codes "spec") (object (member (codes "template") (object template) no_members)) no_members)

-- its `data` is this
abbrev pub has_data : Data → Object → Bool
has_data d o = option_map_or (same_data d) (data_in o) false

pub data Choice : Type 0 where
  -- the newest one has the template
  in_place : Object → Choice
  -- an older one has it, and is to become the newest
  to_renumber : Object → Choice
  -- none has it
  to_create : Choice

-- of several older ones with equal data the newest counts
abbrev pub choice_from : Data → List Object → Choice
choice_from d [] = to_create
choice_from d (newest ∷ older) = if has_data d newest then in_place newest else option_map_or to_renumber (find (has_data d) older) to_create

abbrev pub choice_of : Data → List Object → Choice
choice_of d owned = choice_from d (reverse owned)

abbrev pub first_number : List Object → ℕ
first_number [] = 0
first_number (newest ∷ older) = number_of newest

-- the number of the newest, or 0 if there is none
abbrev pub greatest : List Object → ℕ
greatest owned = first_number (reverse owned)

-- the largest number of a revision, so that the API's integers of 64 bits with a sign hold a next one
abbrev pub most_number : ℕ
most_number = 9223372036854775806

abbrev pub named_among : List Object → List ℕ → Option Object
named_among os name = find (λ o. bytes_eq name o.key.name) os

-- the one that `status.currentRevision` names
abbrev pub named_current : SetParts → List Object → Option Object
named_current set owned = option_and_then (named_among owned) set.current

-- what the pods of a revision are made from, if it is an object
abbrev pub template_of : Object → Option Members
template_of o = option_and_then as_object (inside (codes "template") (inside (codes "spec") (data_in o)))
