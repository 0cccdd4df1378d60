-- ControllerRevisions as a plan sees them (Kubernetes API reference, apps/v1, ControllerRevision: `data`, `revision`).
use Rattle.std.specs.Prelude.{ℕ, Bool, List, codes, Option, option_and_then, unwrap_or}
use Rattle.std.specs.Cmp.Lexicographic.{slice_cmp}
use Rattle.std.specs.List.{filter}
use Rattle.std.specs.List.Sorted.{IsPermutation, IsSorted}
use Rattle.std.specs.Ordering.{nat_cmp, on, then_cmp}
use Rattle.std.specs.declared.cmp.Ordering.{Ordering}
use Rattle.serde_json.specs.Data.{Data}
use Rattle.serde_json.specs.Find.{as_number, as_u64}
use Rattle.objects.specs.declared.kind.Kind.TheVariants.{ControllerRevision}
use Rattle.objects.specs.declared.object.Object.{Object}
use Rattle.objects.specs.Metadata.{owners_of}
use Rattle.objects.specs.Status.{member_of}
use Rattle.set_views.specs.Firsts.{first_of_each}
use Rattle.set_views.specs.Owners.{is_controlled}
use Rattle.set_views.specs.Set.{SetParts}
use Rattle.set_views.specs.Predicates.{in_namespace}

-- `revision`; what is no whole number from 0 up counts as 0
abbrev pub number_of : Object → ℕ
number_of o = unwrap_or (option_and_then as_u64 (option_and_then as_number (member_of (codes "revision") o.body))) 0

abbrev pub data_in : Object → Option Data
data_in o = member_of (codes "data") o.body

-- the set controls the revision
abbrev pub owns_revision : SetParts → Object → Bool
owns_revision set o = is_controlled set.object.meta.uid (owners_of o.body)

-- the revisions of the set's namespace among these objects
abbrev pub listed : SetParts → List Object → List Object
listed set os = filter (in_namespace set ControllerRevision) os

-- of the first of each name, those that the set controls
abbrev pub owned_among : SetParts → List Object → List Object
owned_among set os = filter (owns_revision set) (first_of_each (listed set os))

-- by number, then by name
abbrev pub revision_cmp : Object → Object → Ordering
revision_cmp = then_cmp (on number_of nat_cmp) (on (λ o. o.key.name) (slice_cmp nat_cmp))

-- the revisions that the set controls among these objects, in order, so that the newest is the last
pub record AreOwned (set : SetParts) (os owned : List Object) : Type 0 where
  pub same : IsPermutation (owned_among set os) owned
  pub ordered : IsSorted revision_cmp owned
