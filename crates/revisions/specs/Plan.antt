-- The plan of a set's revisions: what is written before any pod is looked at, or the revisions that pods are made from.
use Rattle.std.specs.Prelude.{ℕ, ◌+◌, Bool, true, ◌&&◌, nat_le, List, length, map, unwrap_or, Result, Ok, Err, ⊤}
use Rattle.std.specs.Option.{is_some, option_map_or}
use Rattle.serde_json.specs.Written.{compact_text}
use Rattle.objects.specs.declared.object.Object.{Object}
use Rattle.objects.specs.Names.{most_label}
use Rattle.set_views.specs.declared.fault.PlanError.{PlanError}
use Rattle.set_views.specs.declared.fault.PlanError.TheVariants.{BadSpec, NameTooLong, NoRevisionName}
use Rattle.set_views.specs.declared.fault.PlanError.TheVariants as errors
use Rattle.set_views.specs.Firsts.{is_held}
use Rattle.set_views.specs.Set.{SetParts}
use Rattle.set_views.specs.Steps.{◌>>=◌, required, guarded, Gives}
use Rattle.revisions.specs.declared.view.RevisionView.{RevisionView}
use Rattle.revisions.specs.declared.plan.RevisionPlan.{RevisionPlan}
use Rattle.revisions.specs.declared.plan.RevisionPlan.TheVariants.{Create, Renumber, Settled}
use Rattle.revisions.specs.Built.{new_revision, with_number}
use Rattle.revisions.specs.Choice.{Choice, in_place, to_renumber, to_create, choice_of, data_with, greatest, most_number, named_current, template_of}
use Rattle.revisions.specs.Name.{first_free, most_tries, revision_name}
use Rattle.revisions.specs.Revision.{AreOwned, listed}

pub data PlanParts : Type 0 where
  -- this revision is to be made
  created : Object → PlanParts
  -- this one is to be written, with its new number
  renumbered : Object → PlanParts
  -- nothing is to be written: the owned ones in order, the current one, and the update revision
  settled : List Object → Object → Object → PlanParts

abbrev pub objects_of : List RevisionView → List Object
objects_of views = map (λ r. r.object.now) views

abbrev pub plan_parts : RevisionPlan → PlanParts
plan_parts (Create o) = created o
plan_parts (Renumber o) = renumbered o
plan_parts (Settled revisions) = settled (objects_of revisions.owned.items) revisions.current.object.now revisions.update.object.now

-- a new revision with that number
unfoldable pub creation : SetParts → (List ℕ → Bool) → ℕ → ℕ → Result Object PlanError
creation set held digits n = do
  name ← guarded NameTooLong (nat_le (length set.object.key.name + 1 + digits) most_label) set.object.key.name
  free ← required NoRevisionName (first_free held (revision_name name (compact_text (data_with set.template)) digits) set.collisions most_tries)
  Ok (new_revision set free n)

abbrev pub plan_by : SetParts → (List ℕ → Bool) → ℕ → List Object → Choice → Result PlanParts PlanError
plan_by set held digits owned (in_place update) = Ok (settled owned (unwrap_or (named_current set owned) update) update)
plan_by set held digits owned (to_renumber o) = Ok (renumbered (with_number o (greatest owned + 1)))
plan_by set held digits owned to_create = creation set held digits (greatest owned + 1) >>= λ o. Ok (created o)

-- the greatest number once this choice is carried out
abbrev pub greatest_after : List Object → Choice → ℕ
greatest_after owned (in_place update) = greatest owned
greatest_after owned (to_renumber o) = greatest owned + 1
greatest_after owned to_create = greatest owned + 1

-- no number is too large, neither a listed one nor one that is written, and pods can be made from the current revision
abbrev pub is_sound : SetParts → List Object → Choice → Bool
is_sound set owned choice = nat_le (greatest_after owned choice) most_number && option_map_or (λ o. is_some (template_of o)) (named_current set owned) true

abbrev pub sound_choice : SetParts → List Object → Choice → Result Choice PlanError
sound_choice set owned choice = guarded BadSpec (is_sound set owned choice) choice

-- of the owned revisions in order, when those names are in use
unfoldable pub plan_of : SetParts → (List ℕ → Bool) → ℕ → List Object → Result PlanParts PlanError
plan_of set held digits owned = do
  choice ← sound_choice set owned (choice_of (data_with set.template) owned)
  plan_by set held digits owned choice

-- what is planned of the revisions among these objects; nothing is said if memory ran out
abbrev pub IsPlan : SetParts → List Object → ℕ → Result RevisionPlan PlanError → Type 0
IsPlan set os digits (Err errors.Memory) = ⊤
IsPlan set os digits result = (owned : List Object) × AreOwned set os owned × Gives plan_parts result (plan_of set (is_held (listed set os)) digits owned)
