-- The parts of a template (Kubernetes API reference, core/v1: PodTemplateSpec, PersistentVolumeClaimTemplate). What is
-- of the wrong type counts as missing.
use Rattle.std.specs.Prelude.{ℕ, List, codes, Option, option_map, unwrap_or, if◌then◌else◌}
use Rattle.serde_json.specs.Data.{Data, object, Members, no_members, member, put}
use Rattle.objects.specs.declared.object.Object.{Object}
use Rattle.objects.specs.MetadataShape.{are_texts}
use Rattle.objects.specs.Object.{object_at}
use Rattle.revisions.specs.Choice as choice

-- the members of the revision's template
abbrev pub template_of : Object → Members
template_of revision = unwrap_or (choice.template_of revision) no_members

-- the members of a part
abbrev pub part : List ℕ → Members → Members
part k ms = unwrap_or (object_at k ms) no_members

-- a part as it is there, if it is an object
abbrev pub part_in : List ℕ → Members → Option Data
part_in k ms = option_map object (object_at k ms)

-- the members of a part, if all of them are texts
abbrev pub texts_in : List ℕ → Members → Members
texts_in k ms = let found = part k ms in if are_texts found then found else no_members

abbrev pub labels_in : Members → Members
labels_in metadata = texts_in (codes "labels") metadata

-- the members, with the first ones put over them
abbrev pub with_all : Members → Members → Members
with_all no_members ms = ms
with_all (member k d more) ms = with_all more (put k d ms)
