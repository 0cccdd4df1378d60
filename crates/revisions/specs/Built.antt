-- The ControllerRevisions that a plan writes (Kubernetes API reference, apps/v1, ControllerRevision; "Garbage
-- Collection": "Owners and dependents").
use Rattle.std.specs.Prelude.{ℕ, true, List, codes, Some}
use Rattle.serde_json.specs.Data.{Data, boolean, number, unsigned, string, array, object, no_items, item, Members, no_members, member}
use Rattle.objects.specs.declared.object.Object.{Object}
use Rattle.objects.specs.declared.kind.Kind.TheVariants.{ControllerRevision}
use Rattle.objects.specs.Key.{key_parts}
use Rattle.objects.specs.New.{new_object}
use Rattle.objects.specs.Status.{with_member}
use Rattle.objects.specs.Uid.{uid_text}
use Rattle.set_views.specs.Set.{SetParts}
use Rattle.revisions.specs.Choice.{data_with}

-- the set as the controller of what it owns
abbrev pub owner_reference : SetParts → Data
owner_reference set = object (
    member (codes "apiVersion") (string (codes "apps/v1"))
    (member (codes "blockOwnerDeletion") (boolean true)
    (member (codes "controller") (boolean true)
    (member (codes "kind") (string (codes "StatefulSet"))
    (member (codes "name") (string set.object.key.name)
    (member (codes "uid") (string (uid_text set.object.meta.uid)) no_members))))))

-- the metadata of what the set owns
abbrev pub owned_metadata : SetParts → Members
owned_metadata set = member (codes "ownerReferences") (array (item (owner_reference set) no_items)) no_members

-- a revision of the set's template, with that name and number
abbrev pub new_revision : SetParts → List ℕ → ℕ → Object
new_revision set name n =
    new_object (key_parts ControllerRevision set.object.key.namespace name) (owned_metadata set)
    (member (codes "data") (data_with set.template) (member (codes "revision") (number (unsigned n)) no_members))

-- the revision with that number
abbrev pub with_number : Object → ℕ → Object
with_number o n = record { key = o.key; meta = o.meta; body = with_member (codes "revision") (Some (number (unsigned n))) o.body }
