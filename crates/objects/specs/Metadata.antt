-- What an object's body says in its `metadata` (Kubernetes API reference, ObjectMeta).
use Rattle.std.specs.Prelude.{ℕ, List, codes, Option, Some, option_map, option_and_then, unwrap_or}
use Rattle.serde_json.specs.Data.{Data, array, object, Items, no_items, Members, no_members}
use Rattle.serde_json.specs.Find.{get_member, as_str, as_array, as_object}
use Rattle.trees.specs.Members.{set_member}
use Rattle.objects.specs.Object.{object_at}
use Rattle.objects.specs.Status.{with_member}

-- the value, if it is a text
abbrev pub text_at : List ℕ → Members → Option (List ℕ)
text_at k ms = option_and_then as_str (get_member k ms)

-- the items of the value, if it is a list
abbrev pub items_at : List ℕ → Members → Option Items
items_at k ms = option_and_then as_array (get_member k ms)

-- the members of `metadata`
abbrev pub metadata_of : Data → Option Members
metadata_of body = option_and_then (object_at (codes "metadata")) (as_object body)

-- the text of the label of that name
abbrev pub label_of : Data → List ℕ → Option (List ℕ)
label_of body name = option_and_then (text_at name) (option_and_then (object_at (codes "labels")) (metadata_of body))

-- the items of `ownerReferences`, if it is a list
abbrev pub owner_references : Data → Option Items
owner_references body = option_and_then (items_at (codes "ownerReferences")) (metadata_of body)

-- the same, none if there is no list
abbrev pub owners_of : Data → Items
owners_of body = unwrap_or (owner_references body) no_items

-- the body whose `metadata.ownerReferences` are these, or that has none; all else stays as it is
abbrev pub with_owners : Option Items → Data → Data
with_owners owners body =
    let metadata = unwrap_or (metadata_of body) no_members in
    with_member (codes "metadata") (Some (object (set_member (codes "ownerReferences") (option_map array owners) metadata))) body
