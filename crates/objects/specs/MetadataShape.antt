-- The shape of two members of `metadata` (Kubernetes API reference, ObjectMeta): `labels` is an object of texts, and
-- `ownerReferences` is a list of objects, each with a text `uid`. Either may be missing, and `null` counts as missing.
use Rattle.std.specs.Prelude.{Bool, true, false, ◌&&◌, codes, Option, Some, None, option_and_then}
use Rattle.std.specs.Option.{is_some}
use Rattle.serde_json.specs.Data.{Data, null, boolean, number, string, array, object, Items, no_items, item, Members, no_members, member}
use Rattle.serde_json.specs.Find.{get, get_member, as_str}

-- each value is a text
abbrev pub are_texts : Members → Bool
are_texts no_members = true
are_texts (member k d ms) = is_some (as_str d) && are_texts ms

-- an object with a text `uid`
abbrev pub is_owner : Data → Bool
is_owner d = is_some (option_and_then as_str (get (codes "uid") d))

abbrev pub are_owners : Items → Bool
are_owners no_items = true
are_owners (item d ds) = is_owner d && are_owners ds

abbrev pub labels_fit : Option Data → Bool
labels_fit None = true
labels_fit (Some null) = true
labels_fit (Some (object ms)) = are_texts ms
labels_fit (Some (boolean b)) = false
labels_fit (Some (number n)) = false
labels_fit (Some (string s)) = false
labels_fit (Some (array ds)) = false

abbrev pub owners_fit : Option Data → Bool
owners_fit None = true
owners_fit (Some null) = true
owners_fit (Some (array ds)) = are_owners ds
owners_fit (Some (boolean b)) = false
owners_fit (Some (number n)) = false
owners_fit (Some (string s)) = false
owners_fit (Some (object ms)) = false

unfoldable pub metadata_fits : Members → Bool
metadata_fits ms = labels_fit (get_member (codes "labels") ms) && owners_fit (get_member (codes "ownerReferences") ms)
