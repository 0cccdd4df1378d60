-- An object: what names it, what the store knows of it, and its body, which holds all other members.
use Rattle.std.specs.Prelude.{◌≡◌, ℕ, Bool, true, false, ◌||◌, List, codes, bytes_eq, Option, Some, option_and_then, refl, if◌then◌else◌}
use Rattle.std.specs.Option.{option_map_or}
use Rattle.std.specs.Coded.{Coded, code_by, coded×}
use Rattle.serde_json.specs.Data.{Data, string, object, Members, no_members, member}
use Rattle.serde_json.specs.Find.{get_member, as_object, as_str}
use Rattle.objects.specs.declared.kind.Kind.{Kind}
use Rattle.trees.specs.Codes.{data_coded}
use Rattle.objects.specs.Kind.{kind_name, api_version}
use Rattle.objects.specs.Key.{KeyParts, key_coded, is_key}
use Rattle.objects.specs.Meta.{MetaParts, meta_coded, IsMeta}
use Rattle.objects.specs.MetadataShape.{labels_fit, owners_fit}

pub record ObjectParts : Type 0 where
  pub key : KeyParts
  pub meta : MetaParts
  pub body : Data

abbrev pub object_coded : Coded ObjectParts
object_coded =
    code_by (KeyParts × (MetaParts × Data)) (coded× key_coded (coded× meta_coded data_coded))
    (λ o. (o.key, (o.meta, o.body))) (λ p. record { key = p.0; meta = p.1.0; body = p.1.1 }) (λ _. refl)

-- the six members of `metadata` that the key and the meta hold
abbrev pub is_held : List ℕ → Bool
is_held k =
    bytes_eq k (codes "deletionTimestamp") || bytes_eq k (codes "generation") || bytes_eq k (codes "name")
    || bytes_eq k (codes "namespace") || bytes_eq k (codes "resourceVersion") || bytes_eq k (codes "uid")

-- the members without the held ones
abbrev pub without_held : Members → Members
without_held no_members = no_members
without_held (member k d ms) = if is_held k then without_held ms else member k d (without_held ms)

abbrev pub has_held : Members → Bool
has_held no_members = false
has_held (member k d ms) = is_held k || has_held ms

-- the value is this text
abbrev pub is_text : List ℕ → Data → Bool
is_text s d = option_map_or (bytes_eq s) (as_str d) false

-- the members of the value, if it is an object
abbrev pub object_at : List ℕ → Members → Option Members
object_at k ms = option_and_then as_object (get_member k ms)

abbrev pub is_missing_or : List ℕ → Option Data → Bool
is_missing_or s found = option_map_or (is_text s) found true

-- The body says its kind, may say its API version, and has a `metadata` without the held members, whose `labels` and
-- `ownerReferences` have their shape.
pub record IsBody (kind : Kind) (body : Data) : Type 0 where
  pub members : Members
  pub metadata : Members
  pub made_of : body ≡ object members
  pub kind_member : get_member (codes "kind") members ≡ Some (string (kind_name kind))
  pub version_member : is_missing_or (api_version kind) (get_member (codes "apiVersion") members) ≡ true
  pub metadata_member : get_member (codes "metadata") members ≡ Some (object metadata)
  pub none_held : has_held metadata ≡ false
  pub labels_member : labels_fit (get_member (codes "labels") metadata) ≡ true
  pub owners_member : owners_fit (get_member (codes "ownerReferences") metadata) ≡ true

-- these members say the kind, and no other API version
pub record SaysKind (kind : Kind) (members : Members) : Type 0 where
  pub kind_member : get_member (codes "kind") members ≡ Some (string (kind_name kind))
  pub version_member : is_missing_or (api_version kind) (get_member (codes "apiVersion") members) ≡ true

-- what the types of an object's parts keep: the rules of names, the ranges of numbers, and what the body says
pub record KeepsRules (o : ObjectParts) : Type 0 where
  pub key : is_key o.key ≡ true
  pub meta : IsMeta o.meta
  pub body : IsBody o.key.kind o.body
