-- The reading of an object (RFC 8259 for the text; Kubernetes API conventions for `kind`, `apiVersion` and `metadata`).
-- The tests are made in this order: TooLong, NotJson, NotWhole, NoKind, UnknownKind, BadName, BadMeta.
use Rattle.std.specs.Prelude.{ℕ, ◌^◌, nat_lt, List, [], length, codes, Option, Some, None, option_map, option_and_then, unwrap_or, Result, Ok, Err, if◌then◌else◌}
use Rattle.serde_json.specs.Data.{Data, null, boolean, number, string, array, object, Members, put}
use Rattle.serde_json.specs.Find.{get_member, as_object, as_str, as_u64}
use Rattle.objects.specs.declared.kind.Kind.{Kind}
use Rattle.objects.specs.declared.fault.ReadError.{ReadError}
use Rattle.objects.specs.declared.fault.ReadError.TheVariants.{NoKind, UnknownKind, BadName, BadMeta}
use Rattle.objects.specs.declared.object.Draft.{Draft}
unfoldable pub use Rattle.trees.specs.Reading.{tree_reading}
pub use Rattle.trees.specs.Reading.{most_bytes, read_within}
use Rattle.objects.specs.Steps.{◌>>=◌, required, guarded, as_read}
use Rattle.objects.specs.Kind.{kind_named, api_version}
use Rattle.objects.specs.Names.{is_dns_label}
use Rattle.objects.specs.Key.{KeyParts, is_key}
use Rattle.objects.specs.Meta.{MetaParts}
use Rattle.objects.specs.MetadataShape.{metadata_fits}
use Rattle.objects.specs.Object.{without_held, is_missing_or}
use Rattle.objects.specs.Uid.{uid_number, version_number}

-- the value of a text that is short enough, and whose numbers are whole
abbrev pub reading_of_data : List ℕ → Result Data ReadError
reading_of_data bytes = as_read (tree_reading bytes)

-- the kind that the member `kind` names
unfoldable pub kind_in : Members → Result Kind ReadError
kind_in ms = do
  name ← required NoKind (option_and_then as_str (get_member (codes "kind") ms))
  required UnknownKind (kind_named name)

-- `null` counts as missing
abbrev pub optional_text : ReadError → Option Data → Result (Option (List ℕ)) ReadError
optional_text e None = Ok None
optional_text e (Some null) = Ok None
optional_text e (Some (string s)) = Ok (Some s)
optional_text e (Some (boolean b)) = Err e
optional_text e (Some (number n)) = Err e
optional_text e (Some (array ds)) = Err e
optional_text e (Some (object ms)) = Err e

-- an empty text counts as missing
abbrev pub unless_empty : Option (List ℕ) → Option (List ℕ)
unless_empty None = None
unless_empty (Some s) = if nat_lt 0 (length s) then Some s else None

-- the namespace among these members; a missing one is `default`
unfoldable pub namespace_in : Members → Result (List ℕ) ReadError
namespace_in ms = optional_text BadName (get_member (codes "namespace") ms) >>= λ namespace. Ok (unwrap_or (unless_empty namespace) (codes "default"))

-- the name and the namespace among these members
unfoldable pub key_of : Kind → Members → Result KeyParts ReadError
key_of kind ms = do
  namespace ← namespace_in ms
  name ← optional_text BadName (get_member (codes "name") ms)
  let key : KeyParts = record { kind = kind; namespace = namespace; name = unwrap_or name [] } in guarded BadName (is_key key) key

-- the key that a request names
unfoldable pub key_in : Members → Result KeyParts ReadError
key_in ms = do
  kind ← kind_in ms
  key_of kind ms

-- the kind and the namespace that a request names
unfoldable pub collection_in : Members → Result (Kind × List ℕ) ReadError
collection_in ms = do
  kind ← kind_in ms
  namespace ← namespace_in ms
  guarded BadName (is_dns_label namespace) (kind, namespace)

-- `null` counts as missing, and a missing generation is 0
abbrev pub generation_of : Option Data → Result ℕ ReadError
generation_of None = Ok 0
generation_of (Some null) = Ok 0
generation_of (Some (number n)) = required BadMeta (as_u64 n) >>= λ g. guarded BadMeta (nat_lt g (2 ^ 63)) g
generation_of (Some (string s)) = Err BadMeta
generation_of (Some (boolean b)) = Err BadMeta
generation_of (Some (array ds)) = Err BadMeta
generation_of (Some (object ms)) = Err BadMeta

-- the members of `metadata` that the store sets, as they were read
pub record DraftMeta : Type 0 where
  pub uid : Option (List ℕ)
  pub version : Option (List ℕ)
  pub generation : ℕ
  pub deletion : Option (List ℕ)

abbrev pub draft_meta : Option (List ℕ) → Option (List ℕ) → ℕ → Option (List ℕ) → DraftMeta
draft_meta uid version generation deletion = record { uid = uid; version = version; generation = generation; deletion = deletion }

unfoldable pub draft_meta_in : Members → Result DraftMeta ReadError
draft_meta_in ms = do
  uid ← optional_text BadMeta (get_member (codes "uid") ms)
  version ← optional_text BadMeta (get_member (codes "resourceVersion") ms)
  deletion ← optional_text BadMeta (get_member (codes "deletionTimestamp") ms)
  generation ← generation_of (get_member (codes "generation") ms)
  Ok (draft_meta (unless_empty uid) (unless_empty version) generation deletion)

-- the numbers of a UID and a version are theirs if they are of the store's form, else 0
abbrev pub meta_of : DraftMeta → MetaParts
meta_of s = record {
  uid = unwrap_or (option_and_then uid_number s.uid) 0;
  revision = unwrap_or (option_map version_number s.version) 0;
  generation = s.generation;
  deletion = s.deletion;
}

-- an object of these parts; the held members leave the body
abbrev pub draft_parts : KeyParts → DraftMeta → Members → Members → Draft
draft_parts key s metadata ms = record {
  object = record { key = key; meta = meta_of s; body = object (put (codes "metadata") (object (without_held metadata)) ms) };
  uid = s.uid;
  version = s.version;
}

-- an object from its members: the kind, the name and the metadata
unfoldable pub draft_in : Members → Result Draft ReadError
draft_in ms = do
  named ← kind_in ms
  kind ← guarded UnknownKind (is_missing_or (api_version named) (get_member (codes "apiVersion") ms)) named
  metadata ← required BadName (option_and_then as_object (get_member (codes "metadata") ms))
  key ← key_of kind metadata
  fitting ← guarded BadMeta (metadata_fits metadata) metadata
  s ← draft_meta_in fitting
  Ok (draft_parts key s metadata ms)

unfoldable pub draft_of : Data → Result Draft ReadError
draft_of d = required NoKind (as_object d) >>= draft_in

-- the reading of bytes
unfoldable pub reading : List ℕ → Result Draft ReadError
reading bytes = reading_of_data bytes >>= draft_of
