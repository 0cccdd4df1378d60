-- A request as a request line of `serve`, a value with its members in byte order; and which requests are read back from
-- it.
use Rattle.std.specs.Prelude.{◌≡◌, ◌<◌, ◌^◌, ◌==◌, ◌&&◌, ℕ, List, [], ◌∷◌, codes, decimal, length, bytes_eq, Bool, not, true, Option, Some, None, IfSome, option_map, unwrap_or}
use Rattle.json.specs.Token as token
use Rattle.json.specs.Token.{Token}
use Rattle.serde_json.specs.Data.{Data, string, object, Members, no_members, member, put}
use Rattle.serde_json.specs.Find.{as_object}
use Rattle.trees.specs.Building.{put_some}
use Rattle.trees.specs.Canonical.{IsCanonical}
use Rattle.objects.specs.declared.kind.Kind.{Kind}
use Rattle.objects.specs.declared.object.Draft.{Draft}
use Rattle.objects.specs.declared.object.Object.{Object}
use Rattle.objects.specs.Again.{draft_again_of, text_unless_zero}
use Rattle.objects.specs.Key.{KeyParts, is_key}
use Rattle.objects.specs.Kind.{kind_name}
use Rattle.objects.specs.Names.{is_dns_label}
use Rattle.objects.specs.Object.{KeepsRules, object_at}
use Rattle.objects.specs.Reading.{draft_meta, meta_of}
use Rattle.objects.specs.Text.{full_metadata}
use Rattle.objects.specs.Uid.{uid_text}
use Rattle.requests.specs.declared.request.Request.{Request}
use Rattle.requests.specs.declared.request.Request.TheVariants as request

-- the object with neither a UID nor a resource version, for which 0 stands
abbrev pub unnumbered : Object → Object
unnumbered o = record {
  key = o.key;
  meta = record { uid = 0; revision = 0; generation = o.meta.generation; deletion = o.meta.deletion };
  body = o.body;
}

-- the metadata in full, with the UID and the resource version that the draft gives
abbrev pub draft_metadata : Draft → Members → Members
draft_metadata d ms =
    full_metadata (unnumbered d.object) (put_some (codes "resourceVersion") (option_map string d.version) (put_some (codes "uid") (option_map string d.uid) ms))

-- the object of a draft as JSON: as it is printed, but with the texts that the draft gives, also if they are none of
-- the store's; a text that is not given is left out
unfoldable pub printed_draft : Draft → Data
printed_draft d =
    let members = unwrap_or (as_object d.object.body) no_members in
    let metadata = unwrap_or (object_at (codes "metadata") members) no_members in
    object (put (codes "metadata") (object (draft_metadata d metadata)) members)

-- a text, if it is given
abbrev pub member_if : List ℕ → Option (List ℕ) → Members → Members
member_if k None ms = ms
member_if k (Some s) ms = member k (string s) ms

-- `{"do":W,"object":O}`
abbrev pub with_draft : List ℕ → Draft → Data
with_draft verb d = object (member (codes "do") (string verb) (member (codes "object") (printed_draft d) no_members))

-- `"kind":K,"name":N,"namespace":S`, and the members after them
abbrev pub key_members : KeyParts → Members → Members
key_members key ms =
    member (codes "kind") (string (kind_name key.kind)) (member (codes "name") (string key.name) (member (codes "namespace") (string key.namespace) ms))

-- `{"do":"get","kind":K,"name":N,"namespace":S}`
abbrev pub get_data : KeyParts → Data
get_data key = object (member (codes "do") (string (codes "get")) (key_members key no_members))

-- `{"do":"list","kind":K,"namespace":S,"resourceVersion":V}`; the version is left out if it is 0, which means the
-- newest
abbrev pub list_data : Kind → List ℕ → ℕ → Data
list_data kind namespace exact =
    object (member (codes "do") (string (codes "list")) (member (codes "kind") (string (kind_name kind)) (member (codes "namespace") (string namespace)
    (member_if (codes "resourceVersion") (text_unless_zero exact (decimal exact)) no_members))))

-- `{"at":T,"do":"delete","kind":K,"name":N,"namespace":S,"resourceVersion":V,"uid":U}`; the time, the version and the
-- UID only if they are given
abbrev pub deletion_data : KeyParts → (uid version at : Option (List ℕ)) → Data
deletion_data key uid version at =
    object (member_if (codes "at") at (member (codes "do") (string (codes "delete"))
    (key_members key (member_if (codes "resourceVersion") version (member_if (codes "uid") uid no_members)))))

-- `{"do":"compact","resourceVersion":V}`
abbrev pub compaction_data : ℕ → Data
compaction_data to = object (member (codes "do") (string (codes "compact")) (member (codes "resourceVersion") (string (decimal to)) no_members))

abbrev pub request_data : Request → Data
request_data (request.Create d) = with_draft (codes "create") d
request_data (request.Get key) = get_data key
request_data (request.List kind namespace exact) = list_data kind namespace exact
request_data (request.Update d) = with_draft (codes "update") d
request_data (request.UpdateStatus d) = with_draft (codes "status") d
request_data (request.Delete key uid version at) = deletion_data key uid version at
request_data (request.Compact to) = compaction_data to

-- ---- what reads back

-- an empty text counts as none
abbrev pub IsNotEmpty : Option (List ℕ) → Type 0
IsNotEmpty text = IfSome text (λ s. 0 < length s)

-- a draft as a line gives it: its texts may be any that are not empty, and the numbers of its object are theirs
pub record IsReadableDraft (d : Draft) : Type 0 where
  pub uid : IsNotEmpty d.uid
  pub version : IsNotEmpty d.version
  pub numbers : meta_of (draft_meta d.uid d.version d.object.meta.generation d.object.meta.deletion) ≡ d.object.meta
  pub rules : KeepsRules d.object
  pub canonical : IsCanonical d.object.body

-- a UID and a resource version are given if the object has them, and then as the object's own
pub record IsOfItsObject (d : Draft) : Type 0 where
  pub again : d ≡ draft_again_of d.object
  pub rules : KeepsRules d.object
  pub canonical : IsCanonical d.object.body

abbrev pub IsReadable : Request → Type 0
IsReadable (request.Create d) = IsReadableDraft d
IsReadable (request.Get key) = is_key key ≡ true
IsReadable (request.List kind namespace exact) = (is_dns_label namespace ≡ true) × (exact < 2 ^ 64)
IsReadable (request.Update d) = IsReadableDraft d
IsReadable (request.UpdateStatus d) = IsReadableDraft d
IsReadable (request.Delete key uid version at) = (is_key key ≡ true) × IsNotEmpty uid × IsNotEmpty version × IsNotEmpty at
IsReadable (request.Compact to) = (0 < to) × (to < 2 ^ 64)

-- ---- for private clauses

-- the text is that of the number; no text is that of 0
abbrev pub is_text_of : ℕ → List ℕ → Option (List ℕ) → Bool
is_text_of n s None = n == 0
is_text_of n s (Some t) = not (n == 0) && bytes_eq t s

abbrev pub has_own_texts : Draft → Bool
has_own_texts d =
    is_text_of d.object.meta.uid (uid_text d.object.meta.uid) d.uid && is_text_of d.object.meta.revision (decimal d.object.meta.revision) d.version

abbrev pub optional_tokens : List ℕ → Option (List ℕ) → List Token
optional_tokens k None = []
optional_tokens k (Some s) = token.key k ∷ token.string s ∷ []

abbrev pub key_tokens : KeyParts → List Token
key_tokens key =
    token.key (codes "kind") ∷ token.string (kind_name key.kind) ∷ token.key (codes "name") ∷ token.string key.name
    ∷ token.key (codes "namespace") ∷ token.string key.namespace ∷ []
