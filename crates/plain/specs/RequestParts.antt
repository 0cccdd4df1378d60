-- What the members of a request line say, or the first refusal.
use Rattle.std.specs.Prelude.{ℕ, ◌==◌, List, codes, bytes_eq, Option, Some, None, Result, Ok, Err, if◌then◌else◌}
use Rattle.serde_json.specs.Data.{Data, null, boolean, number, string, array, object, Members}
use Rattle.serde_json.specs.Find.{get_member}
pub use Rattle.trees.specs.Steps.{◌>>=◌, required}
use Rattle.objects.specs.declared.fault.ReadError.{ReadError}
use Rattle.objects.specs.declared.fault.ReadError.TheVariants as read
use Rattle.objects.specs.declared.object.Draft.{Draft}
use Rattle.objects.specs.Reading.{draft_of, key_in, collection_in, unless_empty}
use Rattle.objects.specs.Uid.{version_number}
use Rattle.requests.specs.declared.request.Request.{Request}
use Rattle.requests.specs.declared.request.Request.TheVariants as request
use Rattle.requests.specs.declared.request.Request.TheVariants.{Create, Get, Update, UpdateStatus, Delete, Compact}
use Rattle.plain.specs.declared.lines.request_error.RequestError.{RequestError}
use Rattle.plain.specs.declared.lines.request_error.RequestError.TheVariants as errors

-- a step of reading objects, as a step of reading requests
abbrev pub lifted : {A : Type 0} → Result A ReadError → Result A RequestError
lifted (Ok x) = Ok x
lifted (Err e) = Err (errors.Read e)

-- the object of a request; a missing one has no kind
abbrev pub object_draft : Option Data → Result Draft ReadError
object_draft None = Err read.NoKind
object_draft (Some d) = draft_of d

-- a member of a request that may be a text; `null` and an empty text count as missing
abbrev pub field_text : Option Data → Result (Option (List ℕ)) RequestError
field_text None = Ok None
field_text (Some null) = Ok None
field_text (Some (string s)) = Ok (unless_empty (Some s))
field_text (Some (boolean b)) = Err errors.BadField
field_text (Some (number n)) = Err errors.BadField
field_text (Some (array ds)) = Err errors.BadField
field_text (Some (object ms)) = Err errors.BadField

-- the number of a resource version; a text of another form than the store's is refused
abbrev pub stored_number : List ℕ → Result ℕ RequestError
stored_number s = if version_number s == 0 then Err errors.BadField else Ok (version_number s)

-- the exact resource version of a list, 0 for none: "0" requests none, as a missing one does
abbrev pub exact_number : Option (List ℕ) → Result ℕ RequestError
exact_number None = Ok 0
exact_number (Some s) = if bytes_eq s (codes "0") then Ok 0 else stored_number s

-- the resource version of a compaction, which has to name one
abbrev pub named_number : Option (List ℕ) → Result ℕ RequestError
named_number None = Err errors.BadField
named_number (Some s) = stored_number s

abbrev pub version_field : Members → Result (Option (List ℕ)) RequestError
version_field ms = field_text (get_member (codes "resourceVersion") ms)

abbrev pub exact_in : Members → Result ℕ RequestError
exact_in ms = version_field ms >>= exact_number

abbrev pub named_in : Members → Result ℕ RequestError
named_in ms = version_field ms >>= named_number

-- the collection to list, and the resource version at which it is read
unfoldable pub list_in : Members → Result Request RequestError
list_in ms = do
  collection ← lifted (collection_in ms)
  exact ← exact_in ms
  Ok (request.List collection.0 collection.1 exact)

unfoldable pub compaction_in : Members → Result Request RequestError
compaction_in ms = named_in ms >>= λ to. Ok (Compact to)

-- the object to delete, the UID and the version that it has to have, and the time of a graceful deletion
unfoldable pub deletion_in : Members → Result Request RequestError
deletion_in ms = do
  key ← lifted (key_in ms)
  uid ← field_text (get_member (codes "uid") ms)
  version ← version_field ms
  at ← field_text (get_member (codes "at") ms)
  Ok (Delete key uid version at)
