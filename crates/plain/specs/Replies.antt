-- The line of each reply: compact JSON with keys in byte order, and the HTTP status that the API would give.
use Rattle.std.specs.Prelude.{ℕ, List, [], ◌∷◌, codes, decimal}
use Rattle.serde_json.specs.Data.{Data, number, unsigned, string, array, Items, no_items, item, object, no_members, member}
use Rattle.objects.specs.declared.object.Object.{Object}
use Rattle.objects.specs.declared.fault.ReadError.{ReadError}
use Rattle.objects.specs.declared.fault.ReadError.TheVariants as read
use Rattle.objects.specs.Text.{printed}
use Rattle.requests.specs.declared.reply.Reply.{Reply}
use Rattle.requests.specs.declared.reply.Reply.TheVariants.{Created, Found, Listed, Updated, Unchanged, Marked, Removed, Compacted, Refused}
use Rattle.requests.specs.Reasons.{reason_code, reason_name}
use Rattle.plain.specs.declared.lines.request_error.RequestError.{RequestError}
use Rattle.plain.specs.declared.lines.request_error.RequestError.TheVariants as errors

-- the name of the refusal of a line
abbrev pub read_error_name : ReadError → List ℕ
read_error_name read.NotJson = codes "NotJson"
read_error_name read.NotWhole = codes "NotWhole"
read_error_name read.NoKind = codes "NoKind"
read_error_name read.UnknownKind = codes "UnknownKind"
read_error_name read.BadName = codes "BadName"
read_error_name read.BadMeta = codes "BadMeta"
read_error_name read.TooLong = codes "TooLong"
read_error_name read.Memory = codes "Memory"

abbrev pub error_name : RequestError → List ℕ
error_name (errors.Read e) = read_error_name e
error_name errors.NoVerb = codes "NoVerb"
error_name errors.UnknownVerb = codes "UnknownVerb"
error_name errors.BadField = codes "BadField"

-- `{"code":C,"object":O,"result":R}`
abbrev pub with_object : ℕ → Object → List ℕ → Data
with_object code o result =
    object (member (codes "code") (number (unsigned code)) (member (codes "object") (printed o) (member (codes "result") (string result) no_members)))

-- `{"code":C,"reason":R}`
abbrev pub with_reason : ℕ → List ℕ → Data
with_reason code reason = object (member (codes "code") (number (unsigned code)) (member (codes "reason") (string reason) no_members))

abbrev pub printed_items : List Object → Items
printed_items [] = no_items
printed_items (o ∷ os) = item (printed o) (printed_items os)

-- `{"code":200,"items":[O,..],"resourceVersion":"V","result":"Listed"}`
abbrev pub with_items : List Object → ℕ → Data
with_items os revision =
    object (member (codes "code") (number (unsigned 200)) (member (codes "items") (array (printed_items os)) (member (codes "resourceVersion") (string (decimal revision)) (member (codes "result") (string (codes "Listed")) no_members))))

-- `{"code":200,"resourceVersion":"V","result":"Compacted"}`
abbrev pub with_revision : ℕ → Data
with_revision revision =
    object (member (codes "code") (number (unsigned 200)) (member (codes "resourceVersion") (string (decimal revision)) (member (codes "result") (string (codes "Compacted")) no_members)))

abbrev pub reply_data : Reply → Data
reply_data (Created o) = with_object 201 o (codes "Created")
reply_data (Found o) = with_object 200 o (codes "Found")
reply_data (Listed os revision) = with_items os revision
reply_data (Updated o) = with_object 200 o (codes "Updated")
reply_data (Unchanged o) = with_object 200 o (codes "Unchanged")
reply_data (Marked o) = with_object 200 o (codes "Marked")
reply_data (Removed o) = with_object 200 o (codes "Removed")
reply_data (Compacted revision) = with_revision revision
reply_data (Refused reason) = with_reason (reason_code reason) (reason_name reason)

-- a line that is no request
abbrev pub error_data : RequestError → Data
error_data e = with_reason 400 (error_name e)
