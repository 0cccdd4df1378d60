-- What the lines of a picture say of requests and of replies.
use Rattle.std.specs.Prelude.{ℕ, List, [], ◌++◌, Option, Some, None, codes, decimal, length, if◌then◌else◌, ◌==◌}
use Rattle.objects.specs.Kind.{kind_name}
use Rattle.objects.specs.ShardOf.{key_text}
use Rattle.objects.specs.Uid.{version_number}
use Rattle.objects.specs.declared.kind.Kind.{Kind}
use Rattle.objects.specs.declared.object.Object.{Object}
use Rattle.requests.specs.declared.request.Request.{Request}
use Rattle.requests.specs.declared.request.Request.TheVariants as request
use Rattle.requests.specs.declared.reply.Reply.{Reply}
use Rattle.requests.specs.declared.reply.Reply.TheVariants.{Created, Found, Listed, Updated, Unchanged, Marked, Removed, Compacted, Refused}
use Rattle.requests.specs.Reasons.{reason_name}

-- an exact list names its number
abbrev pub list_words : Kind → (namespace : List ℕ) → (exact : ℕ) → List ℕ
list_words kind namespace exact =
    codes "list " ++ kind_name kind ++ codes "/" ++ namespace ++ (if exact == 0 then codes "" else codes " at " ++ decimal exact)

-- The version in the precondition of a write. A text that is no version, whose number is 0, is not repeated: it may
-- hold anything.
abbrev pub number_words : ℕ → List ℕ
number_words number = if number == 0 then codes " at an unknown version" else codes " at " ++ decimal number

abbrev pub version_words : Option (List ℕ) → List ℕ
version_words None = []
version_words (Some text) = number_words (version_number text)

abbrev pub request_words : Request → List ℕ
request_words (request.Create d) = codes "create " ++ key_text d.object.key
request_words (request.Get k) = codes "get " ++ key_text k
request_words (request.List kind namespace exact) = list_words kind namespace exact
request_words (request.Update d) = (codes "update " ++ key_text d.object.key) ++ version_words d.version
request_words (request.UpdateStatus d) = (codes "status " ++ key_text d.object.key) ++ version_words d.version
request_words (request.Delete k uid version at) = (codes "delete " ++ key_text k) ++ version_words version
request_words (request.Compact to) = codes "compact to " ++ decimal to

-- `Created, version 7`
abbrev pub object_words : (name : List ℕ) → Object → List ℕ
object_words name o = name ++ codes ", version " ++ decimal o.meta.revision

-- `Listed 3, version 7`
abbrev pub count_words : (count revision : ℕ) → List ℕ
count_words count revision = codes "Listed " ++ (decimal count ++ (codes ", version " ++ decimal revision))

abbrev pub reply_words : Reply → List ℕ
reply_words (Created o) = object_words (codes "Created") o
reply_words (Found o) = object_words (codes "Found") o
reply_words (Listed os revision) = count_words (length os) revision
reply_words (Updated o) = object_words (codes "Updated") o
reply_words (Unchanged o) = object_words (codes "Unchanged") o
reply_words (Marked o) = object_words (codes "Marked") o
reply_words (Removed o) = object_words (codes "Removed") o
reply_words (Compacted revision) = codes "Compacted, version " ++ decimal revision
reply_words (Refused reason) = reason_name reason
