-- The operation that a request's `do` names.
use Rattle.std.specs.Prelude.{ℕ, List, codes, bytes_eq, Option, Some, None, option_and_then, Result, Ok, if◌then◌else◌}
use Rattle.serde_json.specs.Data.{Members}
use Rattle.serde_json.specs.Find.{as_str, get_member}
use Rattle.objects.specs.Reading.{key_in}
use Rattle.objects.specs.declared.object.Draft.{Draft}
use Rattle.requests.specs.declared.request.Request.{Request}
use Rattle.requests.specs.declared.request.Request.TheVariants.{Create, Get, Update, UpdateStatus}
use Rattle.plain.specs.declared.lines.request_error.RequestError.{RequestError}
use Rattle.plain.specs.declared.lines.request_error.RequestError.TheVariants as errors
use Rattle.plain.specs.declared.lines.verb.Verb.{Verb}
use Rattle.plain.specs.declared.lines.verb.Verb.TheVariants as verb
use Rattle.plain.specs.RequestParts.{◌>>=◌, required, lifted, object_draft, list_in, deletion_in, compaction_in}

-- the verb of that name
abbrev pub verb_named : List ℕ → Option Verb
verb_named s =
    if bytes_eq s (codes "create") then Some verb.Create
    else if bytes_eq s (codes "get") then Some verb.Get
    else if bytes_eq s (codes "list") then Some verb.List
    else if bytes_eq s (codes "update") then Some verb.Update
    else if bytes_eq s (codes "status") then Some verb.Status
    else if bytes_eq s (codes "delete") then Some verb.Delete
    else if bytes_eq s (codes "compact") then Some verb.Compact
    else None

unfoldable pub verb_in : Members → Result Verb RequestError
verb_in ms = do
  name ← required errors.NoVerb (option_and_then as_str (get_member (codes "do") ms))
  required errors.UnknownVerb (verb_named name)

unfoldable pub request_by : Verb → Members → Result Request RequestError
request_by verb.Create ms = lifted (object_draft (get_member (codes "object") ms)) >>= λ d. Ok (Create d)
request_by verb.Get ms = lifted (key_in ms) >>= λ k. Ok (Get k)
request_by verb.List ms = list_in ms
request_by verb.Update ms = lifted (object_draft (get_member (codes "object") ms)) >>= λ d. Ok (Update d)
request_by verb.Status ms = lifted (object_draft (get_member (codes "object") ms)) >>= λ d. Ok (UpdateStatus d)
request_by verb.Delete ms = deletion_in ms
request_by verb.Compact ms = compaction_in ms

-- the write that a verb makes of a draft, if it makes one
abbrev pub write_of : Verb → Draft → Option Request
write_of verb.Create d = Some (Create d)
write_of verb.Get d = None
write_of verb.List d = None
write_of verb.Update d = Some (Update d)
write_of verb.Status d = Some (UpdateStatus d)
write_of verb.Delete d = None
write_of verb.Compact d = None
