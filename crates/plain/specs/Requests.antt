-- The request that a line is, or the first refusal. The tests are made in this order: TooLong, NotJson, NotWhole,
-- NoVerb, UnknownVerb, those of the object, the key or the collection, and last BadField.
use Rattle.std.specs.Prelude.{◌≡◌, ℕ, List, Result, Ok, Err, ⊤}
use Rattle.serde_json.specs.Data.{Data}
use Rattle.serde_json.specs.Find.{as_object}
use Rattle.objects.specs.declared.fault.ReadError.TheVariants as read
use Rattle.objects.specs.Reading.{reading_of_data}
use Rattle.requests.specs.declared.request.Request.{Request}
use Rattle.plain.specs.declared.lines.request_error.RequestError.{RequestError}
use Rattle.plain.specs.declared.lines.request_error.RequestError.TheVariants as errors
pub use Rattle.plain.specs.RequestParts.{◌>>=◌, exact_in, field_text, lifted, named_in, object_draft, required, stored_number}
unfoldable pub use Rattle.plain.specs.RequestParts.{compaction_in, deletion_in, list_in}
use Rattle.plain.specs.Verbs.{request_by, verb_in}

-- the request that a value is
unfoldable pub request_in : Data → Result Request RequestError
request_in d = do
  ms ← required errors.NoVerb (as_object d)
  verb ← verb_in ms
  request_by verb ms

unfoldable pub request_of : List ℕ → Result Request RequestError
request_of line = lifted (reading_of_data line) >>= request_in

-- reading refuses with e; nothing is said if memory ran out
abbrev pub Refuses : {A : Type 0} → RequestError → Result A RequestError → Type 0
Refuses (errors.Read read.Memory) reading = ⊤
Refuses e reading = reading ≡ Err e

-- what a function returned is what reading gives, unless memory ran out
abbrev pub Answers : {A : Type 0} → Result A RequestError → Result A RequestError → Type 0
Answers (Ok x) reading = reading ≡ Ok x
Answers (Err e) reading = Refuses e reading
