-- What a caller asks, as a line has it.
use Rattle.std.specs.Prelude.{ℕ, ◌&&◌, Bool, true, false, not, is_some, List, [], ◌∷◌, codes, bytes_eq, Option, Some, None, option_map, if◌then◌else◌}
use Rattle.std.specs.List.{list_any}
use Rattle.std.specs.Option.{option_map_or}
use Rattle.serde_json.specs.Data.{Data, Members, no_members, member}
use Rattle.serde_json.specs.Find.{as_object, as_str, get_member}
use Rattle.plain.specs.Requests as plain
use Rattle.scripts.specs.Events.{◌>>=◌, text_in, unless_refused}
use Rattle.participants.specs.declared.caller.Asked.{Asked}
use Rattle.participants.specs.declared.caller.Asked.TheVariants as asked
use Rattle.participants.specs.declared.caller.Verb.{Verb}
use Rattle.participants.specs.declared.caller.Verb.TheVariants as verb

-- ---- members

abbrev pub is_among : (names : List (List ℕ)) → (name : List ℕ) → Bool
is_among names name = list_any (bytes_eq name) names

-- each member has one of these names
abbrev pub are_named : (names : List (List ℕ)) → Members → Bool
are_named names no_members = true
are_named names (member k d ms) = is_among names k && are_named names ms

abbrev pub has : List ℕ → Members → Bool
has name ms = is_some (get_member name ms)

-- ---- a patch of the object that the caller was last told

abbrev pub patched_metadata : List (List ℕ)
patched_metadata = codes "annotations" ∷ codes "labels" ∷ codes "ownerReferences" ∷ codes "resourceVersion" ∷ codes "uid" ∷ []

abbrev pub is_metadata_patch : Data → Bool
is_metadata_patch d = option_map_or (are_named patched_metadata) (as_object d) false

-- It leaves what names the object, and its kind.
abbrev pub is_patch : Members → Bool
is_patch ms = not (has (codes "kind") ms) && (not (has (codes "apiVersion") ms) && option_map_or is_metadata_patch (get_member (codes "metadata") ms) true)

abbrev pub patch_of : Data → Option Members
patch_of d = as_object d >>= λ ms. if is_patch ms then Some ms else None

-- ---- what is done with that object

abbrev pub verb_named : (word : List ℕ) → Option Verb
verb_named word =
    if bytes_eq word (codes "get") then Some verb.Get
    else if bytes_eq word (codes "update") then Some verb.Update
    else if bytes_eq word (codes "status") then Some verb.UpdateStatus
    else if bytes_eq word (codes "delete") then Some (verb.Delete None)
    else None

-- only a delete may have a time, a text
abbrev pub verb_at : (word : List ℕ) → (at : Option Data) → Option Verb
verb_at word None = verb_named word
verb_at word (Some at) = if bytes_eq word (codes "delete") then option_map (λ s. verb.Delete (Some s)) (as_str at) else None

abbrev pub verb_in : Members → Option Verb
verb_in ms = text_in (codes "do") ms >>= λ word. verb_at word (get_member (codes "at") ms)

-- `{"do":D,"last":P}`, with a delete also `"at":T`, and nothing else
abbrev pub last_in : Members → (last : Data) → Option Asked
last_in ms last = if are_named (codes "at" ∷ codes "do" ∷ codes "last" ∷ []) ms then (do
  v ← verb_in ms
  patch ← patch_of last
  Some (asked.Last v patch)) else None

-- a request line of `serve`
abbrev pub request_asked : Data → Option Asked
request_asked d = option_map asked.Request (unless_refused (plain.request_in d))

-- what has `last`, or else a request line
abbrev pub asked_by : Data → Members → (last : Option Data) → Option Asked
asked_by d ms None = request_asked d
asked_by d ms (Some last) = last_in ms last

unfoldable pub asked_of : Data → Option Asked
asked_of d = as_object d >>= λ ms. asked_by d ms (get_member (codes "last") ms)

-- ---- what it waits for

-- the results of requests, and the reasons of refusals
abbrev pub reply_words : List (List ℕ)
reply_words =
    codes "Created" ∷ codes "Found" ∷ codes "Listed" ∷ codes "Updated" ∷ codes "Unchanged" ∷ codes "Marked" ∷ codes "Removed" ∷ codes "Compacted"
    ∷ codes "NotFound" ∷ codes "AlreadyExists" ∷ codes "Conflict" ∷ codes "Invalid" ∷ codes "StoreFull" ∷ codes "Expired" ∷ codes "TooLarge" ∷ []

abbrev pub reply_word : Data → Option (List ℕ)
reply_word d = as_str d >>= λ word. if is_among reply_words word then Some word else None

abbrev pub waited_for : (value : Option Data) → Option (Option (List ℕ))
waited_for None = Some None
waited_for (Some d) = option_map Some (reply_word d)

abbrev pub only_if_in : Members → Option (Option (List ℕ))
only_if_in ms = waited_for (get_member (codes "if") ms)
