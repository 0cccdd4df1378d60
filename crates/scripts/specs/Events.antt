-- The event of a line of a script, if it is one.
use Rattle.std.specs.Prelude.{◌≡◌, ℕ, List, codes, bytes_eq, Option, Some, None, option_map, option_and_then, Result, Ok, Err, if◌then◌else◌, ⊤}
use Rattle.serde_json.specs.Data.{Data, null, boolean, number, string, array, object, Members}
use Rattle.serde_json.specs.Find.{as_object, as_str, as_u64, get_member}
use Rattle.trees.specs.Reading.{tree_reading}
use Rattle.requests.specs.declared.request.Request.{Request}
use Rattle.objects.specs.declared.fault.ReadError.{ReadError}
use Rattle.objects.specs.declared.fault.ReadError.TheVariants as read
use Rattle.plain.specs.declared.lines.request_error.RequestError.{RequestError}
use Rattle.plain.specs.declared.lines.request_error.RequestError.TheVariants as request
use Rattle.plain.specs.Requests as plain
use Rattle.interleavings.specs.declared.event.Event.{Event}
use Rattle.interleavings.specs.declared.event.Event.TheVariants as event
use Rattle.scripts.specs.declared.fault.ScriptError.{ScriptError}
use Rattle.scripts.specs.declared.fault.ScriptError.TheVariants as errors
use Rattle.scripts.specs.declared.step.CallerStep.{CallerStep}
use Rattle.scripts.specs.declared.step.CallerStep.TheVariants as step

infixl 10 ◌>>=◌
abbrev pub ◌>>=◌ : {A B : Type 0} → Option A → (A → Option B) → Option B
None >>= f = None
(Some x) >>= f = f x

-- what a step of reading gives, whatever it refuses
abbrev pub unless_refused : {A E : Type 0} → Result A E → Option A
unless_refused (Ok x) = Some x
unless_refused (Err e) = None

-- the value of a line: JSON whose numbers are whole
abbrev pub value_of : List ℕ → Option Data
value_of line = unless_refused (tree_reading line)

-- the members of the object in a line
abbrev pub line_members : List ℕ → Option Members
line_members line = value_of line >>= as_object

abbrev pub text_in : List ℕ → Members → Option (List ℕ)
text_in name ms = option_and_then as_str (get_member name ms)

-- a whole number from 0 up that fits 64 bits
abbrev pub count_of : Data → Option ℕ
count_of (number n) = as_u64 n
count_of null = None
count_of (boolean b) = None
count_of (string s) = None
count_of (array ds) = None
count_of (object ms) = None

abbrev pub count_in : List ℕ → Members → Option ℕ
count_in name ms = option_and_then count_of (get_member name ms)

-- the step of this name
abbrev pub step_named : List ℕ → Option CallerStep
step_named s =
    if bytes_eq s (codes "check") then Some step.Check
    else if bytes_eq s (codes "reserve") then Some step.Reserve
    else if bytes_eq s (codes "publish") then Some step.Publish
    else if bytes_eq s (codes "read") then Some step.Read
    else if bytes_eq s (codes "readat") then Some step.ReadAt
    else if bytes_eq s (codes "compact") then Some step.Compact
    else if bytes_eq s (codes "part") then Some step.Part
    else if bytes_eq s (codes "reply") then Some step.Reply
    else if bytes_eq s (codes "crash") then Some step.Crash
    else None

-- a step of one caller
abbrev pub event_at : CallerStep → ℕ → Event
event_at step.Check caller = event.Check caller
event_at step.Reserve caller = event.Reserve caller
event_at step.Publish caller = event.Publish caller
event_at step.Read caller = event.Read caller
event_at step.ReadAt caller = event.ReadAt caller
event_at step.Compact caller = event.Compact caller
event_at step.Part caller = event.Part caller
event_at step.Reply caller = event.Reply caller
event_at step.Crash caller = event.Crash caller

-- the event of this name without a request: `raise`, or a step of the caller that the line names
abbrev pub step_in : (word : List ℕ) → Members → Option Event
step_in word ms =
    if bytes_eq word (codes "raise") then Some event.Raise
    else step_named word >>= λ s. option_map (event_at s) (count_in (codes "caller") ms)

-- the request that is called, as a request line of `serve` has it
abbrev pub request_in : Members → Option Request
request_in ms = get_member (codes "request") ms >>= λ d. unless_refused (plain.request_in d)

abbrev pub call_in : Members → Option Event
call_in ms = do
  caller ← count_in (codes "caller") ms
  request ← request_in ms
  Some (event.Call caller request)

abbrev pub event_by : (word : List ℕ) → Members → Option Event
event_by word ms = if bytes_eq word (codes "call") then call_in ms else step_in word ms

-- the event that the member `event` names
abbrev pub event_in : Members → Option Event
event_in ms = text_in (codes "event") ms >>= λ word. event_by word ms

unfoldable pub event_of : List ℕ → Option Event
event_of line = line_members line >>= event_in

-- reading refuses; out of memory says nothing
abbrev pub Fails : {A : Type 0} → ScriptError → Option A → Type 0
Fails errors.BadScript reading = reading ≡ None
Fails errors.Memory reading = ⊤

-- what a function read, seen by view, is what the definition gives, unless memory ran out
abbrev pub Reads : {A B : Type 0} → (A → B) → Result A ScriptError → Option B → Type 0
Reads view (Ok x) reading = reading ≡ Some (view x)
Reads view (Err e) reading = Fails e reading

-- ---- for private clauses: why a script is refused whose request is refused

abbrev pub read_fault : ReadError → ScriptError
read_fault read.NotJson = errors.BadScript
read_fault read.NotWhole = errors.BadScript
read_fault read.NoKind = errors.BadScript
read_fault read.UnknownKind = errors.BadScript
read_fault read.BadName = errors.BadScript
read_fault read.BadMeta = errors.BadScript
read_fault read.TooLong = errors.BadScript
read_fault read.Memory = errors.Memory

abbrev pub request_fault : RequestError → ScriptError
request_fault (request.Read e) = read_fault e
request_fault request.NoVerb = errors.BadScript
request_fault request.UnknownVerb = errors.BadScript
request_fault request.BadField = errors.BadScript
