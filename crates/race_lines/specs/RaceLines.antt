-- A line of the text of a race after its first: a request of the beginning, a request of a caller, or a controller or a
-- kubelet that races.
use Rattle.std.specs.Prelude.{ℕ, ◌&&◌, Bool, false, not, nat_le, List, [], ◌∷◌, codes, Option, Some, None, if◌then◌else◌}
use Rattle.serde_json.specs.Data.{Data, Members}
use Rattle.serde_json.specs.Find.{as_bool, as_object, get_member}
use Rattle.requests.specs.declared.request.Request.{Request}
use Rattle.scripts.specs.Events.{◌>>=◌, count_in, line_members, request_in}
use Rattle.scripts.specs.Sets.{SetParts, namespace_in, set_of, set_parts}
use Rattle.participants.specs.declared.caller.Ask.{Ask}
use Rattle.participants.specs.declared.caller.Asked.TheVariants as asked
use Rattle.participants.specs.declared.participant.Participant.{Participant}
use Rattle.participants.specs.declared.participant.Participant.TheVariants.{Caller, Controller, Kubelet}
use Rattle.race_lines.specs.declared.line.Line.{Line}
use Rattle.race_lines.specs.declared.line.Line.TheVariants as line
use Rattle.race_lines.specs.Asks.{are_named, asked_of, has, only_if_in}

-- what a `Participant` has
pub data ParticipantParts : Type 0 where
  SendsRequests : (asks : List Ask) → ParticipantParts
  MakesRounds : SetParts → (rounds : ℕ) → (may_crash spares_reads : Bool) → ParticipantParts
  TakesTurns : (namespace : List ℕ) → (turns : ℕ) → (may_crash : Bool) → ParticipantParts

abbrev pub participant_parts : Participant → ParticipantParts
participant_parts (Caller c) = SendsRequests c.asks.items
participant_parts (Controller set rounds may_crash spares_reads) = MakesRounds (set_parts set) rounds may_crash spares_reads
participant_parts (Kubelet namespace turns may_crash) = TakesTurns namespace turns may_crash

pub data LineParts : Type 0 where
  Begins : Request → LineParts
  Asks : (caller : ℕ) → Ask → LineParts
  Rounds : SetParts → (rounds : ℕ) → (may_crash : Bool) → LineParts
  Turns : (namespace : List ℕ) → (turns : ℕ) → (may_crash : Bool) → LineParts

abbrev pub line_parts : Line → LineParts
line_parts (line.Begins request) = Begins request
line_parts (line.Asks caller ask) = Asks caller ask
line_parts (line.Rounds set rounds may_crash) = Rounds (set_parts set) rounds may_crash
line_parts (line.Turns namespace turns may_crash) = Turns namespace turns may_crash

-- ---- a controller or a kubelet

-- by default nobody crashes
abbrev pub crash_by : Option Data → Option Bool
crash_by None = Some false
crash_by (Some d) = as_bool d

abbrev pub crash_in : Members → Option Bool
crash_in ms = crash_by (get_member (codes "crash") ms)

-- how many rounds or turns: at most 1,024
abbrev pub times_in : (name : List ℕ) → Members → Option ℕ
times_in name ms = count_in name ms >>= λ n. if nat_le n 1024 then Some n else None

-- `{"controller":S,"rounds":N}`, S a set as a script of a cluster has it
abbrev pub rounds_in : Members → (may_crash : Bool) → Option LineParts
rounds_in ms may_crash = do
  rounds ← times_in (codes "rounds") ms
  controller ← get_member (codes "controller") ms
  set ← set_of controller
  Some (Rounds set rounds may_crash)

-- It has no request.
abbrev pub controller_in : Members → (may_crash : Bool) → Option LineParts
controller_in ms may_crash = if has (codes "request") ms then None else rounds_in ms may_crash

-- `{"kubelet":{"namespace":NS},"turns":N}`
abbrev pub kubelet_in : Members → (may_crash : Bool) → Option LineParts
kubelet_in ms may_crash = do
  turns ← times_in (codes "turns") ms
  kubelet ← get_member (codes "kubelet") ms
  place ← as_object kubelet
  namespace ← namespace_in place
  Some (Turns namespace turns may_crash)

-- ---- a request

-- `{"caller":N,"request":L}`; other members are passed over
abbrev pub request_ask_in : Members → (crashes : Bool) → Option Ask
request_ask_in ms crashes = request_in ms >>= λ request. Some (record { asked = asked.Request request; only_if = None; crashes = crashes })

-- `{"ask":A,"caller":N}`, with `crash` and `if`, and nothing else
abbrev pub ask_in : Members → (crashes : Bool) → Option Ask
ask_in ms crashes = if are_named (codes "ask" ∷ codes "caller" ∷ codes "crash" ∷ codes "if" ∷ []) ms then (do
  value ← get_member (codes "ask") ms
  only_if ← only_if_in ms
  a ← asked_of value
  Some (record { asked = a; only_if = only_if; crashes = crashes })) else None

abbrev pub caller_ask_in : Members → (crashes : Bool) → Option Ask
caller_ask_in ms crashes = if has (codes "request") ms then request_ask_in ms crashes else ask_in ms crashes

abbrev pub caller_in : Members → (crashes : Bool) → Option LineParts
caller_in ms crashes = do
  caller ← count_in (codes "caller") ms
  ask ← caller_ask_in ms crashes
  Some (Asks caller ask)

-- `{"request":L}`, a request of the beginning, within which nobody crashes; other members are passed over
abbrev pub begins_in : Members → (crashes : Bool) → Option LineParts
begins_in ms crashes = if crashes then None else request_in ms >>= λ request. Some (Begins request)

-- ---- all together

-- With a request a line is no kubelet's.
abbrev pub line_by : Members → (crashes : Bool) → Option LineParts
line_by ms crashes =
    if has (codes "controller") ms then controller_in ms crashes
    else if has (codes "kubelet") ms && not (has (codes "request") ms) then kubelet_in ms crashes
    else if has (codes "caller") ms then caller_in ms crashes
    else begins_in ms crashes

abbrev pub line_in : Members → Option LineParts
line_in ms = crash_in ms >>= line_by ms

unfoldable pub line_of : List ℕ → Option LineParts
line_of line = line_members line >>= line_in
