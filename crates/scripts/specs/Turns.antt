-- The turn of a line of a cluster's script, if it is one: one event or several.
use Rattle.std.specs.Prelude.{List, ℕ, nat_le, ◌&&◌, codes, bytes_eq, Option, Some, None, option_map, if◌then◌else◌}
use Rattle.serde_json.specs.Data.{Data, Members}
use Rattle.serde_json.specs.Find.{get_member}
use Rattle.cluster_runs.specs.declared.event.ClusterEvent.{ClusterEvent}
use Rattle.cluster_runs.specs.declared.event.ClusterEvent.TheVariants.{Next, Outside, Step, Crash}
use Rattle.cluster_runs.specs.declared.turn.Turn.{Turn}
use Rattle.cluster_runs.specs.declared.turn.Turn.TheVariants as turn
use Rattle.scripts.specs.Events.{◌>>=◌, count_in, count_of, line_members, request_in, step_in, text_in}

-- `{"controller":I,"event":"next"}`: the controller calls its next request
abbrev pub next_in : Members → Option ClusterEvent
next_in ms = option_map Next (count_in (codes "controller") ms)

-- `{"caller":N,"event":"outside","request":L}`: a caller that is no controller calls, L as a request line of `serve`
abbrev pub outside_in : Members → Option ClusterEvent
outside_in ms = do
  caller ← count_in (codes "caller") ms
  request ← request_in ms
  Some (Outside caller request)

-- a step of the store, as a line of `stsctl replay` that has no request
abbrev pub store_step_in : (word : List ℕ) → Members → Option ClusterEvent
store_step_in word ms = option_map Step (step_in word ms)

-- `{"controller":I,"event":"crash"}` is the crash of that controller, and must have its number;
-- `{"caller":N,"event":"crash"}`, with no member `controller` at all, is that of a caller.
abbrev pub crash_by : (controller : Option Data) → Members → Option ClusterEvent
crash_by (Some controller) ms = option_map Crash (count_of controller)
crash_by None ms = store_step_in (codes "crash") ms

abbrev pub crash_in : Members → Option ClusterEvent
crash_in ms = crash_by (get_member (codes "controller") ms) ms

-- an event without a request
abbrev pub bare_event_in : (word : List ℕ) → Members → Option ClusterEvent
bare_event_in word ms =
    if bytes_eq word (codes "next") then next_in ms
    else if bytes_eq word (codes "crash") then crash_in ms
    else store_step_in word ms

-- `{"controller":I,"event":"run"}`: the steps that bring the controller's open request to its reply; it must have a
-- number. `{"caller":N,"event":"run"}`, with no member `controller` at all: those of a caller.
abbrev pub run_by : (controller : Option Data) → Members → Option Turn
run_by (Some controller) ms = option_map turn.Run (count_of controller)
run_by None ms = option_map turn.RunCaller (count_in (codes "caller") ms)

abbrev pub run_in : Members → Option Turn
run_in ms = run_by (get_member (codes "controller") ms) ms

-- `{"controller":I,"event":"round"}`: a round of the controller
abbrev pub round_in : Members → Option Turn
round_in ms = option_map turn.Round (count_in (codes "controller") ms)

-- `{"controller":I,"event":"approach"}`: its round up to its next write
abbrev pub approach_in : Members → Option Turn
approach_in ms = option_map turn.Approach (count_in (codes "controller") ms)

-- `{"caller":N,"event":"ask","request":L}`: what a line `outside` calls, brought to its reply
abbrev pub ask_in : Members → Option Turn
ask_in ms = do
  caller ← count_in (codes "caller") ms
  request ← request_in ms
  Some (turn.Ask caller request)

-- from 1 to 1,024
abbrev pub rounds_of : ℕ → Option ℕ
rounds_of n = if nat_le 1 n && nat_le n 1024 then Some n else None

-- `{"event":"settle","rounds":N}`: so many times each controller makes a round, and the kubelet a turn
abbrev pub settle_in : Members → Option Turn
settle_in ms = option_map turn.Settle (count_in (codes "rounds") ms >>= rounds_of)

-- several events without a request
abbrev pub bare_turn_in : (word : List ℕ) → Members → Option Turn
bare_turn_in word ms =
    if bytes_eq word (codes "run") then run_in ms
    else if bytes_eq word (codes "round") then round_in ms
    else if bytes_eq word (codes "approach") then approach_in ms
    else if bytes_eq word (codes "settle") then settle_in ms
    else option_map turn.Event (bare_event_in word ms)

abbrev pub turn_by : (word : List ℕ) → Members → Option Turn
turn_by word ms =
    if bytes_eq word (codes "ask") then ask_in ms
    else if bytes_eq word (codes "outside") then option_map turn.Event (outside_in ms)
    else bare_turn_in word ms

-- the turn that the member `event` names
abbrev pub turn_in : Members → Option Turn
turn_in ms = text_in (codes "event") ms >>= λ word. turn_by word ms

unfoldable pub turn_of : List ℕ → Option Turn
turn_of line = line_members line >>= turn_in
