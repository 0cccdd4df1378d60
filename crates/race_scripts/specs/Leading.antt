-- The script of `stsctl cluster` that leads to an end of a race.
use Rattle.std.specs.Prelude.{◌≡◌, ℕ, Bool, true, false, ◌==◌, ◌&&◌, ◌||◌, bytes_eq, is_some, List, [], ◌∷◌, ◌++◌, length, map, Option, Some, None, option_and_then, if◌then◌else◌}
use Rattle.requests.specs.declared.reply.Reply.{Reply}
use Rattle.requests.specs.declared.request.Request.{Request}
use Rattle.requests.specs.Same.{same_reply}
use Rattle.cluster_runs.specs.Ran.{IsClusterRun}
use Rattle.cluster_runs.specs.Turns.{events_of_turns}
use Rattle.cluster_runs.specs.declared.event.ClusterEvent.{ClusterEvent}
use Rattle.cluster_runs.specs.declared.run.ClusterRun.{ClusterRun}
use Rattle.cluster_runs.specs.declared.turn.Turn.{Turn}
use Rattle.cluster_runs.specs.declared.turn.Turn.TheVariants as turn
use Rattle.cluster_runs.specs.declared.fault.ClusterFault.{ClusterFault}
use Rattle.cluster_runs.specs.declared.fault.ClusterFault.TheVariants as cluster
use Rattle.scripts.specs.ClusterScripts.{cluster_script_of, parts_of}
use Rattle.scripts.specs.Sets.{set_parts}
use Rattle.scripts.specs.declared.cluster_script.ClusterScript.{ClusterScript}
use Rattle.controllers.specs.Cluster.{namespaces_of, reconciler_named, size_of}
use Rattle.controllers.specs.declared.set_spec.SetSpec.{SetSpec}
use Rattle.participants.specs.declared.participant.Participant.{Participant}
use Rattle.participants.specs.declared.participant.Participant.TheVariants.{Caller, Controller, Kubelet}
use Rattle.explorer.specs.declared.race.End.{End}
use Rattle.explorer.specs.declared.race.Race.{Race}
use Rattle.outcomes.specs.Outcomes.{AreAnswered, Exchange, exchanges_by, requests_in}
use Rattle.race_lines.specs.declared.question.AskedRace.{AskedRace}
use Rattle.interleavings.specs.declared.trace.Item.{Item}
use Rattle.race_lines.specs.Questions.{told_lists}
use Rattle.race_scripts.specs.Callers.{AreApart}
use Rattle.race_scripts.specs.Gone.{HaveGone}
use Rattle.race_scripts.specs.Same.{same_request}
use Rattle.race_scripts.specs.declared.fault.ScriptingError.{ScriptingError}
use Rattle.race_scripts.specs.declared.fault.ScriptingError.TheVariants.{Memory, NoScript}

-- a caller asks these, one after another
abbrev pub asks_of : (caller : ℕ) → List Request → List Turn
asks_of caller requests = map (turn.Ask caller) requests

-- each look gets this reply
abbrev pub answered_by : (looks : List Request) → (shown : List Reply) → List Exchange
answered_by [] shown = []
answered_by (l ∷ looks) [] = []
answered_by (l ∷ looks) (s ∷ shown) = record { request = l; reply = Some s } ∷ answered_by looks shown

-- the events of the turns of the script
abbrev pub events_by : ClusterScript → List ClusterEvent
events_by script = events_of_turns (size_of script.spec) (length script.spec.sets.items) (reconciler_named script.spec.sets.items) (namespaces_of script.spec.sets.items) script.turns.items

-- the sets of the controllers: that of one that may crash twice, before the crash and after it
abbrev pub sets_again : SetSpec → (may_crash : Bool) → List SetSpec → List SetSpec
sets_again set true sets = set ∷ (set ∷ sets)
sets_again set false sets = set ∷ sets

abbrev pub sets_in : List Participant → List SetSpec
sets_in [] = []
sets_in (Caller c ∷ participants) = sets_in participants
sets_in (Controller set rounds may_crash spares_reads ∷ participants) = sets_again set may_crash (sets_in participants)
sets_in (Kubelet namespace turns may_crash ∷ participants) = sets_in participants

-- In the run the looker sends just the beginning, and then the looks, and is told what the end shows. Each participant
-- that is a caller goes its way, and is told what the end tells it.
pub record IsLed (a : AskedRace) (e : End) (looker : ℕ) (players : List (Option ℕ)) (items : List Item) : Type 0 where
  pub begun : List Exchange
  pub begins : requests_in begun ≡ a.race.beginning.items
  pub answered : AreAnswered begun
  pub told : exchanges_by looker items ≡ begun ++ answered_by a.race.looks.items e.looks.items
  pub many : length a.race.looks.items ≡ length e.looks.items
  pub gone : HaveGone a.race.participants.items players (told_lists e.told.items) items

-- The script is of a store of the race's capacity, and of controllers of its sets. One caller asks the beginning first,
-- and looks last. Each participant that is a caller is another one. The run of the script shows the end.
pub record LeadsTo (a : AskedRace) (e : End) (script : ClusterScript) : Type 0 where
  pub capacity : script.spec.capacity ≡ a.race.capacity
  pub sets : map set_parts script.spec.sets.items ≡ map set_parts (sets_in a.race.participants.items)
  pub looker : ℕ
  pub others : List Turn
  pub turns : script.turns.items ≡ asks_of looker a.race.beginning.items ++ (others ++ asks_of looker a.race.looks.items)
  pub players : List (Option ℕ)
  pub callers : map is_some players ≡ map is_some a.callers.items
  pub apart : AreApart (Some looker ∷ players)
  pub found : ClusterRun
  pub run : IsClusterRun (size_of script.spec) (length script.spec.sets.items) (reconciler_named script.spec.sets.items) (events_by script) found
  pub led : IsLed a e looker players found.run.trace.items.items

-- so does the script in the text
pub record ShowsStore (a : AskedRace) (e : End) (text : List ℕ) : Type 0 where
  pub script : ClusterScript
  pub read : cluster_script_of text ≡ Some (parts_of script)
  pub leads : LeadsTo a e script

-- ---- as it is tested

abbrev pub same_set : SetSpec → SetSpec → Bool
same_set s t = bytes_eq s.namespace t.namespace && bytes_eq s.name t.name && s.digits == t.digits && bytes_eq s.moment t.moment

-- what is left of the sets behind that one
abbrev pub set_behind : SetSpec → List SetSpec → Option (List SetSpec)
set_behind set [] = None
set_behind set (s ∷ sets) = if same_set set s then Some sets else None

abbrev pub again_behind : SetSpec → (may_crash : Bool) → List SetSpec → Option (List SetSpec)
again_behind set true sets = set_behind set sets
again_behind set false sets = Some sets

abbrev pub sets_behind : Participant → List SetSpec → Option (List SetSpec)
sets_behind (Caller c) sets = Some sets
sets_behind (Controller set rounds may_crash spares_reads) sets = option_and_then (again_behind set may_crash) (set_behind set sets)
sets_behind (Kubelet namespace turns may_crash) sets = Some sets

abbrev pub all_behind : List Participant → Option (List SetSpec) → Option (List SetSpec)
all_behind [] sets = sets
all_behind (q ∷ participants) sets = all_behind participants (option_and_then (sets_behind q) sets)

abbrev pub is_nothing : Option (List SetSpec) → Bool
is_nothing None = false
is_nothing (Some []) = true
is_nothing (Some (s ∷ sets)) = false

abbrev pub are_sets_of : List Participant → List SetSpec → Bool
are_sets_of participants sets = is_nothing (all_behind participants (Some sets))

abbrev pub is_look : (caller : ℕ) → (look : Request) → Turn → Bool
is_look c look (turn.Ask caller request) = caller == c && same_request request look
is_look c look other = false

abbrev pub are_looks : (caller : ℕ) → (looks : List Request) → List Turn → Bool
are_looks c [] [] = true
are_looks c (l ∷ looks) (t ∷ turns) = is_look c l t && are_looks c looks turns
are_looks c looks turns = false

abbrev pub is_none : List Request → Bool
is_none [] = true
is_none (r ∷ requests) = false

abbrev pub ends_with_looks : (caller : ℕ) → (looks : List Request) → List Turn → Bool
ends_with_looks c looks [] = is_none looks
ends_with_looks c looks (t ∷ turns) = are_looks c looks (t ∷ turns) || ends_with_looks c looks turns

-- the first turns ask the beginning, and the last ones look
abbrev pub is_framed : (caller : ℕ) → (beginning looks : List Request) → List Turn → Bool
is_framed c [] looks turns = ends_with_looks c looks turns
is_framed c (r ∷ rs) looks [] = false
is_framed c (r ∷ rs) looks (t ∷ turns) = is_look c r t && is_framed c rs looks turns

abbrev pub is_told : Option Reply → Reply → Bool
is_told None s = false
is_told (Some y) s = same_reply y s

abbrev pub is_told_just : List Exchange → (looks : List Request) → (shown : List Reply) → Bool
is_told_just [] [] [] = true
is_told_just (x ∷ xs) (l ∷ looks) (s ∷ shown) = is_told x.reply s && same_request x.request l && is_told_just xs looks shown
is_told_just xs looks shown = false

abbrev pub is_told_last : (beginning : List Request) → List Exchange → (looks : List Request) → (shown : List Reply) → Bool
is_told_last [] xs looks shown = is_told_just xs looks shown
is_told_last (r ∷ rs) [] looks shown = false
is_told_last (r ∷ rs) (x ∷ xs) looks shown = is_some x.reply && same_request x.request r && is_told_last rs xs looks shown

abbrev pub is_of_race : Race → (looker : ℕ) → ClusterScript → Bool
is_of_race race looker script = script.spec.capacity == race.capacity && are_sets_of race.participants.items script.spec.sets.items
    && is_framed looker race.beginning.items race.looks.items script.turns.items

abbrev pub cluster_fault : ClusterFault → ScriptingError
cluster_fault cluster.BadShards = NoScript
cluster_fault cluster.BadCapacity = NoScript
cluster_fault cluster.TooManyCallers = NoScript
cluster_fault cluster.Memory = Memory
