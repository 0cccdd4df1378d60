-- The script of `stsctl replay` that shows what callers of a race are told.
use Rattle.std.specs.Prelude.{◌≡◌, ◌≢◌, ◌⊎◌, ℕ, Bool, true, ◌==◌, ◌||◌, ◌&&◌, List, ◌∷◌, Option, Some}
use Rattle.std.specs.List.{list_all, list_any}
use Rattle.requests.specs.declared.request.Request.{Request}
use Rattle.interleavings.specs.declared.event.Event.{Event}
use Rattle.interleavings.specs.declared.trace.Item.{Item}
use Rattle.interleavings.specs.declared.trace.Item.TheVariants as item
use Rattle.interleavings.specs.Linearization.{Has}
use Rattle.interleavings.specs.Trace.{trace}
use Rattle.interleavings.specs.World.{Size}
use Rattle.history.specs.declared.replay_error.ReplayError.{ReplayError}
use Rattle.history.specs.declared.replay_error.ReplayError.TheVariants as replay
use Rattle.outcomes.specs.Outcomes.{AreAnswered, ComesBehind, exchanges_by, requests_in}
use Rattle.participants.specs.declared.told.Told.{Told}
use Rattle.scripts.specs.Scripts.{script_of}
use Rattle.scripts.specs.declared.fault.ScriptError.{ScriptError}
use Rattle.scripts.specs.declared.fault.ScriptError.TheVariants as script
use Rattle.race_lines.specs.RaceTexts.{is_caller}
use Rattle.race_lines.specs.declared.question.AskedRace.{AskedRace}
use Rattle.race_scripts.specs.declared.fault.ScriptingError.{ScriptingError}
use Rattle.race_scripts.specs.declared.fault.ScriptingError.TheVariants.{Memory, NoScript}
use Rattle.race_scripts.specs.Callers.{AreApart, are_apart, are_callers}
use Rattle.race_scripts.specs.Gone.{HaveGone}
use Rattle.race_scripts.specs.Shown.{answered_just, goes_first}

-- Whoever calls is the beginner or a caller of the race.
abbrev pub CallsOnly : (beginner : ℕ) → (callers : List (Option ℕ)) → List Item → Type 0
CallsOnly beginner callers items = (place caller : ℕ) (request : Request) → Has (item.Call place caller request) items → (caller ≡ beginner) ⊎ Has (Some caller) callers

-- One caller, which is none of the race, sends the beginning and gets its replies before any other calls. Then each
-- caller of the race goes its way, and is told this on it. Nobody else calls.
pub record IsShown (a : AskedRace) (told : List (List Told)) (beginner : ℕ) (items : List Item) : Type 0 where
  pub callers : are_callers a.callers.items ≡ true
  pub apart : AreApart (Some beginner ∷ a.callers.items)
  pub only : CallsOnly beginner a.callers.items items
  pub first : (caller : ℕ) → caller ≢ beginner → ComesBehind items beginner caller
  pub begun : requests_in (exchanges_by beginner items) ≡ a.race.beginning.items
  pub answered : AreAnswered (exchanges_by beginner items)
  pub gone : HaveGone a.race.participants.items a.callers.items told items

-- The text is a script over a store of the race's capacity, and the run of its events shows that.
pub record ShowsTold (a : AskedRace) (told : List (List Told)) (text : List ℕ) : Type 0 where
  pub size : Size
  pub capacity : size.capacity ≡ a.race.capacity
  pub events : List Event
  pub script : script_of text ≡ Some (size, events)
  pub beginner : ℕ
  pub shown : IsShown a told beginner (trace size events)

-- ---- as it is tested

abbrev pub is_by : (beginner : ℕ) → (callers : List (Option ℕ)) → Item → Bool
is_by b callers (item.Call place caller request) = caller == b || list_any (is_caller caller) callers
is_by b callers (item.Reply place caller reply) = true

abbrev pub calls_only : (beginner : ℕ) → (callers : List (Option ℕ)) → List Item → Bool
calls_only b callers items = list_all (is_by b callers) items

abbrev pub are_players : (beginner : ℕ) → (callers : List (Option ℕ)) → List Item → Bool
are_players b callers items = are_callers callers && are_apart (Some b ∷ callers) && calls_only b callers items

abbrev pub is_begun : (beginner : ℕ) → (beginning : List Request) → List Item → Bool
is_begun b beginning items = goes_first b items && answered_just (exchanges_by b items) beginning

-- ---- faults

abbrev pub script_fault : ScriptError → ScriptingError
script_fault script.BadScript = NoScript
script_fault script.Memory = Memory

abbrev pub replay_fault : ReplayError → ScriptingError
replay_fault replay.BadShards = NoScript
replay_fault replay.BadCapacity = NoScript
replay_fault replay.TooManyCallers = NoScript
replay_fault replay.Memory = Memory
