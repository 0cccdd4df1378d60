-- What a run of `stsctl replay` has done, as far as the devices show it.
use Rattle.std.specs.Prelude.{◌≡◌, ◌⊎◌, Bool, ◌≤◌, ◌<◌, ℕ, List, Option, Some, None, codes}
use Rattle.plain_store.specs.Reached.{most_revisions}
use Rattle.history.specs.After.{IsRunOf}
use Rattle.history.specs.Named.{callers}
use Rattle.history.specs.declared.replay_error.ReplayError.{ReplayError}
use Rattle.history.specs.declared.replay_error.ReplayError.TheVariants as errors
use Rattle.interleavings.specs.World.{Size}
use Rattle.interleavings.specs.declared.event.Event.{Event}
use Rattle.interleavings.specs.declared.trace.Run.{Run}
use Rattle.scripts.specs.Printing.{run_text}
use Rattle.scripts.specs.Scripts.{parts_of, script_of}
use Rattle.clap.specs.Words.{Text}
use Rattle.pictures.specs.Heading.{no_role}
use Rattle.pictures.specs.Picture.{picture_text}
use Rattle.pictures.specs.Story.{story_text}
use Rattle.traces.specs.Traced.{trace_text}
use Rattle.scripts.specs.Refusals.{refused_line_of}
use Rattle.commands.specs.Halts.{IsRefusedIn}
use Rattle.commands.specs.Forms.{IsFormatBy, WritesBy}
use Rattle.commands.specs.Grammar.{flag_text}
use Rattle.commands.specs.Running.{IsScriptRefusal, IsScriptText}
use Rattle.commands.specs.declared.options.OutputFormat.{OutputFormat}
use Rattle.commands.specs.declared.options.OutputFormat.TheVariants.{Lines, Picture, Trace, Writes}

-- the replies of the run of these events, and its order
abbrev pub IsRunText : Size × List Event → List ℕ → Type 0
IsRunText script text = (run : Run) × IsRunOf script.0 script.1 run × (text ≡ run_text run.trace.items.items run.order.items)

-- the text of a run in this form
abbrev pub IsShownText : OutputFormat → Size × List Event → List ℕ → Type 0
IsShownText Lines script text = IsRunText script text
IsShownText (Picture shown) script text = text ≡ picture_text shown script.0 no_role script.1
IsShownText Writes script text = text ≡ story_text no_role script.0 script.1
IsShownText Trace script text = text ≡ trace_text no_role script.0 script.1

-- the same for the script in the input
abbrev pub IsReplayText : OutputFormat → (input text : List ℕ) → Type 0
IsReplayText form input text = IsScriptText script_of parts_of (λ f script. IsShownText f (parts_of script)) form input text

-- That text was written, in the requested form: the replies of the run and its order, its picture, its writes, or its
-- trace.
abbrev pub Replays : (puts : Option (List ℕ) → List ℕ → Option (List ℕ) → Type 0) → List Text → (had left before after : Option (List ℕ)) → Type 0
Replays puts words had left before after =
    (form : OutputFormat) × IsFormatBy (λ flag. flag_text (codes "replay") flag words) form × WritesBy puts (IsReplayText form) had left before after

-- A run of this size is refused by this name: the first that applies of shards out of range, capacity out of range, and
-- too many callers.
abbrev pub IsSizeRefusal : (shards capacity callers : ℕ) → (name : List ℕ) → Type 0
IsSizeRefusal shards capacity callers name = ((1 ≤ shards → 64 < shards) × (name ≡ codes "BadShards"))
    ⊎ (((1 ≤ shards) × (shards ≤ 64) × (1 ≤ capacity → most_revisions < capacity) × (name ≡ codes "BadCapacity"))
    ⊎ ((1 ≤ shards) × (shards ≤ 64) × (1 ≤ capacity) × (capacity ≤ most_revisions) × (4096 < callers) × (name ≡ codes "TooManyCallers")))

-- the run of the script's events is refused for this, by the callers that they name
abbrev pub IsRunRefusal : Size × List Event → (name : List ℕ) → Type 0
IsRunRefusal script name = IsSizeRefusal script.0.shards script.0.capacity (callers script.1) name

-- the name of the refusal of a run; out of memory is none
abbrev pub run_refusal : ReplayError → Option (List ℕ)
run_refusal errors.BadShards = Some (codes "BadShards")
run_refusal errors.BadCapacity = Some (codes "BadCapacity")
run_refusal errors.TooManyCallers = Some (codes "TooManyCallers")
run_refusal errors.Memory = None

-- the input is refused for this, as it is no script or as its run is
abbrev pub IsReplayRefusal : (shows_line : Bool) → (input name : List ℕ) → Type 0
IsReplayRefusal shows_line input name = IsScriptRefusal script_of parts_of refused_line_of (λ script. IsRunRefusal (parts_of script)) shows_line input name

-- All of the reader's bytes were read, and are refused by this name.
abbrev pub IsRefusedBy : (shows_line : Bool) → Option (List ℕ) → Option (List ℕ) → List ℕ → Type 0
IsRefusedBy shows_line had left name = IsRefusedIn (IsReplayRefusal shows_line) had left name
