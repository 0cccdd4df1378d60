-- What a run of `stsctl outcomes` has done, as far as the devices show it.
use Rattle.std.specs.Prelude.{◌≡◌, ◌⊎◌, ◌≤◌, ◌<◌, ◌+◌, ℕ, Bool, true, false, zero, suc, List, [], ◌∷◌, Option, Some, None, codes, nat_lt, if◌then◌else◌}
use Rattle.std.specs.Global.{Vec}
use Rattle.std.specs.List.{slice_get}
use Rattle.clap.specs.Words.{Text}
use Rattle.explorer.specs.Order.{AreEndsOf}
use Rattle.explorer.specs.Races.{HasManyStates}
use Rattle.explorer.specs.declared.race.End.{End}
use Rattle.explorer.specs.declared.race.Refusal.{Refusal}
use Rattle.explorer.specs.declared.race.Refusal.TheVariants as ending
use Rattle.outcome_lines.specs.Brief.{ends_brief_text}
use Rattle.race_lines.specs.Looks.{objects_begun}
use Rattle.outcome_lines.specs.Printing.{ends_text}
use Rattle.race_lines.specs.Questions.{AsksAbout}
use Rattle.race_scripts.specs.Scripting.{ShowsEnd}
use Rattle.race_scripts.specs.declared.fault.ScriptingError.{ScriptingError}
use Rattle.race_scripts.specs.declared.fault.ScriptingError.TheVariants as scripting
use Rattle.race_lines.specs.declared.question.AskedRace.{AskedRace}
use Rattle.race_lines.specs.declared.question.Question.{Question}
use Rattle.race_lines.specs.declared.question.Question.TheVariants.{Told, Stores, Both}
use Rattle.plain_store.specs.Reached.{most_revisions}
use Rattle.race_lines.specs.RaceTexts.{race_of, race_parts}
use Rattle.race_lines.specs.RefusedLines.{refused_line_of}
use Rattle.race_lines.specs.declared.race.Sent.{Sent}
use Rattle.race_lines.specs.declared.race.WrittenRace.{WrittenRace}
use Rattle.commands.specs.Halts.{IsRefusedIn, refused_as, told_line}
use Rattle.commands.specs.Forms.{WritesBy}
use Rattle.commands.specs.CommandLine.{AreOptionsBy}
use Rattle.commands.specs.Grammar.{outcomes_text}
use Rattle.commands.specs.declared.args.OutcomesWords.{OutcomesWords}

-- ---- what is asked

-- with `--both` both, else with `--final` the store, else what callers are told
abbrev pub question_of : (final_stores both : Bool) → Question
question_of final_stores true = Both
question_of true false = Stores
question_of false false = Told

abbrev pub question_in : OutcomesWords → Question
question_in options = question_of options.final_stores options.both

-- the race in the input, as it is asked about
abbrev pub IsAskedIn : OutcomesWords → (input : List ℕ) → AskedRace → Type 0
IsAskedIn options input asked = (written : WrittenRace) × (race_of input ≡ Some (race_parts written)) × AsksAbout (question_in options) written asked

-- ---- what is found

-- the end of that number, from 1
abbrev pub end_of : (number : ℕ) → List End → Option End
end_of zero found = None
end_of (suc index) found = slice_get found index

-- the lines of all, in words if that is requested
abbrev pub all_lines : OutcomesWords → AskedRace → List End → List ℕ
all_lines options asked found =
    if options.brief then ends_brief_text (question_in options) asked (objects_begun asked.race.capacity asked.race.beginning.items) found
    else ends_text (question_in options) asked found

-- These lines, or a script that shows the chosen one. As a race has just one list of its ends, this is the end of that line.
abbrev pub IsChosen : OutcomesWords → (choice : Option ℕ) → AskedRace → List End → (text : List ℕ) → Type 0
IsChosen options None asked found text = text ≡ all_lines options asked found
IsChosen options (Some number) asked found text = (e : End) × (end_of number found ≡ Some e) × ShowsEnd (question_in options) asked e text

abbrev pub IsAnswer : OutcomesWords → AskedRace → (text : List ℕ) → Type 0
IsAnswer options asked text = (found : List End) × AreEndsOf asked.race found × IsChosen options options.choice asked found text

-- the same for the race in the input
abbrev pub IsOutcomesText : OutcomesWords → (input text : List ℕ) → Type 0
IsOutcomesText options input text = (asked : AskedRace) × IsAskedIn options input asked × IsAnswer options asked text

-- That text was written: all ends, in words if that is requested, or the requested script.
abbrev pub Finds : (puts : Option (List ℕ) → List ℕ → Option (List ℕ) → Type 0) → List Text → (had left before after : Option (List ℕ)) → Type 0
Finds puts words had left before after =
    (options : OutcomesWords) × AreOptionsBy (λ option. outcomes_text option words) options × WritesBy puts (IsOutcomesText options) had left before after

-- ---- refusals

-- the name of a refusal; out of memory is none
abbrev pub ending_refusal : Refusal → Option (List ℕ)
ending_refusal ending.BadCapacity = Some (codes "BadCapacity")
ending_refusal ending.TooManyOutcomes = Some (codes "TooManyOutcomes")
ending_refusal ending.Memory = None

abbrev pub scripting_refusal : ScriptingError → Option (List ℕ)
scripting_refusal scripting.NoScript = Some (codes "NoScript")
scripting_refusal scripting.Memory = None

abbrev pub IsBadCapacity : ℕ → Type 0
IsBadCapacity capacity = 1 ≤ capacity → most_revisions < capacity

-- there is no end of that number, or there is one, and no script of it was found
abbrev pub IsChoiceRefusal : (choice : Option ℕ) → List End → (name : List ℕ) → Type 0
IsChoiceRefusal None found name = ⊥
IsChoiceRefusal (Some number) found name = ((end_of number found ≡ None) × (name ≡ codes "NoSuchOutcome"))
    ⊎ ((e : End) × (end_of number found ≡ Some e) × (name ≡ codes "NoScript"))

-- the same, or the capacity is none
abbrev pub IsChosenRefusal : (choice : Option ℕ) → AskedRace → List End → (name : List ℕ) → Type 0
IsChosenRefusal choice asked found name = (IsBadCapacity asked.race.capacity × (name ≡ codes "BadCapacity")) ⊎ IsChoiceRefusal choice found name

-- the ends are not printed, or the chosen one is not
abbrev pub IsAnswerRefusal : OutcomesWords → AskedRace → (name : List ℕ) → Type 0
IsAnswerRefusal options asked name = (IsBadCapacity asked.race.capacity × (name ≡ codes "BadCapacity"))
    ⊎ ((HasManyStates asked.race options.limit × (name ≡ codes "TooManyOutcomes"))
    ⊎ ((found : List End) × AreEndsOf asked.race found × IsChoiceRefusal options.choice found name))

-- ---- an input that has no race, or one that is not asked about

-- the number of a line, from 1, by its index after the first line; the last two have that of the one before
abbrev pub number_of : (index : ℕ) → ℕ
number_of i = if nat_lt i 18446744073709551613 then i + 2 else 18446744073709551615

abbrev pub first_of : (own : List ℕ) → Option ℕ
first_of [] = None
first_of (i ∷ own) = Some (number_of i)

abbrev pub first_in : (lines : List (Vec ℕ)) → Option ℕ
first_in [] = None
first_in (own ∷ lines) = first_of own.items

abbrev pub untold_in : List Sent → (lines : List (Vec ℕ)) → Option ℕ
untold_in [] lines = first_in lines
untold_in (s ∷ sent) lines = None

-- the line, from 1, of the first one who races, if only replies to callers are asked for and no caller races
abbrev pub untold_line : Question → WrittenRace → Option ℕ
untold_line Told written = untold_in written.sent.items written.lines.items
untold_line Stores written = None
untold_line Both written = None

abbrev pub bad_script : OutcomesWords → (line : Option ℕ) → List ℕ
bad_script options line = refused_as (told_line options.shows_line line) [] (codes "BadScript")

pub record IsUntold (options : OutcomesWords) (input name : List ℕ) : Type 0 where
  pub written : WrittenRace
  pub read : race_of input ≡ Some (race_parts written)
  pub line : ℕ
  pub untold : untold_line (question_in options) written ≡ Some line
  pub named : name ≡ bad_script options (Some line)

-- The input is refused as BadScript exactly if it has no race, for its first line that cannot stand where it does, or
-- none about whose callers is asked.
abbrev pub IsUnreadRefusal : OutcomesWords → (input name : List ℕ) → Type 0
IsUnreadRefusal options input name = ((race_of input ≡ None) × (name ≡ bad_script options (refused_line_of input))) ⊎ IsUntold options input name

abbrev pub IsOutcomesRefusal : OutcomesWords → (input name : List ℕ) → Type 0
IsOutcomesRefusal options input name = IsUnreadRefusal options input name
    ⊎ ((asked : AskedRace) × IsAskedIn options input asked × IsAnswerRefusal options asked name)

-- All of the reader's bytes were read, and are refused by this name.
abbrev pub IsOutcomesRefusedBy : OutcomesWords → Option (List ℕ) → Option (List ℕ) → List ℕ → Type 0
IsOutcomesRefusedBy options had left name = IsRefusedIn (IsOutcomesRefusal options) had left name
