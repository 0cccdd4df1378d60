-- The script that shows an end of a race.
use Rattle.std.specs.Prelude.{ℕ, Bool, true, false, List, Option}
use Rattle.explorer.specs.declared.race.End.{End}
use Rattle.race_lines.specs.Questions.{told_lists}
use Rattle.race_lines.specs.declared.question.AskedRace.{AskedRace}
use Rattle.race_lines.specs.declared.question.Question.{Question}
use Rattle.race_lines.specs.declared.question.Question.TheVariants.{Told, Stores, Both}
use Rattle.race_scripts.specs.Callers.{are_callers}
use Rattle.race_scripts.specs.Leading.{ShowsStore}
use Rattle.race_scripts.specs.Replaying.{ShowsTold}

-- Of a race of callers alone the script is one of `stsctl replay`, if what they are told is asked for.
abbrev pub is_replayed : Question → (callers : List (Option ℕ)) → Bool
is_replayed Told callers = are_callers callers
is_replayed Stores callers = false
is_replayed Both callers = false

abbrev pub ShowsBy : (replayed : Bool) → AskedRace → End → (text : List ℕ) → Type 0
ShowsBy true a e text = ShowsTold a (told_lists e.told.items) text
ShowsBy false a e text = ShowsStore a e text

abbrev pub ShowsEnd : Question → AskedRace → End → (text : List ℕ) → Type 0
ShowsEnd q a e text = ShowsBy (is_replayed q a.callers.items) a e text
