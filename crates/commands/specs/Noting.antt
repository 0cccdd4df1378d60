-- What `stsctl outcomes` says of controllers that plan nothing when a race begins.
use Rattle.std.specs.Prelude.{◌≡◌, ◌⊎◌, ◌<◌, ℕ, List, [], ◌∷◌, ◌++◌, Option, Some, None, codes}
use Rattle.std.specs.Global.{Vec}
use Rattle.std.specs.Option.{IfSome}
use Rattle.clap.specs.Words.{Text}
use Rattle.plain.specs.Streams.{Puts}
use Rattle.controllers.specs.declared.set_spec.SetSpec.{SetSpec}
use Rattle.first_rounds.specs.Notes.{notes_text}
use Rattle.first_rounds.specs.declared.notes.NotesError.{NotesError}
use Rattle.first_rounds.specs.declared.notes.NotesError.TheVariants as noting
use Rattle.participants.specs.declared.participant.Participant.{Participant}
use Rattle.participants.specs.declared.participant.Participant.TheVariants.{Controller}
use Rattle.explorer.specs.declared.race.Race.{Race}
use Rattle.race_lines.specs.declared.question.AskedRace.{AskedRace}
use Rattle.commands.specs.CommandLine.{AreOptionsBy}
use Rattle.commands.specs.Finding.{IsAskedIn, number_of}
use Rattle.commands.specs.Grammar.{outcomes_text}
use Rattle.commands.specs.declared.args.OutcomesWords.{OutcomesWords}

-- a controller, by the number of its line and its set; none for callers and kubelets
abbrev pub standing_of : Participant → (own : List ℕ) → List (ℕ × SetSpec)
standing_of (Controller set rounds may_crash spares_reads) (index ∷ own) = (number_of index, set) ∷ []
standing_of q own = []

-- all controllers, in the order of the lines
abbrev pub standing_in : List Participant → (lines : List (Vec ℕ)) → List (ℕ × SetSpec)
standing_in [] lines = []
standing_in (q ∷ qs) [] = []
standing_in (q ∷ qs) (own ∷ lines) = standing_of q own.items ++ standing_in qs lines

abbrev pub race_notes : Race → List ℕ
race_notes race = notes_text race.capacity race.beginning.items (standing_in race.participants.items race.lines.items)

-- there are none beside a script of one end
abbrev pub notes_in : (choice : Option ℕ) → AskedRace → List ℕ
notes_in None asked = race_notes asked.race
notes_in (Some number) asked = []

-- those about the race in the input
abbrev pub AreOutcomesNotes : OutcomesWords → (input notes : List ℕ) → Type 0
AreOutcomesNotes options input notes = (asked : AskedRace) × IsAskedIn options input asked × (notes ≡ notes_in options.choice asked)

-- They were written, or the writer failed.
abbrev pub NotesBy : OutcomesWords → (had before after : Option (List ℕ)) → (failed fails : ℕ) → Type 0
NotesBy options had before after failed fails =
    IfSome had (λ input. (notes : List ℕ) × AreOutcomesNotes options input notes × (Puts before notes after ⊎ (failed < fails)))

-- the same, for these arguments
abbrev pub Notes : List Text → (had before after : Option (List ℕ)) → (failed fails : ℕ) → Type 0
Notes words had before after failed fails =
    (options : OutcomesWords) × AreOptionsBy (λ option. outcomes_text option words) options × NotesBy options had before after failed fails

-- the name of a refusal; out of memory is none
abbrev pub notes_refusal : NotesError → Option (List ℕ)
notes_refusal noting.BadCapacity = Some (codes "BadCapacity")
notes_refusal noting.Memory = None
