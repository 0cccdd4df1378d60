-- A run event by event: a line for each, whether it was enabled or not; and the same under the lines of the script that its
-- events came from.
use Rattle.std.specs.Prelude.{ℕ, zero, suc, ◌+◌, ◌-◌, List, [], ◌∷◌, ◌++◌, codes, decimal, drop, length, take}
use Rattle.std.specs.List.{concat}
use Rattle.interleavings.specs.declared.event.Event.{Event}
use Rattle.interleavings.specs.Step.{step}
use Rattle.interleavings.specs.World.{Size, World, opening}
use Rattle.interleavings.specs.Callers.{named_by}
use Rattle.pictures.specs.Picture.{delivered}
use Rattle.traces.specs.Enabled.{run_state_of}
use Rattle.traces.specs.Lines.{event_line}

abbrev pub line_between : (role : ℕ → List ℕ) → Size → (place : ℕ) → Event → (before after : World) → List ℕ
line_between role z place e before after =
    event_line role place e (run_state_of z before (named_by e)) (run_state_of z after (named_by e)) (delivered before after)

-- ---- the text of each event: its line, and then the note at its index. The first event has this index
abbrev pub texts_of : (role note : ℕ → List ℕ) → Size → (place : ℕ) → World → List Event → List (List ℕ)
texts_of role note z place w [] = []
texts_of role note z place w (e ∷ es) = (line_between role z place e w (step z w e) ++ note place) ∷ texts_of role note z (suc place) (step z w e) es

abbrev pub no_note : (place : ℕ) → List ℕ
no_note place = []

abbrev pub trace_text : (role : ℕ → List ℕ) → Size → List Event → List ℕ
trace_text role z events = concat (texts_of role no_note z 0 opening events)

-- ---- under the lines of a script: `line 3:` and the texts of its events, or `line 3: nothing`
abbrev pub line_words : (line count : ℕ) → List ℕ
line_words line zero = codes "line " ++ (decimal line ++ codes ": nothing\n")
line_words line (suc count) = codes "line " ++ (decimal line ++ codes ":\n")

abbrev pub section : (line : ℕ) → (texts : List (List ℕ)) → List ℕ
section line texts = line_words line (length texts) ++ concat texts

-- From this line and this index on. For each line, how many events there are up to its end: it has those that no line
-- before it has. Events after the last line's end have no line above them.
abbrev pub sections : (line place : ℕ) → (ends : List ℕ) → (texts : List (List ℕ)) → List ℕ
sections line place [] texts = concat texts
sections line place (end ∷ ends) texts =
    section line (take (end - place) texts) ++ sections (suc line) (place + length (take (end - place) texts)) ends (drop (end - place) texts)

abbrev pub trace_by_lines_text : (role note : ℕ → List ℕ) → Size → List Event → (ends : List ℕ) → (first_line : ℕ) → List ℕ
trace_by_lines_text role note z events ends first_line = sections first_line 0 ends (texts_of role note z 0 opening events)
