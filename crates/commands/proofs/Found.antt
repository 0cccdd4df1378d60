-- What is found or refused of a race.
use Rattle.std.proofs.Common.{◌≡◌, ◌⊎◌, ◌<◌, ◌∙◌, ℕ, Bool, true, List, None, Option, Some, ap, codes, inl, inr, refl, subst, sym}
use Rattle.std.specs.Option.{IfSome}
use Rattle.std.specs.Prelude.{if◌then◌else◌}
use Rattle.plain_store.specs.Reached.{most_revisions}
use Rattle.interleavings.proofs.Basics.{Least, above, atmost, least}
use Rattle.explorer.specs.Order.{AreEndsOf}
use Rattle.explorer.specs.Races.{CanOpen}
use Rattle.explorer.specs.declared.race.End.{End}
use Rattle.explorer.specs.declared.race.Race.{Race}
use Rattle.outcome_lines.specs.Brief.{ends_brief_text}
use Rattle.outcome_lines.specs.Printing.{ends_text}
use Rattle.race_lines.specs.Looks.{objects_begun}
use Rattle.race_lines.specs.Questions.{AsksAbout}
use Rattle.race_lines.specs.RaceTexts.{race_of, race_parts}
use Rattle.race_lines.specs.declared.question.AskedRace.{AskedRace}
use Rattle.race_lines.specs.declared.question.Question.{Question}
use Rattle.race_lines.specs.declared.race.WrittenRace.{WrittenRace}
use Rattle.race_scripts.specs.Scripting.{ShowsEnd}
use Rattle.race_scripts.specs.declared.fault.ScriptingError.{ScriptingError}
use Rattle.race_scripts.specs.declared.fault.ScriptingError.TheVariants as scripting
use Rattle.requests.specs.declared.reply.Reply.{Reply}
use Rattle.requests.specs.declared.request.Request.{Request}
use Rattle.commands.specs.Finding.{IsAnswer, IsAnswerRefusal, IsAskedIn, IsBadCapacity, IsChoiceRefusal, IsChosen, IsChosenRefusal, IsOutcomesRefusal, IsUnreadRefusal, all_lines, bad_script, end_of, question_in, scripting_refusal, untold_line}
use Rattle.commands.specs.Noting.{AreOutcomesNotes, NotesBy}
use Rattle.commands.specs.declared.args.OutcomesWords.{OutcomesWords}
use Rattle.plain.specs.Streams.{Puts}

-- what is refused is the race that the input has
pub refused_race : (name : Option (List ℕ)) (options : OutcomesWords) (input : List ℕ) (asked : AskedRace) → IsAskedIn options input asked
    → IfSome name (IsAnswerRefusal options asked) → IfSome name (IsOutcomesRefusal options input)
refused_race None options input asked is refused = tt
refused_race (Some name) options input asked is refused = inr (asked, is, refused)

pub refused_unread : (name : Option (List ℕ)) (options : OutcomesWords) (input : List ℕ) → IfSome name (IsUnreadRefusal options input) → IfSome name (IsOutcomesRefusal options input)
refused_unread None options input refused = tt
refused_unread (Some name) options input refused = inl refused

-- a race about whose callers is asked, though none races, is refused
pub refused_untold : (name : Option (List ℕ)) (options : OutcomesWords) (input : List ℕ) (written : WrittenRace) (line : ℕ) (q : Question) (found : Option ℕ) → race_of input ≡ Some (race_parts written)
    → q ≡ question_in options → found ≡ untold_line q written → found ≡ Some line → name ≡ Some (bad_script options (Some line)) → IfSome name (IsUnreadRefusal options input)
refused_untold name options input written line q found read asks told is named =
    subst (λ o. IfSome o (IsUnreadRefusal options input)) (sym named)
    (inr (record { written = written; read = read; line = line; untold = ap (λ k. untold_line k written) (sym asks) ∙ sym told ∙ is; named = refl }))

-- by questions that are the same
pub asks_same : (q r : Question) (written : WrittenRace) (asked : AskedRace) → q ≡ r → AsksAbout q written asked → AsksAbout r written asked
asks_same q r written asked same asks = subst (λ k. AsksAbout k written asked) same asks

pub shows_same : (q r : Question) (asked : AskedRace) (e : End) (text : List ℕ) → q ≡ r → ShowsEnd q asked e text → ShowsEnd r asked e text
shows_same q r asked e text same shows = subst (λ k. ShowsEnd k asked e text) same shows

-- what is written of the ends that were found is written of the race
pub found_text : (options : OutcomesWords) (asked : AskedRace) (found lent : List End) (text : List ℕ) → AreEndsOf asked.race found → lent ≡ found
    → IsChosen options options.choice asked lent text → IsAnswer options asked text
found_text options asked found lent text ends same chosen = (found, ends, subst (λ es. IsChosen options options.choice asked es text) same chosen)

refused_end : (options : OutcomesWords) (name : Option (List ℕ)) (asked : AskedRace) (found : List End) → AreEndsOf asked.race found
    → IfSome name (IsChosenRefusal options.choice asked found) → IfSome name (IsAnswerRefusal options asked)
refused_end options None asked found ends refused = tt
refused_end options (Some name) asked found ends (inl capacity) = inl capacity
refused_end options (Some name) asked found ends (inr refused) = inr (inr (found, ends, refused))

-- what is refused of the ends that were found is refused of the race
pub refused_found : (options : OutcomesWords) (name : Option (List ℕ)) (asked : AskedRace) (found lent : List End) → AreEndsOf asked.race found → lent ≡ found
    → IfSome name (IsChosenRefusal options.choice asked lent) → IfSome name (IsAnswerRefusal options asked)
refused_found options name asked found lent ends same refused =
    refused_end options name asked found ends (subst (λ es. IfSome name (IsChosenRefusal options.choice asked es)) same refused)

-- what is not printed for its capacity is refused
pub no_lines : (name : Option (List ℕ)) (choice : Option ℕ) (asked : AskedRace) (found : List End)
    → IfSome name (λ n. IsBadCapacity asked.race.capacity × (n ≡ codes "BadCapacity")) → IfSome name (IsChosenRefusal choice asked found)
no_lines None choice asked found refused = tt
no_lines (Some name) choice asked found refused = inl refused

-- and so is a choice
pub no_choice : (name : Option (List ℕ)) (choice given : Option ℕ) (asked : AskedRace) (found : List End) → given ≡ choice
    → IfSome name (IsChosenRefusal choice asked found) → IfSome name (IsChosenRefusal given asked found)
no_choice name choice given asked found same refused = subst (λ o. IfSome name (IsChosenRefusal o asked found)) (sym same) refused

-- a capacity with which no store opens is out of range
pub closed_capacity : (race : Race) → (CanOpen race → ⊥) → IsBadCapacity race.capacity
closed_capacity race closed low = go (least race.capacity most_revisions)
  where
    go : Least race.capacity most_revisions → most_revisions < race.capacity
    go (atmost high b) = absurd (closed (record { least = low; most = high }))
    go (above high b) = high

-- and so is a script that is not found
pub no_script : (error : ScriptingError) (name : Option (List ℕ)) (number : ℕ) (asked : AskedRace) (found : List End) (e : End) → end_of number found ≡ Some e → name ≡ scripting_refusal error
    → IfSome name (IsChosenRefusal (Some number) asked found)
no_script scripting.Memory name number asked found e is named = subst (λ o. IfSome o (IsChosenRefusal (Some number) asked found)) (sym named) tt
no_script scripting.NoScript name number asked found e is named = subst (λ o. IfSome o (IsChosenRefusal (Some number) asked found)) (sym named) (inr (inr (e, is, refl)))

-- the lines in words are those of the objects at the beginning
pub told_brief : (options : OutcomesWords) (q : Question) (asked : AskedRace) (found : List End) (begun lent : List Reply) (beginning : List Request) (text : List ℕ) → options.brief ≡ true
    → q ≡ question_in options → beginning ≡ asked.race.beginning.items → begun ≡ objects_begun asked.race.capacity beginning → lent ≡ begun
    → text ≡ ends_brief_text q asked lent found → text ≡ all_lines options asked found
told_brief options q asked found begun lent beginning text is asks same begins lent_is told =
    told ∙ ap (λ b. ends_brief_text q asked b found) (lent_is ∙ begins ∙ ap (objects_begun asked.race.capacity) same)
    ∙ ap (λ o. ends_brief_text o asked (objects_begun asked.race.capacity asked.race.beginning.items) found) asks
    ∙ sym (ap (λ b. lines_if b) is)
  where
    lines_if : Bool → List ℕ
    lines_if b = if b then ends_brief_text (question_in options) asked (objects_begun asked.race.capacity asked.race.beginning.items) found else ends_text (question_in options) asked found

-- the notes of the bytes that were read are those of the input
pub noted_of_input : (options : OutcomesWords) (had : Option (List ℕ)) (bytes lent notes : List ℕ) → IfSome had (λ i. bytes ≡ i) → lent ≡ bytes
    → AreOutcomesNotes options lent notes → IfSome had (λ input. AreOutcomesNotes options input notes)
noted_of_input options None bytes lent notes all same made = tt
noted_of_input options (Some i) bytes lent notes all same made = subst (λ b. AreOutcomesNotes options b notes) (same ∙ all) made

-- the notes were written as they are shown, or the writer failed
pub notes_written : (options : OutcomesWords) (had before after : Option (List ℕ)) (failed fails : ℕ) (notes shown : List ℕ) → IfSome had (λ input. AreOutcomesNotes options input notes)
    → shown ≡ notes → Puts before shown after ⊎ (failed < fails) → NotesBy options had before after failed fails
notes_written options None before after failed fails notes shown made same written = tt
notes_written options (Some input) before after failed fails notes shown made same written =
    (notes, made, subst (λ t. Puts before t after ⊎ (failed < fails)) same written)

-- a race whose capacity has no notes is refused
pub notes_refused : (name : Option (List ℕ)) (options : OutcomesWords) (asked : AskedRace) → IfSome name (λ n. IsBadCapacity asked.race.capacity × (n ≡ codes "BadCapacity"))
    → IfSome name (IsAnswerRefusal options asked)
notes_refused None options asked refused = tt
notes_refused (Some name) options asked refused = inl refused
