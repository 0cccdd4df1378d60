-- What is known of objects by numbers that agree.
use Rattle.std.proofs.Common.{◌∙◌, ◌≡◌, ℕ, List, Option, ap}
use mathlib.Core.Path.{fun_ext}
use Rattle.explorer.specs.declared.race.End.{End}
use Rattle.participants.specs.declared.told.Told.{Told}
use Rattle.requests.specs.declared.reply.Reply.{Reply}
use Rattle.race_lines.specs.declared.question.AskedRace.{AskedRace}
use Rattle.race_lines.specs.declared.question.Question.{Question}
use Rattle.outcome_lines.specs.Brief.{brief_text, ends_said, said_by}
use Rattle.outcome_lines.specs.ObjectWords.{Known}

abbrev pub known_with : (counts : List ℕ → ℕ) → (begun here : List ℕ → Option ℕ) → Known
known_with counts begun here = record { counts = counts; begun = begun; here = here }

-- a text that is said by what is known here
pub said_here : (say : Known → List ℕ) (counts : List ℕ → ℕ) (begun f g : List ℕ → Option ℕ) → ((t : List ℕ) → f t ≡ g t)
    → (text : List ℕ) → text ≡ say (known_with counts begun f) → text ≡ say (known_with counts begun g)
said_here say counts begun f g same text is = is ∙ ap (λ h. say (known_with counts begun h)) (fun_ext same)

-- all lines
pub ends_same : (q : Question) (a : AskedRace) (found : List End) (noun : List ℕ) (all : ℕ) (f g : List ℕ → ℕ) (p o : List ℕ → Option ℕ) → ((t : List ℕ) → f t ≡ g t) → ((t : List ℕ) → p t ≡ o t)
    → (text : List ℕ) → text ≡ brief_text noun all (ends_said q f p a found) → text ≡ brief_text noun all (ends_said q g o a found)
ends_same q a found noun all f g p o counts firsts text is =
    is ∙ ap (λ h. brief_text noun all (ends_said q h p a found)) (fun_ext counts)
    ∙ ap (λ h. brief_text noun all (ends_said q g h a found)) (fun_ext firsts)

-- by lists that are the same
pub said_same : (q : Question) (f : List ℕ → ℕ) (g : List ℕ → Option ℕ) (rs ss : List (List ℕ)) (t u : List Told) (x y : List Reply) → rs ≡ ss → t ≡ u → x ≡ y
    → said_by q f g rs t x ≡ said_by q f g ss u y
said_same q f g rs ss t u x y words told shown =
    ap (λ v. said_by q f g v t x) words ∙ ap (λ v. said_by q f g ss v x) told ∙ ap (λ v. said_by q f g ss u v) shown
