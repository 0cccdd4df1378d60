-- What is asked about the ends of a race: what callers are told, which store is left, or both.
use Rattle.std.specs.Prelude.{◌≡◌, Bool, true, false, List, [], ◌∷◌, map, if◌then◌else◌}
use Rattle.std.specs.Global.{Vec}
use Rattle.requests.specs.declared.request.Request.{Request}
use Rattle.participants.specs.declared.participant.Participant.{Participant}
use Rattle.participants.specs.declared.told.Told.{Told}
use Rattle.race_lines.specs.declared.race.Sent.{Sent}
use Rattle.race_lines.specs.declared.race.WrittenRace.{WrittenRace}
use Rattle.race_lines.specs.declared.question.AskedRace.{AskedRace}
use Rattle.race_lines.specs.declared.question.Question.{Question}
use Rattle.race_lines.specs.declared.question.Question.TheVariants.{Told as AsTold, Stores, Both}
use Rattle.race_lines.specs.Looks.{looks_of}

-- what each participant is told
abbrev pub told_lists : List (Vec Told) → List (List Told)
told_lists vs = map (λ v. v.items) vs

-- all but the first
abbrev pub rest : {A : Type 0} → List A → List A
rest [] = []
rest (x ∷ xs) = xs

-- whether what callers are told is part of the answer
abbrev pub tells_too : Question → Bool
tells_too AsTold = true
tells_too Stores = false
tells_too Both = true

-- whether the store is
abbrev pub looks_too : Question → Bool
looks_too AsTold = false
looks_too Stores = true
looks_too Both = true

abbrev pub looks_asked : Question → (beginning : List Request) → List Participant → List Request
looks_asked q beginning participants = if looks_too q then looks_of beginning participants else []

abbrev pub sent_asked : Question → List Sent → List Sent
sent_asked q sent = if tells_too q then sent else []

-- the race is the one in the text; what is told and looked at is what the question asks for
pub record AsksAbout (q : Question) (w : WrittenRace) (a : AskedRace) : Type 0 where
  pub capacity : a.race.capacity ≡ w.capacity
  pub beginning : a.race.beginning.items ≡ w.beginning.items
  pub participants : a.race.participants.items ≡ w.participants.items
  pub lines : a.race.lines.items ≡ w.lines.items
  pub tells : a.race.tells ≡ tells_too q
  pub looks : a.race.looks.items ≡ looks_asked q w.beginning.items w.participants.items
  pub callers : a.callers.items ≡ w.callers.items
  pub sent : a.sent.items ≡ sent_asked q w.sent.items
