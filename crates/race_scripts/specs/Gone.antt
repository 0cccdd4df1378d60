-- Whether a caller of a run goes its way as one who races: it asks what its machine asks, and takes the replies.
use Rattle.std.specs.Prelude.{◌≡◌, ℕ, Bool, true, false, ◌&&◌, List, [], ◌∷◌, Option, Some, None, ⊤}
use Rattle.requests.specs.Same.{same_reply}
use Rattle.interleavings.specs.declared.trace.Item.{Item}
use Rattle.outcomes.specs.Outcomes.{Exchange, exchanges_by}
use Rattle.explorer.specs.Races.{IsDone}
use Rattle.participants.specs.declared.participant.Participant.{Participant}
use Rattle.participants.specs.declared.told.Told.{Told}
use Rattle.participants.specs.declared.told.Told.TheVariants.{Heard, Unasked, Unheard}
use Rattle.participants.specs.Machines.{machine_of}
use Rattle.participants.specs.Stands.{Stand}
use Rattle.race_runs.specs.Runs.{Goes}
use Rattle.race_lines.specs.Questions.{rest}

-- These are its requests and their replies, from where it begins to where it has nothing more to ask.
pub record IsWay (q : Participant) (exchanges : List Exchange) (told : List Told) : Type 0 where
  pub end : Stand
  pub goes : Goes (machine_of q) (machine_of q).begins exchanges end
  pub over : IsDone (machine_of q) end
  pub told_is : (machine_of q).told end ≡ told

-- what it is told is as given, if that is
abbrev pub IsToldAs : (told : List Told) → (given : Option (List Told)) → Type 0
IsToldAs told None = ⊤
IsToldAs told (Some given) = told ≡ given

-- It goes its way, and is told this.
pub record HasGone (q : Participant) (exchanges : List Exchange) (given : Option (List Told)) : Type 0 where
  pub told : List Told
  pub way : IsWay q exchanges told
  pub told_as : IsToldAs told given

abbrev pub HasGoneAs : Participant → (caller : Option ℕ) → (given : Option (List Told)) → List Item → Type 0
HasGoneAs q None given items = ⊤
HasGoneAs q (Some caller) given items = HasGone q (exchanges_by caller items) given

abbrev pub first_of : {A : Type 0} → List A → Option A
first_of [] = None
first_of (x ∷ xs) = Some x

-- so does each participant that is some caller
abbrev pub HaveGone : List Participant → (callers : List (Option ℕ)) → (given : List (List Told)) → List Item → Type 0
HaveGone [] callers given items = ⊤
HaveGone (q ∷ qs) [] given items = ⊥
HaveGone (q ∷ qs) (c ∷ callers) given items = HasGoneAs q c (first_of given) items × HaveGone qs callers (rest given) items

-- ---- as it is tested

abbrev pub same_told : Told → Told → Bool
same_told (Heard x) (Heard y) = same_reply x y
same_told Unasked Unasked = true
same_told Unheard Unheard = true
same_told x y = false

abbrev pub same_all : List Told → List Told → Bool
same_all [] [] = true
same_all (x ∷ xs) (y ∷ ys) = same_told x y && same_all xs ys
same_all xs ys = false
