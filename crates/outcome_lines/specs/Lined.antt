-- Ends, by the lines of the text: what became of each request of a caller, and the order with the line of each move.
use Rattle.std.specs.Prelude.{ℕ, Bool, true, false, List, [], ◌∷◌, ◌++◌, map, slice_set, Option, Some, None, if◌then◌else◌}
use Rattle.std.specs.Global.{Vec}
use Rattle.std.specs.List.{slice_get}
use Rattle.explorer.specs.declared.race.End.{End}
use Rattle.explorer.specs.declared.race.Move.{Move}
use Rattle.explorer.specs.declared.race.Move.TheVariants.{Ask, Crash, Late}
use Rattle.participants.specs.declared.told.Told.{Told}
use Rattle.participants.specs.declared.told.Told.TheVariants.{Heard, Unasked, Unheard}
use Rattle.race_lines.specs.declared.race.Sent.{Sent}
use Rattle.outcome_lines.specs.declared.lined.LinedMove.{LinedMove}
use Rattle.outcome_lines.specs.declared.lined.LinedMove.TheVariants as lined
use Rattle.race_lines.specs.declared.question.AskedRace.{AskedRace}
use Rattle.race_lines.specs.Questions.{rest, told_lists}

abbrev pub lists_of : List (Vec ℕ) → List (List ℕ)
lists_of vs = map (λ v. v.items) vs

-- ---- what became of requests

abbrev pub or_unheard : Option Told → Told
or_unheard None = Unheard
or_unheard (Some t) = t

abbrev pub told_at : List Told → (index : ℕ) → Told
told_at told i = or_unheard (slice_get told i)

abbrev pub told_in : Option (List Told) → (index : ℕ) → Told
told_in None i = Unheard
told_in (Some told) i = told_at told i

abbrev pub told_to : (told : List (List Told)) → Sent → Told
told_to told one = told_in (slice_get told one.participant) one.index

abbrev pub every_told : List Sent → (told : List (List Told)) → List Told
every_told sent told = map (told_to told) sent

-- ---- orders by lines

abbrev pub told_first : List (List Told) → List Told
told_first [] = []
told_first (t ∷ told) = t

-- the first request is left out
abbrev pub is_left_out : List Told → Bool
is_left_out [] = false
is_left_out (Heard reply ∷ told) = false
is_left_out (Unasked ∷ told) = true
is_left_out (Unheard ∷ told) = false

-- the lines of the requests that are asked
abbrev pub asked_lines : List ℕ → List Told → List ℕ
asked_lines [] told = []
asked_lines (l ∷ ls) told = if is_left_out told then asked_lines ls (rest told) else l ∷ asked_lines ls (rest told)

abbrev pub lines_asked : List (List ℕ) → List (List Told) → List (List ℕ)
lines_asked [] told = []
lines_asked (own ∷ lines) told = asked_lines own (told_first told) ∷ lines_asked lines (rest told)

abbrev pub first_line : List ℕ → ℕ
first_line [] = 0
first_line (l ∷ ls) = l

abbrev pub line_in : Option (List ℕ) → ℕ
line_in None = 0
line_in (Some ls) = first_line ls

abbrev pub line_of : List (List ℕ) → (participant : ℕ) → ℕ
line_of left n = line_in (slice_get left n)

-- All but the first, but the last stays: the line of a controller or a kubelet stands for all of its requests.
abbrev pub behind : List ℕ → List ℕ
behind [] = []
behind (l ∷ []) = l ∷ []
behind (l ∷ (k ∷ ls)) = k ∷ ls

abbrev pub passed_in : List (List ℕ) → (participant : ℕ) → Option (List ℕ) → List (List ℕ)
passed_in left n None = left
passed_in left n (Some ls) = slice_set left n (behind ls)

-- a request is behind its participant once it is asked
abbrev pub passed : List (List ℕ) → Move → List (List ℕ)
passed left (Ask n) = passed_in left n (slice_get left n)
passed left (Crash n) = left
passed left (Late n) = left

abbrev pub move_by : List (List ℕ) → Move → LinedMove
move_by left (Ask n) = lined.Ask (line_of left n)
move_by left (Crash n) = lined.Crash (line_of left n)
move_by left (Late n) = lined.Late (line_of left n)

abbrev pub moves_from : List (List ℕ) → List Move → List LinedMove
moves_from left [] = []
moves_from left (m ∷ ms) = move_by left m ∷ moves_from (passed left m) ms

-- each move with the line of the request that it asks, or of its participant
abbrev pub lined_order : AskedRace → End → List LinedMove
lined_order a e = moves_from (lines_asked (lists_of a.race.lines.items) (told_lists e.told.items)) e.order.items
