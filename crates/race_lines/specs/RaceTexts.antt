-- Who races for a store, in a text: its first line has the capacity of the store; then come the requests of the
-- beginning; and then those who race. A caller has a place where its first line stands.
use Rattle.std.specs.Prelude.{◌≡◌, ℕ, ◌+◌, ◌==◌, ◌||◌, Bool, true, false, nat_le, nat_lt, List, [], ◌∷◌, ◌++◌, codes, length, map, position, slice_get, slice_index_or, slice_set, Option, Some, None, option_map, if◌then◌else◌, ⊤}
use Rattle.std.specs.List.{list_any}
use Rattle.plain.specs.Lines.{lines}
use Rattle.requests.specs.declared.request.Request.{Request}
use Rattle.scripts.specs.Events.{◌>>=◌, count_in, line_members}
use Rattle.participants.specs.declared.caller.Ask.{Ask}
use Rattle.participants.specs.declared.participant.Participant.{Participant}
use Rattle.participants.specs.Machines.{CrashesLast}
use Rattle.participants.specs.declared.participant.Participant.TheVariants.{Caller, Controller, Kubelet}
use Rattle.race_lines.specs.declared.race.Sent.{Sent}
use Rattle.race_lines.specs.declared.race.WrittenRace.{WrittenRace}
use Rattle.race_lines.specs.RaceLines.{Asks, Begins, LineParts, MakesRounds, ParticipantParts, Rounds, SendsRequests, TakesTurns, Turns, line_of, participant_parts}

-- a written race by its lists
pub record RaceParts : Type 0 where
  pub capacity : ℕ
  pub beginning : List Request
  pub participants : List ParticipantParts
  pub callers : List (Option ℕ)
  pub lines : List (List ℕ)
  pub sent : List Sent
  pub read : ℕ

abbrev pub race_parts : WrittenRace → RaceParts
race_parts r = record {
  capacity = r.capacity;
  beginning = r.beginning.items;
  participants = map participant_parts r.participants.items;
  callers = r.callers.items;
  lines = map (λ lines. lines.items) r.lines.items;
  sent = r.sent.items;
  read = r.read;
}

-- ---- one more line, by its number

-- The beginning comes before all who race.
abbrev pub with_begun : (participants : List ParticipantParts) → RaceParts → Request → Option RaceParts
with_begun [] p request = Some (record p { beginning = p.beginning ++ request ∷ [] })
with_begun (q ∷ participants) p request = None

-- one more who races: at most 64 do
abbrev pub with_participant : RaceParts → (line : ℕ) → (caller : Option ℕ) → ParticipantParts → Option RaceParts
with_participant p line caller q =
    if nat_lt (length p.participants) 64
    then Some (record p { participants = p.participants ++ q ∷ []; callers = p.callers ++ caller ∷ []; lines = p.lines ++ (line ∷ []) ∷ [] })
    else None

abbrev pub with_sent : RaceParts → Sent → RaceParts
with_sent p sent = record p { sent = p.sent ++ sent ∷ [] }

-- the first request of a caller
abbrev pub with_first : RaceParts → (line caller : ℕ) → Ask → Option RaceParts
with_first p line caller ask =
    option_map (λ q. with_sent q (record { caller = caller; participant = length p.participants; index = 0 }))
    (with_participant p line (Some caller) (SendsRequests (ask ∷ [])))

abbrev pub has_crashed : List Ask → Bool
has_crashed asks = list_any (λ (a : Ask). a.crashes) asks

-- A caller that crashed sends nothing more. It sends at most 256 requests.
abbrev pub is_over : List Ask → Bool
is_over asks = nat_le 256 (length asks) || has_crashed asks

abbrev pub with_ask : Ask → ParticipantParts → Option ParticipantParts
with_ask ask (SendsRequests asks) = if is_over asks then None else Some (SendsRequests (asks ++ ask ∷ []))
with_ask ask (MakesRounds set rounds may_crash spares_reads) = None
with_ask ask (TakesTurns namespace turns may_crash) = None

abbrev pub with_ask_at : List ParticipantParts → (place : ℕ) → Ask → Option (List ParticipantParts)
with_ask_at qs place ask = slice_get qs place >>= λ q. option_map (λ more. slice_set qs place more) (with_ask ask q)

abbrev pub with_number_at : List (List ℕ) → (place number : ℕ) → Option (List (List ℕ))
with_number_at lines place number = option_map (λ before. slice_set lines place (before ++ number ∷ [])) (slice_get lines place)

-- one more request of the caller in that place
abbrev pub with_next : RaceParts → (line caller : ℕ) → Ask → (place : ℕ) → Option RaceParts
with_next p line caller ask place = do
  participants ← with_ask_at p.participants place ask
  lines ← with_number_at p.lines place line
  Some (with_sent (record p { participants = participants; lines = lines })
      (record { caller = caller; participant = place; index = length (slice_index_or p.lines place []) }))

abbrev pub with_request : RaceParts → (line caller : ℕ) → Ask → (place : Option ℕ) → Option RaceParts
with_request p line caller ask None = with_first p line caller ask
with_request p line caller ask (Some place) = with_next p line caller ask place

abbrev pub is_caller : (caller : ℕ) → Option ℕ → Bool
is_caller caller None = false
is_caller caller (Some n) = n == caller

abbrev pub with_line : RaceParts → (line : ℕ) → LineParts → Option RaceParts
with_line p line (Begins request) = with_begun p.participants p request
with_line p line (Asks caller ask) = with_request p line caller ask (position (is_caller caller) p.callers)
-- Controllers leave out reads that lead nowhere else.
with_line p line (Rounds set rounds may_crash) = with_participant p line None (MakesRounds set rounds may_crash true)
with_line p line (Turns namespace turns may_crash) = with_participant p line None (TakesTurns namespace turns may_crash)

-- ---- all lines

-- the lines from that number on
abbrev pub with_lines : RaceParts → (line : ℕ) → List (List ℕ) → Option RaceParts
with_lines p n [] = Some (record p { read = n })
with_lines p n (l ∷ ls) = line_of l >>= λ said. with_line p n said >>= λ more. with_lines more (n + 1) ls

abbrev pub opened_by : (capacity : ℕ) → RaceParts
opened_by capacity = record { capacity = capacity; beginning = []; participants = []; callers = []; lines = []; sent = []; read = 0 }

-- the first line alone
abbrev pub opened : List ℕ → Option RaceParts
opened line = line_members line >>= λ ms. option_map opened_by (count_in (codes "capacity") ms)

abbrev pub race_by : List (List ℕ) → Option RaceParts
race_by [] = None
race_by (first ∷ rest) = opened first >>= λ p. with_lines p 0 rest

unfoldable pub race_of : List ℕ → Option RaceParts
race_of text = race_by (lines text)

-- ---- the callers in what is read

abbrev pub EachCrashesLast : List Participant → Type 0
EachCrashesLast participants = (n : ℕ) (q : Participant) → slice_get participants n ≡ Some q → CrashesLast q
