-- In what is read, the lists of those who race are equally long, and a caller sends nothing behind a crash.
use Rattle.std.proofs.Common.{◌≡◌, ◌+◌, zero, suc, ℕ, Bool, true, false, List, [], ◌∷◌, ◌++◌, Option, Some, None, Result, Ok, Err, length, map, codes, refl, sym, ap, subst, ◌∙◌, arith, set, slice_get, slice_index_or, nat_lt, nat_le}
use Rattle.std.specs.Prelude.{IfOk, option_map, unwrap_or, ⊤, if◌then◌else◌, position}
use Rattle.std.specs.List.{AllByRecursion}
use Rattle.std.proofs.lemmas.Bool.{or_parts}
use Rattle.std.proofs.lemmas.List.{length-append, length-map, length-set}
use Rattle.plain.specs.Lines.{lines}
use Rattle.requests.specs.declared.request.Request.{Request}
use Rattle.participants.specs.declared.caller.Ask.{Ask}
use Rattle.participants.specs.declared.participant.Participant.{Participant}
use Rattle.participants.specs.declared.participant.Participant.TheVariants.{Caller, Controller, Kubelet}
use Rattle.scripts.specs.declared.fault.ScriptError.{ScriptError}
use Rattle.scripts.specs.Events.{◌>>=◌, Reads, count_in, line_members}
use Rattle.race_lines.specs.declared.race.Sent.{Sent}
use Rattle.race_lines.specs.declared.race.WrittenRace.{WrittenRace}
use Rattle.race_lines.specs.RaceLines.{Asks, Begins, LineParts, MakesRounds, ParticipantParts, Rounds, SendsRequests, TakesTurns, Turns, line_of, participant_parts}
use Rattle.participants.specs.Machines.{CrashesLast}
use Rattle.race_lines.specs.RaceTexts.{EachCrashesLast, RaceParts, has_crashed, is_caller, is_over, opened, opened_by, race_by, race_of, race_parts, with_ask, with_ask_at, with_begun, with_first, with_line, with_lines, with_next, with_number_at, with_participant, with_request, with_sent}

-- behind one that crashes there is none
abbrev Last : List Ask → Type 0
Last [] = ⊤
Last (a ∷ asks) = (a.crashes ≡ true → asks ≡ []) × Last asks

abbrev StopsLast : ParticipantParts → Type 0
StopsLast (SendsRequests asks) = Last asks
StopsLast (MakesRounds set rounds may_crash spares_reads) = ⊤
StopsLast (TakesTurns namespace turns may_crash) = ⊤

pub record IsSound (p : RaceParts) : Type 0 where
  pub callers : length p.callers ≡ length p.participants
  pub lines : length p.lines ≡ length p.participants
  pub last : AllByRecursion StopsLast p.participants

-- ---- lists
each_more : {A : Type 0} (P : A → Type 0) (xs : List A) (x : A) → AllByRecursion P xs → P x → AllByRecursion P (xs ++ x ∷ [])
each_more P [] x all here = (here, tt)
each_more P (y ∷ xs) x all here = (all.0, each_more P xs x all.1 here)

each_set : {A : Type 0} (P : A → Type 0) (xs : List A) (i : ℕ) (x : A) → AllByRecursion P xs → P x → AllByRecursion P (set xs i x)
each_set P [] i x all here = tt
each_set P (y ∷ xs) zero x all here = (here, all.1)
each_set P (y ∷ xs) (suc i) x all here = (all.0, each_set P xs i x all.1 here)

one_more : {A B : Type 0} (xs : List A) (ys : List B) (x : A) (y : B) → length xs ≡ length ys → length (xs ++ x ∷ []) ≡ length (ys ++ y ∷ [])
one_more xs ys x y same = omega (arith, length-append xs (x ∷ []), length-append ys (y ∷ []))

-- ---- steps that gave something
given : {A : Type 0} (x y : A) → Some x ≡ Some y → x ≡ y
given x y is = ap (λ o. unwrap_or o x) is

pub record Gave {A B : Type 0} (o : Option A) (f : A → Option B) (y : B) : Type 0 where
  pub value : A
  pub first : o ≡ Some value
  pub next : f value ≡ Some y

gave : {A B : Type 0} (o : Option A) (f : A → Option B) (y : B) → (o >>= f) ≡ Some y → Gave o f y
gave None f y is = absurd cc
gave (Some x) f y is = record { value = x; first = refl; next = is }

pub record Mapped {A B : Type 0} (o : Option A) (f : A → B) (y : B) : Type 0 where
  pub value : A
  pub first : o ≡ Some value
  pub next : f value ≡ y

mapped : {A B : Type 0} (o : Option A) (f : A → B) (y : B) → option_map f o ≡ Some y → Mapped o f y
mapped None f y is = absurd cc
mapped (Some x) f y is = record { value = x; first = refl; next = given (f x) y is }

-- ---- requests of a caller
last_more : (asks : List Ask) (a : Ask) → has_crashed asks ≡ false → Last (asks ++ a ∷ [])
last_more [] a none = ((λ crashes. refl), tt)
last_more (b ∷ asks) a none =
    let parts = or_parts b.crashes (has_crashed asks) none in
    ((λ crashes. (let not_so : true ≡ false = sym crashes ∙ parts.0 in absurd cc)), last_more asks a parts.1)

more_stops : (a : Ask) (q r : ParticipantParts) → with_ask a q ≡ Some r → StopsLast r
more_stops a (MakesRounds set rounds may_crash spares_reads) r is = absurd cc
more_stops a (TakesTurns namespace turns may_crash) r is = absurd cc
more_stops a (SendsRequests asks) r is = go (is_over asks) refl
  where
    go : (b : Bool) → is_over asks ≡ b → StopsLast r
    go true over =
        let refused : None ≡ Some r = sym (ap (λ b. if b then None else Some (SendsRequests (asks ++ a ∷ []))) over) ∙ is in
        absurd cc
    go false over =
        let longer : Some (SendsRequests (asks ++ a ∷ [])) ≡ Some r = sym (ap (λ b. if b then None else Some (SendsRequests (asks ++ a ∷ []))) over) ∙ is in
        subst StopsLast (given _ _ longer) (last_more asks a (or_parts (nat_le 256 (length asks)) (has_crashed asks) over).1)

-- a request put behind the others at a place
pub record AsLong (qs rs : List ParticipantParts) : Type 0 where
  pub long : length rs ≡ length qs
  pub last : AllByRecursion StopsLast rs

asked : (qs rs : List ParticipantParts) (place : ℕ) (a : Ask) → with_ask_at qs place a ≡ Some rs → AllByRecursion StopsLast qs → AsLong qs rs
asked qs rs place a is all =
    let found = gave (slice_get qs place) (λ q. option_map (λ more. set qs place more) (with_ask a q)) rs is in
    let more = mapped (with_ask a found.value) (λ more. set qs place more) rs found.next in
    subst (AsLong qs) more.next
    (record { long = length-set qs place more.value; last = each_set StopsLast qs place more.value all (more_stops a found.value more.value more.first) })

numbered : (ls ms : List (List ℕ)) (place n : ℕ) → with_number_at ls place n ≡ Some ms → length ms ≡ length ls
numbered ls ms place n is =
    let more = mapped (slice_get ls place) (λ before. set ls place (before ++ n ∷ [])) ms is in
    ap length (sym more.next) ∙ length-set ls place (more.value ++ n ∷ [])

-- ---- lines
abbrev joined : RaceParts → (line : ℕ) → Option ℕ → ParticipantParts → RaceParts
joined p line caller q = record p { participants = p.participants ++ q ∷ []; callers = p.callers ++ caller ∷ []; lines = p.lines ++ (line ∷ []) ∷ [] }

joins : (p r : RaceParts) (line : ℕ) (caller : Option ℕ) (q : ParticipantParts) → with_participant p line caller q ≡ Some r → StopsLast q → IsSound p → IsSound r
joins p r line caller q is stops sound = go (nat_lt (length p.participants) 64) refl
  where
    go : (b : Bool) → nat_lt (length p.participants) 64 ≡ b → IsSound r
    go true room =
        let longer : Some (joined p line caller q) ≡ Some r = sym (ap (λ b. if b then Some (joined p line caller q) else None) room) ∙ is in
        subst IsSound (given _ _ longer) (record {
          callers = one_more p.callers p.participants caller q sound.callers;
          lines = one_more p.lines p.participants (line ∷ []) q sound.lines;
          last = each_more StopsLast p.participants q sound.last stops;
        })
    go false room =
        let refused : None ≡ Some r = sym (ap (λ b. if b then Some (joined p line caller q) else None) room) ∙ is in
        absurd cc

begins : (ps : List ParticipantParts) (p r : RaceParts) (request : Request) → with_begun ps p request ≡ Some r → IsSound p → IsSound r
begins [] p r request is sound = subst IsSound (given _ _ is) (record { callers = sound.callers; lines = sound.lines; last = sound.last })
begins (q ∷ ps) p r request is sound = absurd cc

sends : (p : RaceParts) (sent : Sent) → IsSound p → IsSound (with_sent p sent)
sends p sent sound = record { callers = sound.callers; lines = sound.lines; last = sound.last }

asks_first : (p r : RaceParts) (line caller : ℕ) (a : Ask) → with_first p line caller a ≡ Some r → IsSound p → IsSound r
asks_first p r line caller a is sound =
    let sent : Sent = record { caller = caller; participant = length p.participants; index = 0 } in
    let one = mapped (with_participant p line (Some caller) (SendsRequests (a ∷ []))) (λ q. with_sent q sent) r is in
    subst IsSound one.next (sends one.value sent (joins p one.value line (Some caller) (SendsRequests (a ∷ [])) one.first ((λ crashes. refl), tt) sound))

asks_next : (p r : RaceParts) (line caller : ℕ) (a : Ask) (place : ℕ) → with_next p line caller a place ≡ Some r → IsSound p → IsSound r
asks_next p r line caller a place is sound =
    let sent : Sent = record { caller = caller; participant = place; index = length (slice_index_or p.lines place []) } in
    let more = gave (with_ask_at p.participants place a) (λ qs. with_number_at p.lines place line >>= λ ls. Some (with_sent (record p { participants = qs; lines = ls }) sent)) r is in
    let ls = gave (with_number_at p.lines place line) (λ ls. Some (with_sent (record p { participants = more.value; lines = ls }) sent)) r more.next in
    let long = asked p.participants more.value place a more.first sound.last in
    let numbers = numbered p.lines ls.value place line ls.first in
    subst IsSound (given _ _ ls.next) (record {
      callers = sound.callers ∙ sym long.long;
      lines = numbers ∙ (sound.lines ∙ sym long.long);
      last = long.last;
    })

asks_at : (place : Option ℕ) (p r : RaceParts) (line caller : ℕ) (a : Ask) → with_request p line caller a place ≡ Some r → IsSound p → IsSound r
asks_at None p r line caller a is sound = asks_first p r line caller a is sound
asks_at (Some place) p r line caller a is sound = asks_next p r line caller a place is sound

line_sound : (said : LineParts) (p r : RaceParts) (line : ℕ) → with_line p line said ≡ Some r → IsSound p → IsSound r
line_sound (Begins request) p r line is sound = begins p.participants p r request is sound
line_sound (Asks caller a) p r line is sound = asks_at (position (is_caller caller) p.callers) p r line caller a is sound
line_sound (Rounds set rounds may_crash) p r line is sound = joins p r line None (MakesRounds set rounds may_crash true) is tt sound
line_sound (Turns namespace turns may_crash) p r line is sound = joins p r line None (TakesTurns namespace turns may_crash) is tt sound

-- ---- what is read
by_place : (asks : List Ask) → Last asks → (i : ℕ) (a : Ask) → slice_get asks i ≡ Some a → a.crashes ≡ true → length asks ≡ i + 1
by_place [] last i a is crashes = absurd cc
by_place (b ∷ asks) last zero a is crashes = ap (λ l. length (b ∷ l)) (last.0 (ap (λ (x : Ask). x.crashes) (given b a is) ∙ crashes))
by_place (b ∷ asks) last (suc i) a is crashes = let rest : length asks ≡ i + 1 = by_place asks last.1 i a is crashes in omega arith

crashes_last : (q : Participant) → StopsLast (participant_parts q) → CrashesLast q
crashes_last (Caller caller) stops = by_place caller.asks.items stops
crashes_last (Controller set rounds may_crash spares_reads) stops = tt
crashes_last (Kubelet namespace turns may_crash) stops = tt

pub each_last : (qs : List Participant) → AllByRecursion StopsLast (map participant_parts qs) → EachCrashesLast qs
each_last [] all n q is = absurd cc
each_last (p ∷ qs) all zero q is = subst CrashesLast (given p q is) (crashes_last p all.0)
each_last (p ∷ qs) all (suc n) q is = each_last qs all.1 n q is

pub callers_each : (r : WrittenRace) → IsSound (race_parts r) → length r.callers.items ≡ length r.participants.items
callers_each r sound = sound.callers ∙ length-map r.participants.items participant_parts

pub lines_each : (r : WrittenRace) → IsSound (race_parts r) → length r.lines.items ≡ length r.participants.items
lines_each r sound = sym (length-map r.lines.items (λ ns. ns.items)) ∙ (sound.lines ∙ length-map r.participants.items participant_parts)

-- ---- the lines of a text
lines_sound : (ls : List (List ℕ)) (n : ℕ) (p r : RaceParts) → with_lines p n ls ≡ Some r → IsSound p → IsSound r
lines_sound [] n p r is sound = subst IsSound (given _ _ is) (record { callers = sound.callers; lines = sound.lines; last = sound.last })
lines_sound (l ∷ ls) n p r is sound =
    let said = gave (line_of l) (λ said. with_line p n said >>= λ more. with_lines more (n + 1) ls) r is in
    let more = gave (with_line p n said.value) (λ more. with_lines more (n + 1) ls) r said.next in
    lines_sound ls (n + 1) more.value r more.next (line_sound said.value p more.value n more.first sound)

opened_sound : (first : List ℕ) (p : RaceParts) → opened first ≡ Some p → IsSound p
opened_sound first p is =
    let members = gave (line_members first) (λ ms. option_map opened_by (count_in (codes "capacity") ms)) p is in
    let capacity = mapped (count_in (codes "capacity") members.value) opened_by p members.next in
    subst IsSound capacity.next (record { callers = refl; lines = refl; last = tt })

by_lines : (ls : List (List ℕ)) (r : RaceParts) → race_by ls ≡ Some r → IsSound r
by_lines [] r is = absurd cc
by_lines (first ∷ rest) r is =
    let opening = gave (opened first) (λ p. with_lines p 0 rest) r is in
    lines_sound rest 0 opening.value r opening.next (opened_sound first opening.value opening.first)

-- what is read is sound
pub text_sound : (text : List ℕ) (r : RaceParts) → race_of text ≡ Some r → IsSound r
unfolding race_of
text_sound text r is = by_lines (lines text) r is

sound_if_read : (result : Result WrittenRace ScriptError) (text : List ℕ) → Reads race_parts result (race_of text) → IfOk result (λ (r : WrittenRace). IsSound (race_parts r))
sound_if_read (Ok r) text reads = text_sound text (race_parts r) reads
sound_if_read (Err e) text reads = tt

-- of a text whose first line opens it
pub read_sound : (result : Result WrittenRace ScriptError) (text first : List ℕ) (rest : List (List ℕ)) (p : RaceParts) → lines text ≡ first ∷ rest → opened first ≡ Some p
    → Reads race_parts result (with_lines p 0 rest) → IfOk result (λ (r : WrittenRace). IsSound (race_parts r))
unfolding race_of
read_sound result text first rest p cut opens reads =
    sound_if_read result text (subst (Reads race_parts result) (sym (ap race_by cut ∙ ap (λ o. o >>= λ q. with_lines q 0 rest) opens)) reads)
