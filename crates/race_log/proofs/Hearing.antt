-- What was noted of each caller, and what it still has to add, are together all its calls and replies.
use Rattle.std.proofs.Common.{◌≡◌, ◌≢◌, ℕ, ◌+◌, ◌<◌, ◌≤◌, ◌==◌, Bool, true, false, cond, ◌⊎◌, inl, inr, List, [], ◌∷◌, ◌++◌, length, map, take, drop, get_or, Option, Some, None, refl, sym, ap, ap₂, ◌∙◌, subst, if◌then◌else◌, arith, append_assoc}
use Rattle.std.specs.List.{filter, flat_map}
use Rattle.std.specs.Option.{is_some}
use Rattle.std.specs.Prelude.{Result, Ok, Err, OnOk}
use Rattle.std.specs.List.Sorted.{IsPermutation, IsSorted}
use Rattle.std.proofs.lemmas.Bool.Decides.{eqb_tells}
use Rattle.std.proofs.lemmas.List.{append-nil, map-append, take_all, take_more, drop_all}
use Rattle.std.proofs.lemmas.List.Elements.{filter-append}
use Rattle.std.proofs.lemmas.List.Sorted.{sum_by-IsPermutation}
use Rattle.std.proofs.lemmas.List.Sums.{sum_by-cons, sum_by-drop_more}
use Rattle.requests.specs.declared.request.Request.{Request}
use Rattle.requests.specs.declared.reply.Reply.{Reply}
use Rattle.interleavings.specs.declared.trace.Item.{Item}
use Rattle.interleavings.specs.declared.trace.Item.TheVariants as item
use Rattle.race_log.specs.declared.merge.Queues.{Queues}
use Rattle.race_log.specs.declared.merge.Waiting.{Waiting}
use Rattle.race_log.specs.declared.part.Part.{Part}
use Rattle.race_log.specs.declared.part.TimedExchange.{TimedExchange}
use Rattle.race_log.specs.declared.stamp.Stamp.{Stamp}
use Rattle.race_log.specs.Logged.{Noted, stamp_for}
use Rattle.race_log.specs.Merge.{Event, IsByTurns, IsMergeOf, Said, asks, told, event, events_of, exchange_events, noted_events, reply_places, said_by, stamped_events, stamped_places, turn_cmp, turn_of}
use Rattle.race_log.specs.Waiting.{Alternates, AreExchanges, AreTurnsOf, HasHeard, HasNext, Hears, Holds, Midway, left_of, turns_left}

-- one event more, of the caller or of another one
said_more : (caller : ℕ) (es : List Event) (e : Event) (b : Bool) → (e.caller == caller) ≡ b
    → said_by caller (es ++ e ∷ []) ≡ said_by caller es ++ map (λ (e : Event). e.said) (cond b (e ∷ []) [])
said_more caller es e b is =
    ap (map (λ (e : Event). e.said)) (filter-append (λ (e : Event). e.caller == caller) es (e ∷ []))
    ∙ map-append (λ (e : Event). e.said) (filter (λ (e : Event). e.caller == caller) es) (filter (λ (e : Event). e.caller == caller) (e ∷ []))
    ∙ ap (λ b. said_by caller es ++ map (λ (e : Event). e.said) (cond b (e ∷ []) [])) is

itself : (n : ℕ) → (n == n) ≡ true
itself n = go (eqb_tells n n)
  where
    go : (((n == n) ≡ true) × (n ≡ n)) ⊎ (((n == n) ≡ false) × (n ≡ n → ⊥)) → (n == n) ≡ true
    go (inl on) = on.0
    go (inr off) = absurd (off.1 refl)

-- ---- turns

mine : (b : Bool) (n : ℕ) (xs : List Event) (e : Event) → n ≡ length (map (λ (e : Event). e.said) xs)
    → (if b then 1 else 0) + n ≡ length (map (λ (e : Event). e.said) (cond b (e ∷ xs) xs))
mine true n xs e is = omega arith
mine false n xs e is = omega arith

counted : (caller : ℕ) (es : List Event) → turns_left caller (map turn_of es) ≡ length (said_by caller es)
counted caller [] = refl
counted caller (e ∷ es) =
    sum_by-cons (λ (t : ℕ × ℕ). if t.1 == caller then 1 else 0) (turn_of e) (map turn_of es)
    ∙ mine (e.caller == caller) (turns_left caller (map turn_of es)) (filter (λ (e : Event). e.caller == caller) es) e (counted caller es)

-- those that wait, in any order, are the turns of what is to be added
pub turns_of_all : (w : Waiting) (es : List Event) (turns : List (ℕ × ℕ)) → Holds w es → IsPermutation w.turns.items turns → AreTurnsOf turns w.queues
turns_of_all w es turns holds same caller =
    sum_by-IsPermutation (λ (t : ℕ × ℕ). if t.1 == caller then 1 else 0) w.turns.items turns same
    ∙ ap (turns_left caller) holds.turns ∙ counted caller es ∙ ap length (sym (holds.queues caller))

turn_next : (turns : List (ℕ × ℕ)) (at : ℕ) (d : ℕ × ℕ) (caller : ℕ) (b : Bool) → at < length turns → ((get_or turns at d).1 == caller) ≡ b
    → turns_left caller (drop at turns) ≡ (if b then 1 else 0) + turns_left caller (drop (at + 1) turns)
turn_next turns at d caller b inside is =
    sum_by-drop_more (λ (t : ℕ × ℕ). if t.1 == caller then 1 else 0) turns at d inside
    ∙ ap (λ b. (if b then 1 else 0) + turns_left caller (drop (at + 1) turns)) is

-- the caller whose turn it is has something to add
pub has_more : (turns : List (ℕ × ℕ)) (queues : Queues) (at : ℕ) (log : Noted) (left : Queues) (d : ℕ × ℕ) → at < length turns
    → Midway turns queues at log left → 0 < length (left_of (get_or turns at d).1 left)
has_more turns queues at log left d inside midway =
    let caller = (get_or turns at d).1 in
    let turn : turns_left caller (drop at turns) ≡ 1 + turns_left caller (drop (at + 1) turns) = turn_next turns at d caller true inside (itself caller) in
    let turned : turns_left caller (drop at turns) ≡ length (left_of caller left) = midway.turned caller in
    omega arith

-- ---- calls and their replies

-- an exchange of the caller, or of another one
one_exchange : (b : Bool) (me : ℕ) (a : TimedExchange) (es : List Event) → Alternates false (map (λ (e : Event). e.said) es)
    → Alternates false (map (λ (e : Event). e.said) (cond b
    (event a.call me (asks a.request) ∷ cond b (event a.place me (told a.reply (Some a.number)) ∷ es) es)
    (cond b (event a.place me (told a.reply (Some a.number)) ∷ es) es)))
one_exchange true me a es alternates = alternates
one_exchange false me a es alternates = alternates

part_said : (caller me : ℕ) (xs : List TimedExchange) (more : List Event) → Alternates false (said_by caller more)
    → Alternates false (said_by caller (flat_map (exchange_events me) xs ++ more))
part_said caller me [] more alternates = alternates
part_said caller me (a ∷ xs) more alternates =
    one_exchange (me == caller) me a (filter (λ (e : Event). e.caller == caller) (flat_map (exchange_events me) xs ++ more)) (part_said caller me xs more alternates)

parts_said : (caller : ℕ) (parts : List Part) → Alternates false (said_by caller (events_of parts))
parts_said caller [] = tt
parts_said caller (p ∷ parts) = part_said caller p.caller p.exchanges.items (events_of parts) (parts_said caller parts)

pub exchanges_of_all : (w : Waiting) (parts : List Part) → Holds w (events_of parts) → AreExchanges w.queues
exchanges_of_all w parts holds = λ c. subst (Alternates false) (sym (holds.queues c)) (parts_said c parts)

-- ---- a log with one more call or reply

events_call : (items : List Item) (stamps : List Stamp) (place caller : ℕ) (request : Request)
    → stamped_events (items ++ item.Call place caller request ∷ []) stamps ≡ stamped_events items stamps ++ event place caller (asks request) ∷ []
events_call [] stamps place caller request = refl
events_call (item.Call p c q ∷ items) stamps place caller request = ap (λ es. event p c (asks q) ∷ es) (events_call items stamps place caller request)
events_call (item.Reply p c r ∷ items) [] place caller request = ap (λ es. event p c (told r None) ∷ es) (events_call items [] place caller request)
events_call (item.Reply p c r ∷ items) (s ∷ stamps) place caller request =
    ap (λ es. event p c (told r (Some s.number)) ∷ es) (events_call items stamps place caller request)

events_reply : (items : List Item) (stamps : List Stamp) (place caller : ℕ) (reply : Reply) (s : Stamp) → stamped_places stamps ≡ reply_places items
    → stamped_events (items ++ item.Reply place caller reply ∷ []) (stamps ++ s ∷ [])
    ≡ stamped_events items stamps ++ event place caller (told reply (Some s.number)) ∷ []
events_reply [] [] place caller reply s stamped = refl
events_reply [] (t ∷ stamps) place caller reply s stamped = absurd cc
events_reply (item.Call p c q ∷ items) stamps place caller reply s stamped =
    ap (λ es. event p c (asks q) ∷ es) (events_reply items stamps place caller reply s stamped)
events_reply (item.Reply p c r ∷ items) [] place caller reply s stamped = absurd cc
events_reply (item.Reply p c r ∷ items) (t ∷ stamps) place caller reply s stamped =
    let more : stamped_places stamps ≡ reply_places items = cc in
    ap (λ es. event p c (told r (Some t.number)) ∷ es) (events_reply items stamps place caller reply s more)

places_call : (items : List Item) (place caller : ℕ) (request : Request) → reply_places (items ++ item.Call place caller request ∷ []) ≡ reply_places items
places_call [] place caller request = refl
places_call (item.Call p c q ∷ items) place caller request = places_call items place caller request
places_call (item.Reply p c r ∷ items) place caller request = ap (λ ps. p ∷ ps) (places_call items place caller request)

places_reply : (items : List Item) (place caller : ℕ) (reply : Reply)
    → reply_places (items ++ item.Reply place caller reply ∷ []) ≡ reply_places items ++ place ∷ []
places_reply [] place caller reply = refl
places_reply (item.Call p c q ∷ items) place caller reply = places_reply items place caller reply
places_reply (item.Reply p c r ∷ items) place caller reply = ap (λ ps. p ∷ ps) (places_reply items place caller reply)

-- it has the event, and its stamps are those of its replies
record Noting (caller place : ℕ) (next : Said) (after : List Said) (old new : Noted) : Type 0 where
  noted : noted_events new ≡ noted_events old ++ event place caller next ∷ []
  stamped : stamped_places new.stamps ≡ reply_places new.items
  waits : Alternates (is_some (new.open_calls caller)) after
  others : (c : ℕ) → c ≢ caller → new.open_calls c ≡ old.open_calls c

noting : (caller place : ℕ) (next : Said) (after : List Said) (old new : Noted) (o : Option ℕ) → old.open_calls caller ≡ o
    → stamped_places old.stamps ≡ reply_places old.items → Alternates (is_some o) (next ∷ after) → HasNext caller place next old new
    → Noting caller place next after old new
noting caller place (asks request) after old new (Some p) is stamped alternates has = absurd alternates
noting caller place (asks request) after old new None is stamped alternates (items, opened, stamps) = record {
  noted = ap₂ stamped_events items stamps ∙ events_call old.items old.stamps place caller request;
  stamped = ap stamped_places stamps ∙ stamped ∙ sym (ap reply_places items ∙ places_call old.items place caller request);
  waits = subst (λ o. Alternates (is_some o) after) (sym opened.put) alternates;
  others = opened.others;
}
noting caller place (told reply None) after old new o is stamped alternates has = absurd has
noting caller place (told reply (Some number)) after old new None is stamped alternates has = absurd alternates
noting caller place (told reply (Some number)) after old new (Some call) is stamped alternates (items, heard, stamps) =
    let stamps_are = stamps ∙ ap (λ o. old.stamps ++ stamp_for o number place reply) is in
    record {
      noted = ap₂ stamped_events items stamps_are ∙ events_reply old.items old.stamps place caller reply _ stamped;
      stamped =
          ap stamped_places stamps_are ∙ map-append (λ (s : Stamp). s.reply) old.stamps _ ∙ ap (λ ps. ps ++ place ∷ []) stamped
          ∙ sym (ap reply_places items ∙ places_reply old.items place caller reply);
      waits = subst (λ o. Alternates (is_some o) after) (sym heard.gone) alternates;
      others = heard.others;
    }

-- ---- one turn after another

pub midway_start : (turns : List (ℕ × ℕ)) (queues : Queues) (log : Noted) → AreTurnsOf turns queues → AreExchanges queues
    → log.items ≡ [] → ((c : ℕ) → log.open_calls c ≡ None) → log.stamps ≡ [] → Midway turns queues 0 log queues
midway_start turns queues log are exchanges items open_calls stamps =
    let none : noted_events log ≡ [] = ap₂ stamped_events items stamps in
    record {
      said = λ c. ap (λ es. said_by c es ++ left_of c queues) none;
      stamped = ap stamped_places stamps ∙ sym (ap reply_places items);
      waits = λ c. subst (λ o. Alternates (is_some o) (left_of c queues)) (sym (open_calls c)) (exchanges c);
      callers = ap (map (λ (e : Event). e.caller)) none;
      turned = are;
    }

pub midway_next : (turns : List (ℕ × ℕ)) (queues : Queues) (at : ℕ) (log new : Noted) (left after : Queues) (d : ℕ × ℕ) → at < length turns
    → Midway turns queues at log left → Hears (get_or turns at d).1 log new left after → Midway turns queues (at + 1) new after
midway_next turns queues at log new left after d inside midway hears = record {
  said = λ c. said c (eqb_tells caller c);
  stamped = made.stamped;
  waits = λ c. waits c (eqb_tells caller c);
  callers =
      ap (map (λ (e : Event). e.caller)) made.noted ∙ map-append (λ (e : Event). e.caller) (noted_events log) _
      ∙ ap (λ cs. cs ++ caller ∷ []) midway.callers ∙ sym (map-append (λ (t : ℕ × ℕ). t.1) (take at turns) (get_or turns at d ∷ []))
      ∙ ap (map (λ (t : ℕ × ℕ). t.1)) (sym (take_more turns at d inside));
  turned = λ c. turned c (eqb_tells caller c);
}
  where
    caller : ℕ
    caller = (get_or turns at d).1

    now : Event
    now = event hears.place caller hears.next

    made : Noting caller hears.place hears.next (left_of caller after) log new
    made =
        noting caller hears.place hears.next (left_of caller after) log new (log.open_calls caller) refl midway.stamped
        (subst (Alternates (is_some (log.open_calls caller))) hears.waited (midway.waits caller)) hears.noted

    said : (c : ℕ) → (((caller == c) ≡ true) × (caller ≡ c)) ⊎ (((caller == c) ≡ false) × (caller ≡ c → ⊥))
        → said_by c (noted_events new) ++ left_of c after ≡ left_of c queues
    said c (inl (on, is)) =
        ap (λ es. said_by c es ++ left_of c after) made.noted ∙ ap (λ s. s ++ left_of c after) (said_more c (noted_events log) now true on)
        ∙ append_assoc (said_by c (noted_events log)) (hears.next ∷ []) (left_of c after)
        ∙ ap (λ s. said_by c (noted_events log) ++ s) (subst (λ c. hears.next ∷ left_of c after ≡ left_of c left) is (sym hears.waited)) ∙ midway.said c
    said c (inr (off, differs)) =
        ap (λ es. said_by c es ++ left_of c after) made.noted ∙ ap (λ s. s ++ left_of c after) (said_more c (noted_events log) now false off)
        ∙ ap (λ s. s ++ left_of c after) (append-nil (said_by c (noted_events log)))
        ∙ ap (λ s. said_by c (noted_events log) ++ s) (hears.others c off) ∙ midway.said c

    waits : (c : ℕ) → (((caller == c) ≡ true) × (caller ≡ c)) ⊎ (((caller == c) ≡ false) × (caller ≡ c → ⊥))
        → Alternates (is_some (new.open_calls c)) (left_of c after)
    waits c (inl (on, is)) = subst (λ c. Alternates (is_some (new.open_calls c)) (left_of c after)) is made.waits
    waits c (inr (off, differs)) =
        subst (λ o. Alternates (is_some o) (left_of c after)) (sym (made.others c (λ same. differs (sym same))))
        (subst (Alternates (is_some (log.open_calls c))) (sym (hears.others c off)) (midway.waits c))

    turned : (c : ℕ) → (((caller == c) ≡ true) × (caller ≡ c)) ⊎ (((caller == c) ≡ false) × (caller ≡ c → ⊥))
        → turns_left c (drop (at + 1) turns) ≡ length (left_of c after)
    turned c (inl (on, is)) =
        let turn : turns_left c (drop at turns) ≡ 1 + turns_left c (drop (at + 1) turns) = turn_next turns at d c true inside on in
        let before : turns_left c (drop at turns) ≡ length (left_of c left) = midway.turned c in
        let waited : length (left_of c left) ≡ length (hears.next ∷ left_of c after) = ap length (subst (λ c. left_of c left ≡ hears.next ∷ left_of c after) is hears.waited) in
        omega arith
    turned c (inr (off, differs)) =
        let turn : turns_left c (drop at turns) ≡ 0 + turns_left c (drop (at + 1) turns) = turn_next turns at d c false inside off in
        let before : turns_left c (drop at turns) ≡ length (left_of c left) = midway.turned c in
        let others : length (left_of c after) ≡ length (left_of c left) = ap length (hears.others c off) in
        omega arith

none_left : (s : List Said) → 0 ≡ length s → s ≡ []
none_left [] none = refl
none_left (x ∷ s) none = absurd (omega arith)

pub midway_end : (turns : List (ℕ × ℕ)) (queues : Queues) (at : ℕ) (log : Noted) (left : Queues) → length turns ≤ at → Midway turns queues at log left
    → HasHeard log queues turns
midway_end turns queues at log left all midway = record {
  callers = midway.callers ∙ ap (map (λ (t : ℕ × ℕ). t.1)) (take_all at turns all);
  said = λ c.
      sym (append-nil (said_by c (noted_events log)))
      ∙ ap (λ s. said_by c (noted_events log) ++ s) (sym (none_left (left_of c left) (sym (ap (turns_left c) (drop_all at turns all)) ∙ midway.turned c))) ∙ midway.said c;
  stamped = midway.stamped;
}

pub merge_of : (parts : List Part) (log : Noted) (w : Waiting) (order : List (ℕ × ℕ)) → Holds w (events_of parts) → HasHeard log w.queues order
    → IsMergeOf parts log
merge_of parts log w order holds heard = record { said = λ c. heard.said c ∙ holds.queues c; stamped = heard.stamped }

pub by_turns_of : (parts : List Part) (log : Noted) (w : Waiting) (order : List (ℕ × ℕ)) → Holds w (events_of parts) → IsPermutation w.turns.items order
    → IsSorted turn_cmp order → HasHeard log w.queues order → IsByTurns parts log
by_turns_of parts log w order holds same sorted heard = record {
  turns = order;
  drawn = subst (λ turns. IsPermutation turns order) holds.turns same;
  sorted = sorted;
  callers = heard.callers;
}

-- ---- what holds of a call that succeeds

pub on_ok_two : {T E P Q S : Type 0} (r : Result T E) → (P → Q → S) → OnOk r P → OnOk r Q → OnOk r S
on_ok_two (Ok x) f p q = f p q
on_ok_two (Err e) f p q = tt

pub on_ok_three : {T E P Q R S : Type 0} (r : Result T E) → (P → Q → R → S) → OnOk r P → OnOk r Q → OnOk r R → OnOk r S
on_ok_three (Ok x) f p q s = f p q s
on_ok_three (Err e) f p q s = tt
