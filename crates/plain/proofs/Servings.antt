-- Replies that were written come of the bytes that were read.
use Rattle.std.proofs.Common.{◌≡◌, ℕ, ◌+◌, inl, inr, List, [], ◌++◌, length, refl, sym, ◌∙◌, ap, subst, append_assoc, append-nil, Option, Some, None, Result, Ok, Err}
use Rattle.std.specs.Option.{IfSome}
use Rattle.std.specs.Result.{OnErr, OnOk}
use Rattle.plain_store.specs.Store.{Store}
use Rattle.plain.specs.Lines.{ended_lines, lines}
use Rattle.plain.specs.Served.{answers}
use Rattle.plain.specs.Splits.{NoFeed, LeadsTo}
use Rattle.plain.proofs.LineSplits.{ended-none}
use Rattle.plain.specs.Streams.{Takes, Puts, PutsPart, ServesEnded, ServesPart}
use Rattle.plain.specs.Serving.{Answered, Serving}
use Rattle.plain.specs.declared.server.ServeFault.{ServeFault}
use Rattle.plain.specs.declared.server.ServeFault.TheVariants.{BadCapacity}
use Rattle.plain.specs.Faults.{IsInRange}
use Rattle.plain.proofs.Flows.{Puts-then, Takes-then, Takes-end, Takes-nothing, PutsPart-after, PutsPart-none}

pub on_err : {A E : Type 0} (P : Type 0) (r : Result A E) → P → OnErr r P
on_err P (Ok x) p = tt
on_err P (Err e) p = p

-- nothing was read, and nothing written
pub none_served : {A E : Type 0} (r : Result A E) (ended all : List ℕ → List ℕ) (had before : Option (List ℕ)) → OnErr r (ServesPart ended all had had before before)
none_served r ended all had before = on_err _ r ([], none had, inl (PutsPart-none before (ended [])))
  where
    none : (left : Option (List ℕ)) → Takes left [] left
    none None = tt
    none (Some left) = (left, refl, refl)

-- a prefix of the bytes is one of more bytes
pub PutsPart-more : (old new : Option (List ℕ)) (bytes more : List ℕ) → PutsPart old bytes new → PutsPart old (bytes ++ more) new
PutsPart-more old new bytes more (text, rest, e, p) = (text, rest ++ more, ap (λ b. b ++ more) e ∙ append_assoc text rest more, p)

-- if a part of the replies was written
pub PutsPart-replies : (s t : Store) (bytes start pending text slice : List ℕ) (n m : ℕ) (old new : Option (List ℕ)) → start ≡ [] → LeadsTo (record { store = s; waiting = bytes; text = start; count = n }) (record { store = t; waiting = pending; text = text; count = m }) → slice ≡ text → PutsPart old slice new → PutsPart old (answers s (ended_lines bytes)) new
PutsPart-replies s t bytes start pending text slice n m old new none r e p =
    let all : answers s (ended_lines bytes) ≡ slice ++ answers t (ended_lines (pending ++ [])) =
    ap (λ b. answers s (ended_lines b)) (sym (append-nil bytes)) ∙ (ap (λ b. b ++ answers s (ended_lines (bytes ++ []))) (sym none) ∙
    (r.ended [] ∙ ap (λ b. b ++ answers t (ended_lines (pending ++ []))) (sym e))) in
    subst (λ b. PutsPart old b new) (sym all) (PutsPart-more old new slice (answers t (ended_lines (pending ++ []))) p)

-- some of the lines are answered, and then some more
pub Answered-then : (s t u : Store) (bytes rest later : List ℕ) (n m k : ℕ) (before now after : Option (List ℕ)) →
    Answered s bytes n before t rest m now → Answered t rest m now u later k after → Answered s bytes n before u later k after
Answered-then s t u bytes rest later n m k before now after a b = record {
  text = a.text ++ b.text;
  put = Puts-then before now after a.text b.text a.put b.put;
  reaches = record {
    text = λ more.
        a.reaches.text more ∙ (ap (λ x. a.text ++ x) (b.reaches.text more) ∙ sym (append_assoc a.text b.text (answers u (lines (later ++ more)))));
    ended = λ more.
        a.reaches.ended more ∙ (ap (λ x. a.text ++ x) (b.reaches.ended more) ∙ sym (append_assoc a.text b.text (answers u (ended_lines (later ++ more)))));
    count = λ more. a.reaches.count more ∙ b.reaches.count more;
  };
}

-- a fault after some of the lines were answered
pub Answered-fault : (s t : Store) (bytes rest : List ℕ) (n m : ℕ) (before now then : Option (List ℕ)) →
    Answered s bytes n before t rest m now → PutsPart now (answers t (ended_lines rest)) then → PutsPart before (answers s (ended_lines bytes)) then
Answered-fault s t bytes rest n m before now then a p =
    let all : answers s (ended_lines bytes) ≡ a.text ++ answers t (ended_lines rest) =
    ap (λ b. answers s (ended_lines b)) (sym (append-nil bytes)) ∙ (a.reaches.ended [] ∙ ap (λ b. a.text ++ answers t (ended_lines b)) (append-nil rest)) in
    subst (λ b. PutsPart before b then) (sym all) (PutsPart-after before now then a.text (answers t (ended_lines rest)) a.put p)

pub Serving-next : (s t u : Store) (had left later before after then : Option (List ℕ)) (pending piece next : List ℕ) (n m : ℕ) →
    Serving s had left before after t pending n → Takes left piece later → Answered t (pending ++ piece) n after u next m then → Serving s had later before then u next m
Serving-next s t u had left later before after then pending piece next n m h taken a = record {
  consumed = h.consumed ++ piece;
  taken = Takes-then had left later h.consumed piece h.taken taken;
  answered = record {
    text = h.answered.text ++ a.text;
    put = Puts-then before after then h.answered.text a.text h.answered.put a.put;
    reaches = record {
      text = λ more.
          ap (λ b. answers s (lines b)) (append_assoc h.consumed piece more) ∙ (h.answered.reaches.text (piece ++ more) ∙
          (ap (λ b. h.answered.text ++ answers t (lines b)) (sym (append_assoc pending piece more)) ∙ (ap (λ b. h.answered.text ++ b) (a.reaches.text more) ∙
          sym (append_assoc h.answered.text a.text (answers u (lines (next ++ more)))))));
      ended = λ more.
          ap (λ b. answers s (ended_lines b)) (append_assoc h.consumed piece more) ∙ (h.answered.reaches.ended (piece ++ more) ∙
          (ap (λ b. h.answered.text ++ answers t (ended_lines b)) (sym (append_assoc pending piece more)) ∙ (ap (λ b. h.answered.text ++ b) (a.reaches.ended more) ∙
          sym (append_assoc h.answered.text a.text (answers u (ended_lines (next ++ more)))))));
      count = λ more.
          ap (λ b. 0 + length (lines b)) (append_assoc h.consumed piece more) ∙ (h.answered.reaches.count (piece ++ more) ∙
          (ap (λ b. n + length (lines b)) (sym (append_assoc pending piece more)) ∙ a.reaches.count more));
    };
  };
}

-- a fault after one more piece was read
pub Serving-fault : (s t : Store) (had left later before after then : Option (List ℕ)) (pending piece : List ℕ) (n : ℕ) →
    Serving s had left before after t pending n → Takes left piece later → PutsPart after (answers t (ended_lines (pending ++ piece))) then →
    ServesPart (λ input. answers s (ended_lines input)) (λ input. answers s (lines input)) had later before then
Serving-fault s t had left later before after then pending piece n h taken p = (
  h.consumed ++ piece,
  Takes-then had left later h.consumed piece h.taken taken,
  inl (subst (λ b. PutsPart before b then) (sym (h.answered.reaches.ended piece))
      (PutsPart-after before after then h.answered.text (answers t (ended_lines (pending ++ piece))) h.answered.put p)),
)

-- a failed read
pub Serving-unread : (s t : Store) (had left later before after : Option (List ℕ)) (pending : List ℕ) (n : ℕ) → Serving s had left before after t pending n →
    Takes left [] later → ServesPart (λ input. answers s (ended_lines input)) (λ input. answers s (lines input)) had later before after
Serving-unread s t had left later before after pending n h none =
    Serving-fault s t had left later before after after pending [] n h none (PutsPart-none after (answers t (ended_lines (pending ++ []))))

-- all lines that ended are answered by then
pub Serving-ended : (s t : Store) (had left later before after : Option (List ℕ)) (pending : List ℕ) (n : ℕ) → Serving s had left before after t pending n →
    NoFeed pending → Takes left [] later → ServesEnded (λ input. answers s (ended_lines input)) had later before after
Serving-ended s t had left later before after pending n h begun none =
    let all : answers s (ended_lines (h.consumed ++ [])) ≡ h.answered.text =
    h.answered.reaches.ended [] ∙ (ap (λ b. h.answered.text ++ answers t (ended_lines b)) (append-nil pending) ∙
    (ap (λ ls. h.answered.text ++ answers t ls) (ended-none pending begun) ∙ append-nil h.answered.text)) in (
      h.consumed ++ [],
      Takes-then had left later h.consumed [] h.taken none,
      subst (λ b. Puts before b after) (sym all) h.answered.put,
    )

-- if nothing was left, nothing is
over_still : (had left later : Option (List ℕ)) (consumed : List ℕ) → Takes had consumed left → IfSome left (λ l. l ≡ []) → Takes left [] later → IfSome had (λ _. later ≡ Some [])
over_still None left later consumed taken over none = tt
over_still (Some input) left later consumed taken over none = Takes-nothing left later [] refl (Takes-end input consumed left taken over) none

rest_none : (left : Option (List ℕ)) (rest : List ℕ) → left ≡ Some rest → left ≡ Some [] → rest ≡ []
rest_none left rest is none = cc

-- all lines are answered at the end
pub Serving-all : {A E : Type 0} (r : Result A E) (s t : Store) (had left before after then : Option (List ℕ)) (pending : List ℕ) (n : ℕ) →
    Serving s had left before after t pending n → IfSome left (λ l. l ≡ []) → OnOk r (Puts after (answers t (lines pending)) then) →
    OnOk r (IfSome had (λ input. Puts before (answers s (lines input)) then))
Serving-all (Err e) s t had left before after then pending n h over p = tt
Serving-all (Ok x) s t None left before after then pending n h over p = tt
Serving-all (Ok x) s t (Some input) left before after then pending n h over p =
    let none = rest_none left h.taken.0 h.taken.2 (Takes-end input h.consumed left h.taken over) in
    let all : answers s (lines input) ≡ h.answered.text ++ answers t (lines pending) =
    ap (λ b. answers s (lines b)) (h.taken.1 ∙ ap (λ b. h.consumed ++ b) none) ∙ (h.answered.reaches.text [] ∙ ap (λ b. h.answered.text ++ answers t (lines b)) (append-nil pending)) in
    subst (λ b. Puts before b then) (sym all) (Puts-then before after then h.answered.text (answers t (lines pending)) h.answered.put p)

-- a fault at the last line
pub Serving-last : {A E : Type 0} (r : Result A E) (s t : Store) (had left later before after then : Option (List ℕ)) (pending piece : List ℕ) (n : ℕ) →
    Serving s had left before after t pending n → Takes left piece later → piece ≡ [] → IfSome left (λ l. l ≡ []) → OnErr r (PutsPart after (answers t (lines pending)) then) →
    OnErr r (ServesPart (λ input. answers s (ended_lines input)) (λ input. answers s (lines input)) had later before then)
Serving-last (Ok x) s t had left later before after then pending piece n h taken none over p = tt
Serving-last (Err e) s t had left later before after then pending piece n h taken none over p =
    let nothing : Takes left [] later = subst (λ b. Takes left b later) none taken in
    let all : answers s (lines (h.consumed ++ [])) ≡ h.answered.text ++ answers t (lines pending) =
    h.answered.reaches.text [] ∙ ap (λ b. h.answered.text ++ answers t (lines b)) (append-nil pending) in (
      h.consumed ++ [],
      Takes-then had left later h.consumed [] h.taken nothing,
      inr (over_still had left later h.consumed h.taken over nothing, subst (λ b. PutsPart before b then) (sym all) (PutsPart-after before after then h.answered.text (answers t (lines pending)) h.answered.put p)),
    )

pub in_range : {A : Type 0} (r : Result A ServeFault) → IsInRange r → r ≡ Err BadCapacity → ⊥
in_range r h e = subst IsInRange e h
