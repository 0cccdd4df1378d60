-- What a reply says holds of whatever its caller sees later; and the running store's clauses say it of each reply.
use Rattle.std.proofs.Common.{◌≡◌, ℕ, zero, suc, ◌+◌, ◌-◌, ◌==◌, ◌<◌, ◌≤◌, Bool, true, false, List, [], ◌∷◌, ◌++◌, length, take, None, refl, sym, ap, ◌∙◌, subst, nat_le, if◌then◌else◌, Result, Ok, Err, IfOk, arith, ne_eqb}
use Rattle.std.proofs.Math.Seq.{take-length}
use Rattle.std.proofs.lemmas.List.{take-append-le}
use Rattle.std.specs.Prelude.{OnErr}
use mathlib.Core.List.{IsPrefix}
use mathlib.Core.Option.{some}
use lib.ListN.{get_elem?}
use Rattle.objects.specs.declared.kind.Kind.{Kind}
use Rattle.plain_store.specs.Store.{step}
use Rattle.requests.specs.declared.reply.Reply.{Reply}
use Rattle.requests.specs.declared.request.Request.{Request}
use Rattle.requests.specs.declared.request.Request.TheVariants as request
use Rattle.requests.specs.Verdict.{is_write}
use Rattle.line.proofs.Fronts.{prefix_length, prefix_self, prefix_trans}
use Rattle.line.proofs.Logs.{some_ne}
use Rattle.store.specs.History.{IsHistory, store_after}
use Rattle.store.specs.Callers.{Caller, GoesOn, HasRead}
use Rattle.store.specs.Tickets.{IsReply, IsTicketOf, Ticket, WritesOwn, after_reply}
use Rattle.racing.specs.Answered.{HasReply, IsAnswered, Learns, reads_now}

-- ---- a caller that has seen more

pub learns_self : (c : Caller) → Learns c c
learns_self c = record { name = refl; begins = prefix_self c.seen; observations = prefix_self c.observations }

pub learns_trans : (c d e : Caller) → Learns c d → Learns d e → Learns c e
learns_trans c d e p q = record {
  name = q.name ∙ p.name;
  begins = prefix_trans c.seen d.seen e.seen p.begins q.begins;
  observations = prefix_trans c.observations d.observations e.observations p.observations q.observations;
}

at_more : {A : Type 0} (xs zs : List A) (n : ℕ) (a : A) → get_elem? xs n ≡ some a → get_elem? (xs ++ zs) n ≡ some a
at_more [] zs n a at = absurd (some_ne a at)
at_more (x ∷ xs) zs zero a at = at
at_more (x ∷ xs) zs (suc n) a at = at_more xs zs n a at

at_later : {A : Type 0} (xs ys : List A) (n : ℕ) (a : A) → IsPrefix xs ys → get_elem? xs n ≡ some a → get_elem? ys n ≡ some a
at_later {A} xs ys n a p at = subst (λ (l : List A). get_elem? l n ≡ some a) p.1 (at_more xs p.0 n a at)

-- what is that long has as many
pub within : {A : Type 0} (n : ℕ) (xs : List A) → length (take n xs) ≡ n → n ≤ length xs
within zero xs long = omega arith
within (suc n) [] long = absurd (omega arith)
within (suc n) (x ∷ xs) long = let h = within n xs (omega arith) in omega arith

pub answered_later : (shards capacity : ℕ) (c d : Caller) (r : Request) (reply : Reply) (n : ℕ) → Learns c d → IsAnswered shards capacity c r reply n
    → IsAnswered shards capacity d r reply n
answered_later shards capacity c d r reply n learns is = record {
  history = subst (IsHistory capacity) (sym (same n known)) is.history;
  long = ap length (same n known) ∙ is.long;
  held = λ write.
      let h = is.held write in
      record {
        key = h.key;
        named = h.named;
        at = h.at;
        entry = h.entry;
        there = at_later c.observations d.observations h.at h.entry learns.observations h.there;
        home = h.home;
      };
  accepted = λ write yes.
      let a = is.accepted write yes in
      record {
        write = a.write;
        positive = a.positive;
        there = at_later c.seen d.seen (n - 1) a.write learns.begins a.there;
        request_is = a.request_is;
        by_is = a.by_is ∙ sym learns.name;
        reply_is = a.reply_is ∙ after (n - 1) (let k = known in omega arith);
      };
  other = λ write no. is.other write no ∙ after n known;
  read = λ now. is.read now ∙ after n known;
}
  where
    known : n ≤ length c.seen
    known = within n c.seen is.long

    same : (k : ℕ) → k ≤ length c.seen → take k d.seen ≡ take k c.seen
    same k inside = ap (take k) (sym learns.begins.1) ∙ take-append-le k c.seen learns.begins.0 inside

    after : (k : ℕ) → k ≤ length c.seen → (step (store_after capacity (take k c.seen)) r).1 ≡ (step (store_after capacity (take k d.seen)) r).1
    after k inside = ap (λ h. (step (store_after capacity h) r).1) (sym (same k inside))

-- ---- reads

pub read_learns : (capacity : ℕ) (c d : Caller) → HasRead capacity c d → Learns c d
read_learns capacity c d has = record { name = has.on.name; begins = has.on.begins; observations = has.on.observations }

no_write : (r : Request) → is_write r ≡ false → is_write r ≡ true → ⊥
no_write r is not_so = let k : false ≡ true = sym is ∙ not_so in absurd cc

pub answered_to_read : (shards capacity : ℕ) (r : Request) (reply : Reply) (c d : Caller) → HasRead capacity c d → is_write r ≡ false
    → (reads_now r ≡ true → reply ≡ (step (store_after capacity d.seen) r).1) → HasReply shards capacity c d r reply (length d.seen)
answered_to_read shards capacity r reply c d has reads is = record {
  learns = read_learns capacity c d has;
  later = prefix_length c.seen d.seen has.on.begins;
  answered = record {
    history = subst (IsHistory capacity) (sym whole) has.history;
    long = ap length whole;
    held = λ write. absurd (no_write r reads write);
    accepted = λ write yes. absurd (no_write r reads write);
    other = λ write no. absurd (no_write r reads write);
    read = λ now. is now ∙ ap (λ h. (step (store_after capacity h) r).1) (sym whole);
  };
}
  where
    whole : take (length d.seen) d.seen ≡ d.seen
    whole = take-length d.seen

-- a list of the past: only that there is a history
past : (exact : ℕ) → 0 < exact → (exact == 0) ≡ true → ⊥
past exact above is = let k : false ≡ true = sym (ne_eqb exact 0 (λ e. absurd (omega arith))) ∙ is in absurd cc

pub answered_of_past : {E : Type 0} (shards capacity : ℕ) (kind : Kind) (namespace : List ℕ) (exact : ℕ) (r : Result Reply E) (c d : Caller) → HasRead capacity c d
    → 0 < exact → IfOk r (λ reply. HasReply shards capacity c d (request.List kind namespace exact) reply (length d.seen))
answered_of_past shards capacity kind namespace exact (Ok reply) c d has above =
    answered_to_read shards capacity (request.List kind namespace exact) reply c d has refl (λ now. absurd (past exact above now))
answered_of_past shards capacity kind namespace exact (Err e) c d has above = tt

-- ---- writes

-- a write that was submitted, or for which there was no memory
pub submitted : {E : Type 0} (r : Result Ticket E) (c d : Caller) → IsPrefix c.seen d.seen → IfOk r (λ t. WritesOwn c t d) → OnErr r (GoesOn c d) → Learns c d
submitted (Ok t) c d begins own on = record { name = own.name_is; begins = begins; observations = own.observations_stay }
submitted (Err e) c d begins own on = record { name = on.name; begins = begins; observations = on.observations }

no_read : (r : Request) → is_write r ≡ true → reads_now r ≡ true → ⊥
no_read (request.Get key) write now = absurd cc
no_read (request.List kind namespace exact) write now = absurd cc
no_read r write now = absurd cc

pub answered_to_write : (shards capacity : ℕ) (t : Ticket) (reply : Reply) (c d : Caller) → IsTicketOf shards capacity t c → HasRead capacity c d
    → IsReply capacity t reply d → (t.since ≤ t.place) × IsAnswered shards capacity d t.request reply t.place
answered_to_write shards capacity t reply c d mine has is = (
  is.since,
  record {
    history = is.history;
    long = is.long;
    held = λ write. record {
      key = mine.key;
      named = mine.named;
      at = mine.at;
      entry = mine.entry;
      there = at_later c.observations d.observations mine.at mine.entry has.on.observations mine.there;
      home = mine.home;
    };
    accepted = λ write yes.
        let w = is.written yes in
        record { write = w.0; positive = w.1; there = w.2; request_is = w.3; by_is = w.4; reply_is = w.5 };
    other = λ write no. is.answered no;
    read = λ now. absurd (no_read t.request mine.write now);
  },
)

-- the reply to a ticket, after tries that changed neither its write nor its numbers
pub replied_to : (shards capacity : ℕ) (c d e : Caller) (r asked : Request) (reply : Reply) (since place number : ℕ) → Learns c d → Learns d e → asked ≡ r
    → since ≡ length c.seen → number ≡ place → (since ≤ place) × IsAnswered shards capacity e asked reply place → HasReply shards capacity c e r reply number
replied_to shards capacity c d e r asked reply since place number p q asked_is since_is number_is is = record {
  learns = learns_trans c d e p q;
  later = let l = is.0 in let s = since_is in let n = number_is in omega arith;
  answered =
      subst (λ n. IsAnswered shards capacity e r reply n) (sym number_is)
      (subst (λ (a : Request). IsAnswered shards capacity e a reply place) asked_is is.1);
}

chosen : (b : Bool) (t : Ticket)
    → ((if b then record t { reply = None } else t).request ≡ t.request) × ((if b then record t { reply = None } else t).since ≡ t.since)
    × ((if b then record t { reply = None } else t).place ≡ t.place)
chosen true t = (refl, refl, refl)
chosen false t = (refl, refl, refl)

-- a try changes neither the write of a ticket nor its numbers
pub tried : (t : Ticket) (f : ℕ) → ((after_reply t f).request ≡ t.request) × ((after_reply t f).since ≡ t.since) × ((after_reply t f).place ≡ t.place)
tried t f = chosen (nat_le t.saw f) t
