-- What a caller has seen and noted, from call to call.
use Rattle.std.proofs.Common.{◌≡◌, ℕ, zero, suc, ◌<◌, ◌≤◌, Result, Ok, Err, IfOk, OnErr, Bool, true, false, cond, List, [], ◌∷◌, length, get_or, nat_lt, ltb-false, Option, Some, None, refl, sym, ap, ◌∙◌, subst, arith}
use mathlib.Core.Option.{some}
use lib.ListN.{get_elem?}
use Rattle.requests.specs.declared.reply.Reason.{Reason}
use Rattle.requests.specs.declared.reply.Reason.TheVariants.{Expired, TooLarge}
use Rattle.plain_store.specs.Store.{denied}
use mathlib.Core.List.{IsPrefix}
use Rattle.line.specs.Notes.{observation, notes_of, notes_up_to}
use Rattle.line.proofs.Fronts.{prefix_self, prefix_trans}
use Rattle.store.specs.declared.writing.Writing.{Writing}
use Rattle.store.specs.History.{IsHistory, by_of}
use Rattle.store.specs.Callers.{Caller, GoesOn, HasRead}
use Rattle.store.specs.Views.{HasLoaded, HasObserved, Stays}

pub goes_self : (c : Caller) → GoesOn c c
goes_self c = record { name = refl; own_notes = refl; observations = prefix_self c.observations; begins = prefix_self c.seen; loads = omega arith }

pub goes_goes : (c d e : Caller) → GoesOn c d → GoesOn d e → GoesOn c e
goes_goes c d e g h = record {
  name = h.name ∙ g.name;
  own_notes = h.own_notes ∙ g.own_notes;
  observations = prefix_trans c.observations d.observations e.observations g.observations h.observations;
  begins = prefix_trans c.seen d.seen e.seen g.begins h.begins;
  loads = let m = g.loads in let n = h.loads in omega arith;
}

pub goes_stays : (c d e : Caller) → GoesOn c d → Stays d e → GoesOn c e
goes_stays c d e g h = record {
  name = h.name ∙ g.name;
  own_notes = h.own_notes ∙ g.own_notes;
  observations = prefix_trans c.observations d.observations e.observations g.observations h.observations;
  begins = subst (IsPrefix c.seen) (sym h.seen) g.begins;
  loads = let m = g.loads in let n = h.loads in omega arith;
}

pub stays_self : (c : Caller) → Stays c c
stays_self c = record { name = refl; own_notes = refl; observations = prefix_self c.observations; loads = refl; seen = refl }

pub stays_stays : (c d e : Caller) → Stays c d → Stays d e → Stays c e
stays_stays c d e g h = record {
  name = h.name ∙ g.name;
  own_notes = h.own_notes ∙ g.own_notes;
  observations = prefix_trans c.observations d.observations e.observations g.observations h.observations;
  loads = h.loads ∙ g.loads;
  seen = h.seen ∙ g.seen;
}

module _ (shards capacity : ℕ) where
  pub goes_loaded : (c d : Caller) (f : ℕ) → HasLoaded shards capacity c f d → GoesOn c d
  goes_loaded c d f h = record { name = h.name; own_notes = h.own_notes; observations = subst (IsPrefix c.observations) (sym h.observations) (prefix_self c.observations); begins = h.begins; loads = let n = h.loads in omega arith }

  pub noted_stays : (floor i n : ℕ) (notes : List (ℕ × Writing)) (c d : Caller) → HasObserved shards capacity i notes floor c n d → Stays c d
  noted_stays floor i n notes c d h = record { name = h.name; own_notes = h.own_notes; observations = (observation i n notes floor ∷ [], sym h.observations); loads = h.loads; seen = h.seen }

  -- after a load, and a read there
  pub has_read : (b c d e : Caller) (f : ℕ) → GoesOn b c → HasLoaded shards capacity c f d → Stays d e → HasRead capacity b e
  has_read b c d e f on h s = record {
    on = goes_stays b d e (goes_goes b c d on (goes_loaded c d f h)) s;
    loaded = let m = on.loads in let n = h.loads in let k = s.loads in omega arith;
    history = subst (IsHistory capacity) (sym s.seen) h.history;
    own_there = ap (λ (l : List Writing). notes_up_to (length l) e.own_notes) s.seen ∙ (ap (notes_up_to (length d.seen)) s.own_notes ∙ (h.own_there ∙ (ap (λ x. notes_of by_of x 1 d.seen) (sym s.name) ∙ ap (notes_of by_of e.name 1) (sym s.seen))));
  }

  -- after a load
  pub loaded_reads : (c d : Caller) (f : ℕ) → HasLoaded shards capacity c f d → HasRead capacity c d
  loaded_reads c d f h = has_read c c d d f (goes_self c) h (stays_self d)

  -- and by one that had learned something from another before
  pub told_reads : (b c d : Caller) (f : ℕ) (reported : List Writing) → c ≡ record b { reported = reported } → HasLoaded shards capacity c f d → HasRead capacity b d
  told_reads b c d f reported told h =
      let on : GoesOn b (record b { reported = reported }) = record { name = refl; own_notes = refl; observations = prefix_self b.observations; begins = prefix_self b.seen; loads = omega arith } in
      has_read b (record b { reported = reported }) d d f on (subst (λ (x : Caller). HasLoaded shards capacity x f d) told h) (stays_self d)

-- ---- a number that is not denied

denied_large : (floor counter n : ℕ) → nat_lt counter n ≡ true → denied floor counter n ≡ Some TooLarge
unfolding denied
denied_large floor counter n less = ap (λ (b : Bool). cond b (Some TooLarge) (cond (nat_lt n floor) (Some Expired) None)) less

pub allowed : (floor counter n : ℕ) (o : Option Reason) → o ≡ denied floor counter n → ((x : Reason) → o ≡ Some x → ⊥) → n ≤ counter
allowed floor counter n o is none = by (nat_lt counter n) refl
  where
    by : (b : Bool) → nat_lt counter n ≡ b → n ≤ counter
    by true less = absurd (none TooLarge (is ∙ denied_large floor counter n less))
    by false high = let l = ltb-false counter n high in omega arith

-- ---- lists

pub at_or : {A : Type 0} (l : List A) (n : ℕ) (x : A) → n < length l → x ≡ get_or l n x → get_elem? l n ≡ some x
at_or [] n x less is = absurd (omega arith)
at_or (y ∷ ys) zero x less is = ap some (sym is)
at_or (y ∷ ys) (suc n) x less is = at_or ys n x (omega arith) is

-- ---- results

pub if_ok : {A E : Type 0} (P Q : A → Type 0) (r : Result A E) → ((x : A) → P x → Q x) → IfOk r P → IfOk r Q
if_ok P Q (Ok x) f h = f x h
if_ok P Q (Err e) f h = tt

pub on_err : {A E : Type 0} {P Q : Type 0} (r : Result A E) → (P → Q) → OnErr r P → OnErr r Q
on_err (Ok x) f h = tt
on_err (Err e) f h = f h
