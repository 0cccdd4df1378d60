-- A ticket remains one of its caller.
use Rattle.std.proofs.Common.{◌≡◌, ◌⊎◌, ℕ, zero, suc, List, [], ◌∷◌, ◌++◌, sym, subst, arith}
use mathlib.Core.List.{IsPrefix}
use mathlib.Core.Option.{some}
use lib.ListN.{get_elem?}
use Rattle.line.specs.declared.view.Observation.{Observation}
use Rattle.line.proofs.Fronts.{prefix_length}
use Rattle.line.proofs.Logs.{some_ne}
use Rattle.store.specs.declared.writing.Writing.{Writing}
use Rattle.store.specs.Callers.{Caller}
use Rattle.store.specs.Tickets.{IsAnswered, IsTicketOf, IsWritten, Ticket}

at_more : {A : Type 0} (xs zs : List A) (n : ℕ) (a : A) → get_elem? xs n ≡ some a → get_elem? (xs ++ zs) n ≡ some a
at_more [] zs n a at = absurd (some_ne a at)
at_more (x ∷ xs) zs zero a at = at
at_more (x ∷ xs) zs (suc n) a at = at_more xs zs n a at

pub ticket_stays : (shards capacity : ℕ) (t : Ticket) (c d : Caller) → IsTicketOf shards capacity t c → d.name ≡ c.name → IsPrefix c.observations d.observations → IsPrefix c.seen d.seen → IsTicketOf shards capacity t d
ticket_stays shards capacity t c d mine same more begins = record {
  key = mine.key;
  write = mine.write;
  named = mine.named;
  at = mine.at;
  entry = mine.entry;
  there = subst (λ (l : List (Observation Writing)). get_elem? l mine.at ≡ some mine.entry) more.1 (at_more c.observations more.0 mine.at mine.entry mine.there);
  home = mine.home;
  covers = mine.covers;
  since = mine.since;
  loaded = mine.loaded;
  place_is = mine.place_is;
  known = let k = mine.known in let l = prefix_length c.seen d.seen begins in omega arith;
  due = λ x is. subst (λ m. IsWritten capacity t mine.key m (mine.entry).notes x ⊎ IsAnswered capacity t mine.key (mine.entry).notes x) (sym same) (mine.due x is);
}
