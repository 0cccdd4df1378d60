-- A serving, from what the reader and the writer had to what they have.
use Rattle.std.specs.Prelude.{ℕ, List, [], Option}
use Rattle.plain_store.specs.Store.{Store}
use Rattle.plain.specs.Splits.{LeadsTo}
use Rattle.plain.specs.Streams.{Takes, Puts}

-- The replies to these bytes were written, except for what is kept: from a store, bytes and a count of lines, and what
-- the writer had, to those after it.
pub record Answered (s : Store) (bytes : List ℕ) (n : ℕ) (before : Option (List ℕ)) (t : Store) (pending : List ℕ) (m : ℕ) (after : Option (List ℕ)) : Type 0 where
  pub text : List ℕ
  pub put : Puts before text after
  pub reaches : LeadsTo (record { store = s; waiting = bytes; text = []; count = n }) (record { store = t; waiting = pending; text = text; count = m })

-- So far a store has served: from what the reader and the writer had to what they have, and to how far the answering
-- has come.
pub record Serving (s : Store) (had left before after : Option (List ℕ)) (t : Store) (pending : List ℕ) (n : ℕ) : Type 0 where
  pub consumed : List ℕ
  pub taken : Takes had consumed left
  pub answered : Answered s consumed 0 before t pending n after
