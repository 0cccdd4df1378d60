-- What a reader has left and what a writer was given, if the device says.
use Rattle.std.specs.Prelude.{◌≡◌, ◌≤◌, ◌<◌, ◌+◌, ◌⊎◌, ℕ, List, [], ◌++◌, length, Option, Some, None, ⊤}
use Rattle.std.specs.Option.{IfSome}

-- these bytes were read from the front of what was left
abbrev pub Takes : Option (List ℕ) → List ℕ → Option (List ℕ) → Type 0
Takes None taken new = ⊤
Takes (Some left) taken new = (rest : List ℕ) × (left ≡ taken ++ rest) × (new ≡ Some rest)

-- these bytes were put after what was there
abbrev pub Puts : Option (List ℕ) → List ℕ → Option (List ℕ) → Type 0
Puts None put new = ⊤
Puts (Some written) put new = new ≡ Some (written ++ put)

-- a prefix of these bytes was put after what was there
abbrev pub PutsPart : Option (List ℕ) → List ℕ → Option (List ℕ) → Type 0
PutsPart old bytes new = (text : List ℕ) × (more : List ℕ) × (bytes ≡ text ++ more) × Puts old text new

-- of the room that there was, so many bytes were used, at most
abbrev pub UsesRoom : Option ℕ → ℕ → Option ℕ → Type 0
UsesRoom None used new = ⊤
UsesRoom (Some room) used None = ⊥
UsesRoom (Some room) used (Some left) = room ≤ left + used

-- the room is too little for these bytes
abbrev pub LacksRoom : Option ℕ → List ℕ → Type 0
LacksRoom None bytes = ⊤
LacksRoom (Some room) bytes = room < length bytes

-- there is no room left, and there are bytes
abbrev pub IsFull : Option ℕ → List ℕ → Type 0
IsFull None bytes = ⊤
IsFull (Some room) bytes = (room ≡ 0) × (0 < length bytes)

-- A serving that ended early, from what the reader had and has left and what the writer had and has. Of the bytes that
-- were read a prefix of the replies was written: of those to the lines that ended, or of those to all lines if the
-- reader has come to its end.
abbrev pub ServesPart : (ended all : List ℕ → List ℕ) → Option (List ℕ) → Option (List ℕ) → Option (List ℕ) → Option (List ℕ) → Type 0
ServesPart ended all had left before after =
    (consumed : List ℕ) × Takes had consumed left × (PutsPart before (ended consumed) after ⊎ (IfSome had (λ _. left ≡ Some []) × PutsPart before (all consumed) after))

-- the same if all lines that ended are answered, and nothing else
abbrev pub ServesEnded : (List ℕ → List ℕ) → Option (List ℕ) → Option (List ℕ) → Option (List ℕ) → Option (List ℕ) → Type 0
ServesEnded ended had left before after = (consumed : List ℕ) × Takes had consumed left × Puts before (ended consumed) after
