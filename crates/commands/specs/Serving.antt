-- What a run of `stsctl serve` has done, as far as the devices show it.
use Rattle.std.specs.Prelude.{◌≡◌, ◌≤◌, ◌<◌, ℕ, List, [], Option, Some}
use Rattle.std.specs.Option.{IfSome}
use Rattle.clap.specs.Words.{Text}
use Rattle.plain.specs.Served.{served, served_so_far}
use Rattle.plain.specs.Streams.{Puts, ServesPart}
use Rattle.plain_store.specs.Reached.{most_revisions}
use Rattle.commands.specs.Grammar.{AsksFor, Serve, asked}

-- All of the reader's bytes were read, and the replies of a plain store with this capacity to them were written.
abbrev pub ServesAll : ℕ → Option (List ℕ) → Option (List ℕ) → Option (List ℕ) → Option (List ℕ) → Type 0
ServesAll capacity had left before after = IfSome had (λ input. (left ≡ Some []) × Puts before (served capacity input) after)

-- the same at the requested capacity
abbrev pub Serves : List Text → Option (List ℕ) → Option (List ℕ) → Option (List ℕ) → Option (List ℕ) → Type 0
Serves words had left before after =
    (capacity : ℕ) × AsksFor words capacity × (1 ≤ capacity) × (capacity ≤ most_revisions) × ServesAll capacity had left before after

-- Some of the reader's bytes were read, and a prefix of the replies of that store to the lines that ended was written,
-- or of its replies to all lines if the reader reached its end.
abbrev pub ServesSome : List Text → Option (List ℕ) → Option (List ℕ) → Option (List ℕ) → Option (List ℕ) → Type 0
ServesSome words had left before after =
    (capacity : ℕ) × AsksFor words capacity × ServesPart (served_so_far capacity) (served capacity) had left before after

-- no store has room for so many revisions
abbrev pub IsOutOfRange : ℕ → Type 0
IsOutOfRange capacity = 1 ≤ capacity → most_revisions < capacity

-- the arguments request to serve a store that cannot be
abbrev pub AsksOutOfRange : List Text → Type 0
AsksOutOfRange words = (asked words ≡ Serve) × ((capacity : ℕ) × AsksFor words capacity × IsOutOfRange capacity)
