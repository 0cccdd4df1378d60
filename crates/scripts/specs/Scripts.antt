-- The script in a text: its first line has the size of the store, and each other line is an event.
use Rattle.std.specs.Prelude.{ℕ, List, [], ◌∷◌, codes, Option, Some, None, option_map}
use Rattle.serde_json.specs.Data.{Members}
use Rattle.plain.specs.Lines.{lines}
use Rattle.interleavings.specs.declared.event.Event.{Event}
use Rattle.interleavings.specs.World.{Size}
use Rattle.scripts.specs.declared.header.Header.{Header}
use Rattle.scripts.specs.declared.script.Script.{Script}
use Rattle.scripts.specs.Events.{◌>>=◌, count_in, event_of, line_members}

abbrev pub size_in : Members → Option Size
size_in ms = do
  capacity ← count_in (codes "capacity") ms
  shards ← count_in (codes "shards") ms
  Some (record { capacity = capacity; shards = shards })

abbrev pub header_of : List ℕ → Option Size
header_of line = line_members line >>= size_in

-- how a line is read, by its members
abbrev pub line_by : {A : Type 0} → (read : Members → Option A) → List ℕ → Option A
line_by read line = line_members line >>= read

-- how each of these is read, if each can be read
abbrev pub each_of : {A B : Type 0} → (A → Option B) → List A → Option (List B)
each_of read [] = Some []
each_of read (x ∷ xs) = read x >>= λ y. option_map (λ ys. y ∷ ys) (each_of read xs)

-- lines of which the first is read as a header and each other one as an event
abbrev pub script_by : {A B : Type 0} → (header : List ℕ → Option A) → (event : List ℕ → Option B) → List (List ℕ) → Option (A × List B)
script_by header event [] = None
script_by header event (first ∷ rest) = header first >>= λ h. option_map (λ es. (h, es)) (each_of event rest)

unfoldable pub script_of : List ℕ → Option (Size × List Event)
script_of text = script_by header_of event_of (lines text)

abbrev pub parts_of : Script → Size × List Event
parts_of s = (record { capacity = s.capacity; shards = s.shards }, s.events.items)

abbrev pub size_of : Header → Size
size_of h = record { capacity = h.capacity; shards = h.shards }
