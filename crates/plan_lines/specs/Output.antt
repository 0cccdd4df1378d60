-- What was written of some lines, and which fault ended the writing: a failure of the writer is counted if the fault is
-- that, and otherwise not.
use Rattle.std.specs.Prelude.{◌≡◌, ◌<◌, ℕ, List, ◌++◌, Option, Result, Ok, Err}
use Rattle.plain.specs.Streams.{Puts}
use Rattle.plan_lines.specs.declared.output.OutputFault.{OutputFault}
use Rattle.plan_lines.specs.declared.output.OutputFault.TheVariants.{Write, Memory}

-- the writer's failures before and after
abbrev pub CountsWrites : {A : Type 0} → Result A OutputFault → ℕ → ℕ → Type 0
CountsWrites (Ok x) old new = new ≡ old
CountsWrites (Err Write) old new = old < new
CountsWrites (Err Memory) old new = new ≡ old

-- ---- for private clauses

-- a prefix of these bytes was put after what was there, and this is the rest
abbrev pub PutsBut : Option (List ℕ) → (bytes rest : List ℕ) → Option (List ℕ) → Type 0
PutsBut old bytes rest new = (put : List ℕ) × (bytes ≡ put ++ rest) × Puts old put new
