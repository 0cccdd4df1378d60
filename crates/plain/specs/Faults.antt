-- Which fault ended a serving or the reading of an input: a failure of the reader or of the writer is counted if the
-- fault says so, and not otherwise.
use Rattle.std.specs.Prelude.{◌≡◌, ◌<◌, ℕ, Result, Ok, Err}
use Rattle.plain.specs.declared.devices.input.InputFault.{InputFault}
use Rattle.plain.specs.declared.devices.input.InputFault.TheVariants as input
use Rattle.plain.specs.declared.server.ServeFault.{ServeFault}
use Rattle.plain.specs.declared.server.ServeFault.TheVariants.{Read, Write, Memory, BadCapacity}

-- the reader's failures before and after
abbrev pub CountsReads : {A : Type 0} → Result A ServeFault → ℕ → ℕ → Type 0
CountsReads (Err Read) old new = old < new
CountsReads (Err Write) old new = new ≡ old
CountsReads (Err Memory) old new = new ≡ old
CountsReads (Err BadCapacity) old new = new ≡ old
CountsReads (Ok x) old new = new ≡ old

-- the writer's failures before and after
abbrev pub CountsWrites : {A : Type 0} → Result A ServeFault → ℕ → ℕ → Type 0
CountsWrites (Err Write) old new = old < new
CountsWrites (Err Read) old new = new ≡ old
CountsWrites (Err Memory) old new = new ≡ old
CountsWrites (Err BadCapacity) old new = new ≡ old
CountsWrites (Ok x) old new = new ≡ old

-- the fault, if there is one, is of the writer or of memory
abbrev pub IsWriteOrMemory : {A : Type 0} → Result A ServeFault → Type 0
IsWriteOrMemory (Ok x) = Unit {0}
IsWriteOrMemory (Err Write) = Unit {0}
IsWriteOrMemory (Err Memory) = Unit {0}
IsWriteOrMemory (Err Read) = ⊥
IsWriteOrMemory (Err BadCapacity) = ⊥

-- the capacity is not the fault
abbrev pub IsInRange : {A : Type 0} → Result A ServeFault → Type 0
IsInRange (Ok x) = Unit {0}
IsInRange (Err Read) = Unit {0}
IsInRange (Err Write) = Unit {0}
IsInRange (Err Memory) = Unit {0}
IsInRange (Err BadCapacity) = ⊥

-- the reader's failures before and after an input was read
abbrev pub CountsInput : {A : Type 0} → Result A InputFault → ℕ → ℕ → Type 0
CountsInput (Err input.Read) old new = old < new
CountsInput (Err input.Memory) old new = new ≡ old
CountsInput (Ok x) old new = new ≡ old
