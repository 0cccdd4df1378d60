-- Why there is no output, and what is written about it.
use Rattle.std.specs.Prelude.{◌≡◌, ◌<◌, ◌⊎◌, ℕ, Bool, true, false, List, [], ◌∷◌, ◌++◌, Option, Some, None, Result, Ok, Err, codes, decimal}
use Rattle.std.specs.Option.{IfSome}
use Rattle.plain.specs.Streams.{Puts}
use Rattle.plain.specs.declared.devices.input.InputFault.{InputFault}
use Rattle.plain.specs.declared.devices.input.InputFault.TheVariants as input
use Rattle.commands.specs.declared.halt.Halt.{Halt}
use Rattle.commands.specs.declared.halt.Halt.TheVariants.{Read, Memory, Refused, RefusedAt, Foreign}

-- the reader failed
abbrev pub is_read : Halt → Bool
is_read Read = true
is_read Memory = false
is_read (Refused name) = false
is_read (RefusedAt name line fault) = false
is_read (Foreign pod) = false

-- the reader's failures before and after: one is counted exactly if the reader failed
abbrev pub CountsReads : {A : Type 0} → Result A Halt → ℕ → ℕ → Type 0
CountsReads (Ok x) old new = new ≡ old
CountsReads (Err Read) old new = old < new
CountsReads (Err Memory) old new = new ≡ old
CountsReads (Err (Refused name)) old new = new ≡ old
CountsReads (Err (RefusedAt name line fault)) old new = new ≡ old
CountsReads (Err (Foreign pod)) old new = new ≡ old

-- what a fault of the input is
abbrev pub halt_of : InputFault → Halt
halt_of input.Read = Read
halt_of input.Memory = Memory

-- the line that a refusal names, if it is requested
abbrev pub told_line : (shows_line : Bool) → Option ℕ → Option ℕ
told_line true line = line
told_line false line = None

-- what is written of a refusal: its name, and in a line of its own, if that is named, the number of the line for which
-- the input is refused, and what is wrong in it, if that is known
abbrev pub refused_as : Option ℕ → (fault name : List ℕ) → List ℕ
refused_as None fault name = name
refused_as (Some n) fault name = name ++ 10 ∷ (codes "line " ++ (decimal n ++ fault))

-- the same of a plan that is refused for a pod that is not the set's: in a line of its own the pod, if it is to be told
abbrev pub foreign_as : (told : Bool) → (pod : List ℕ) → List ℕ
foreign_as false pod = codes "Foreign"
foreign_as true pod = codes "Foreign" ++ 10 ∷ (codes "Pod " ++ pod)

-- what is written of the refusal of an input, if it is refused
abbrev pub name_of : Halt → Option (List ℕ)
name_of Read = None
name_of Memory = None
name_of (Refused name) = Some name.now
name_of (RefusedAt name line fault) = Some (refused_as (Some line) fault.now name.now)
name_of (Foreign pod) = Some (foreign_as true pod)

-- there is a name, of which this is written
abbrev pub IsNamed : Option (List ℕ) → (List ℕ → Type 0) → Type 0
IsNamed None said = ⊥
IsNamed (Some name) said = said name

-- what is written of a refusal
abbrev pub refusal_text : List ℕ → List ℕ
refusal_text name = codes "refused: " ++ name ++ 10 ∷ []

-- That the input is refused by this name was written, or the writer failed.
abbrev pub Tells : (name : List ℕ) → (before after : Option (List ℕ)) → (failed fails : ℕ) → Type 0
Tells name before after failed fails = (Puts before (refusal_text name) after) ⊎ (failed < fails)

-- All of the reader's bytes were read, and are refused by this name.
abbrev pub IsRefusedIn : (IsRefusal : (input name : List ℕ) → Type 0) → (had left : Option (List ℕ)) → (name : List ℕ) → Type 0
IsRefusedIn IsRefusal had left name = IfSome had (λ input. (left ≡ Some []) × IsRefusal input name)
