-- What a write does, with the text that it leaves.
use Rattle.std.specs.Prelude.{◌≡◌, ℕ}
use Rattle.objects.specs.declared.object.Draft.{Draft}
use Rattle.objects.specs.declared.object.Object.{Object}
use Rattle.requests.specs.Change.{stamp, updates}
use Rattle.requests.specs.Verdict.{unless_same, updated}
use Rattle.requests.specs.declared.verdict.Verdict.{Verdict}
use Rattle.requests.specs.declared.verdict.Verdict.TheVariants.{Write}

-- the verdict is to write that object, and this is what it is at that number
abbrev pub IsWritten : Verdict → Object → ℕ → Object → Type 0
IsWritten v o n text = (v ≡ Write (updates o)) × (text ≡ stamp (updates o) n)

-- an update with the draft is a write, which leaves this at that number
abbrev pub IsUpdateOf : Object → Draft → ℕ → Object → Type 0
IsUpdateOf o d n text = IsWritten (unless_same o (updated o d)) (updated o d) n text
