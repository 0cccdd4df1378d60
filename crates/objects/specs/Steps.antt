-- Steps of reading an object, each of which gives a value or the first refusal.
use Rattle.std.specs.Prelude.{Result, Ok, Err, Bool, true, false}
use Rattle.trees.specs.declared.fault.TreeError.{TreeError}
use Rattle.trees.specs.declared.fault.TreeError.TheVariants as tree
pub use Rattle.trees.specs.Steps.{◌>>=◌, required, guarded, FailsUnless, GivesUnless}
use Rattle.objects.specs.declared.fault.ReadError.{ReadError}
use Rattle.objects.specs.declared.fault.ReadError.TheVariants as errors

-- what a refusal of a tree is among those of an object
abbrev pub read_error : TreeError → ReadError
read_error tree.NotJson = errors.NotJson
read_error tree.NotWhole = errors.NotWhole
read_error tree.TooLong = errors.TooLong
read_error tree.Memory = errors.Memory

-- a step of reading a tree, as a step of reading an object
abbrev pub as_read : {A : Type 0} → Result A TreeError → Result A ReadError
as_read (Ok x) = Ok x
as_read (Err e) = Err (read_error e)

abbrev pub is_memory : ReadError → Bool
is_memory errors.NotJson = false
is_memory errors.NotWhole = false
is_memory errors.NoKind = false
is_memory errors.UnknownKind = false
is_memory errors.BadName = false
is_memory errors.BadMeta = false
is_memory errors.TooLong = false
is_memory errors.Memory = true

-- reading refuses with e; nothing is said if memory ran out
abbrev pub Fails : {A : Type 0} → ReadError → Result A ReadError → Type 0
Fails e read = FailsUnless is_memory e read

-- what a function returned, seen by view, is what reading gives, unless memory ran out
abbrev pub Gives : {A B : Type 0} → (A → B) → Result A ReadError → Result B ReadError → Type 0
Gives view result read = GivesUnless is_memory view result read
