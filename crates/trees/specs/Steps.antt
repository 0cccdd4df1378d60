-- Steps that give a value or the first refusal, whose type is E.
use Rattle.std.specs.Prelude.{◌≡◌, Option, Some, None, Result, Ok, Err, Bool, true, false, MatchBool, if◌then◌else◌, ⊤}
use Rattle.trees.specs.declared.fault.TreeError.{TreeError}
use Rattle.trees.specs.declared.fault.TreeError.TheVariants as errors

infixl 10 ◌>>=◌
abbrev pub ◌>>=◌ : {E A B : Type 0} → Result A E → (A → Result B E) → Result B E
(Ok x) >>= f = f x
(Err e) >>= f = Err e

-- the value that has to be there
abbrev pub required : {E A : Type 0} → E → Option A → Result A E
required e None = Err e
required e (Some x) = Ok x

-- x, if the test holds
abbrev pub guarded : {E A : Type 0} → E → Bool → A → Result A E
guarded e b x = if b then Ok x else Err e

-- the step refuses with e; nothing is said if e is out of memory
abbrev pub FailsUnless : {E A : Type 0} → (E → Bool) → E → Result A E → Type 0
FailsUnless is_memory e step = MatchBool (is_memory e) ⊤ (step ≡ Err e)

-- what a function returned, seen by view, is what the step gives, unless memory ran out
abbrev pub GivesUnless : {E A B : Type 0} → (E → Bool) → (A → B) → Result A E → Result B E → Type 0
GivesUnless is_memory view (Ok x) step = step ≡ Ok (view x)
GivesUnless is_memory view (Err e) step = FailsUnless is_memory e step

-- ---- steps of reading a tree

abbrev pub is_memory : TreeError → Bool
is_memory errors.NotJson = false
is_memory errors.NotWhole = false
is_memory errors.TooLong = false
is_memory errors.Memory = true

abbrev pub Fails : {A : Type 0} → TreeError → Result A TreeError → Type 0
Fails e read = FailsUnless is_memory e read

abbrev pub Gives : {A B : Type 0} → (A → B) → Result A TreeError → Result B TreeError → Type 0
Gives view result read = GivesUnless is_memory view result read
