-- What was made of an input that was read, and written or refused.
use Rattle.std.proofs.Common.{◌≡◌, ℕ, List, [], Option, Some, None, refl, subst}
use Rattle.std.specs.Option.{IfSome}
use Rattle.std.specs.Prelude.{IfErr, Result, Ok, Err}
use Rattle.std.specs.Result.{IsErrAnd}
use Rattle.plain.specs.declared.devices.input.InputFault.{InputFault}
use Rattle.plain.specs.declared.devices.input.InputFault.TheVariants as input
use Rattle.commands.specs.Forms.{WritesBy}
use Rattle.commands.specs.Halts.{IsNamed, halt_of, name_of}

-- what was made of the input was written as it is shown, all of it or a prefix
pub writes_by : (puts : Option (List ℕ) → List ℕ → Option (List ℕ) → Type 0) (IsText : List ℕ → List ℕ → Type 0)
    (had left before after : Option (List ℕ)) (text shown : List ℕ) → IfSome had (λ input. (left ≡ Some []) × IsText input text) → puts before shown after
    → shown ≡ text → WritesBy puts IsText had left before after
writes_by puts IsText None left before after text shown made put same = tt
writes_by puts IsText (Some input) left before after text shown made put same = (made.0, (text, made.1, subst (λ t. puts before t after) same put))

-- a refusal has the name that is reported
pub named_and : (name : Option (List ℕ)) (Is Said : List ℕ → Type 0) → IsNamed name Is → IfSome name Said → (n : List ℕ) × Is n × Said n
named_and None Is Said named holds = absurd named
named_and (Some n) Is Said named holds = (n, named, holds)

-- a fault of the input has no name
pub unnamed : (fault : InputFault) → name_of (halt_of fault) ≡ None
unnamed input.Read = refl
unnamed input.Memory = refl

-- an error that came of another has what follows of that
pub error_has : {A E : Type 0} (result : Result A E) (From Has : E → Type 0) → IsErrAnd result From → ((e : E) → From e → Has e) → IfErr result Has
error_has (Ok x) From Has is has = tt
error_has (Err e) From Has is has = has e is
