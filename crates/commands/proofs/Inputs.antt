-- What is made of the bytes that were read is made of the input.
use Rattle.std.proofs.Common.{◌≡◌, ℕ, List, [], Option, Some, None, subst}
use Rattle.std.specs.Option.{IfSome}
use Rattle.commands.specs.Halts.{IsRefusedIn}

pub made_of_input : (IsText : (input text : List ℕ) → Type 0) (had left : Option (List ℕ)) (bytes text : List ℕ) → IfSome had (λ i. bytes ≡ i)
    → IfSome had (λ _. left ≡ Some []) → IsText bytes text → IfSome had (λ input. (left ≡ Some []) × IsText input text)
made_of_input IsText None left bytes text all ends made = tt
made_of_input IsText (Some i) left bytes text all ends made = (ends, subst (λ b. IsText b text) all made)

pub refused_of_input : (IsRefusal : (input name : List ℕ) → Type 0) (name : Option (List ℕ)) (had left : Option (List ℕ)) (bytes : List ℕ)
    → IfSome had (λ i. bytes ≡ i) → IfSome had (λ _. left ≡ Some []) → IfSome name (IsRefusal bytes) → IfSome name (IsRefusedIn IsRefusal had left)
refused_of_input IsRefusal None had left bytes all ends refused = tt
refused_of_input IsRefusal (Some name) None left bytes all ends refused = tt
refused_of_input IsRefusal (Some name) (Some i) left bytes all ends refused = (ends, subst (λ b. IsRefusal b name) all refused)
