-- An input with a line that is no object.
use Rattle.std.proofs.Common.{◌≡◌, ℕ, ◌+◌, List, [], ◌∷◌, Option, Some, Result, Ok, Err, true, ap}
use Rattle.std.specs.Prelude.{IfErr, is_ok, is_some, if◌then◌else◌}
use Rattle.objects.specs.Reading.{reading}
use Rattle.objects.specs.Steps.{◌>>=◌}
use Rattle.plan_lines.specs.RefusedLines.{first_refused}
use Rattle.plan_lines.specs.Objects.{Lists, read_from, with_last}

step : {A B E : Type 0} (n : ℕ) (r : Result A E) (later line : Option ℕ) (f : A → Result B E) → line ≡ (if is_ok r then later else Some n)
    → ((x : A) → line ≡ later → IfErr (f x) (λ _. is_some line ≡ true)) → IfErr (r >>= f) (λ _. is_some line ≡ true)
step n (Ok x) later line f is next = next x is
step n (Err e) later line f is next = ap is_some is

-- if an object cannot be read, its line is found
pub has_line : (l : Lists) (n : ℕ) (ls : List (List ℕ)) (line : Option ℕ) → line ≡ first_refused (λ x. is_ok (reading x)) n ls
    → IfErr (read_from l ls) (λ _. is_some line ≡ true)
has_line l n [] line is = tt
has_line l n (x ∷ ls) line is =
    step n (reading x) (first_refused (λ y. is_ok (reading y)) (n + 1) ls) line (λ draft. read_from (with_last l draft.object) ls) is
    (λ draft later. has_line (with_last l draft.object) (n + 1) ls line later)
