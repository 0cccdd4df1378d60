-- Lines that are refused.
use Rattle.std.proofs.Common.{◌≡◌, ℕ, ◌+◌, List, [], ◌∷◌, Option, Some, None, option_map, true, refl, sym}
use Rattle.std.proofs.lemmas.Option.{none-some}
use Rattle.std.specs.Prelude.{is_some, if◌then◌else◌}
use Rattle.scripts.specs.Events.{◌>>=◌}
use Rattle.plan_lines.specs.RefusedLines.{first_refused}
use Rattle.scripts.specs.Refusals.{refused_line}
use Rattle.scripts.specs.Scripts.{each_of, script_by}

one : {B C : Type 0} (n : ℕ) (o : Option B) (later : Option ℕ) (f : B → Option C) → (if is_some o then later else Some n) ≡ None → (o >>= f) ≡ None
    → (y : B) × (later ≡ None) × (f y ≡ None)
one n None later f none is = absurd (none-some n (sym none))
one n (Some y) later f none is = (y, none, is)

mapped : {B C : Type 0} (g : B → C) (o : Option B) → option_map g o ≡ None → o ≡ None
mapped g None is = refl
mapped g (Some x) is = absurd (none-some (g x) (sym is))

-- if each line is read, all are
all_read : {B : Type 0} (read : List ℕ → Option B) (n : ℕ) (ls : List (List ℕ)) → first_refused (λ l. is_some (read l)) n ls ≡ None → each_of read ls ≡ None → ⊥
all_read read n [] none is = absurd (none-some [] (sym is))
all_read read n (l ∷ ls) none is =
    let p = one n (read l) (first_refused (λ k. is_some (read k)) (n + 1) ls) (λ y. option_map (λ ys. y ∷ ys) (each_of read ls)) none is in
    all_read read (n + 1) ls p.1 (mapped (λ ys. p.0 ∷ ys) (each_of read ls) p.2)

no_line : {A B : Type 0} (header : List ℕ → Option A) (event : List ℕ → Option B) (ls : List (List ℕ))
    → refused_line (λ l. is_some (header l)) (λ l. is_some (event l)) ls ≡ None → script_by header event ls ≡ None → ⊥
no_line header event [] none is = absurd (none-some 1 (sym none))
no_line header event (l ∷ ls) none is =
    let p = one 1 (header l) (first_refused (λ k. is_some (event k)) 2 ls) (λ h. option_map (λ es. (h, es)) (each_of event ls)) none is in
    all_read event 2 ls p.1 (mapped (λ es. (p.0, es)) (each_of event ls) p.2)

-- a text that is no script is refused for a line
pub has_line : {A B : Type 0} (header : List ℕ → Option A) (event : List ℕ → Option B) (ls : List (List ℕ)) (line : Option ℕ)
    → line ≡ refused_line (λ l. is_some (header l)) (λ l. is_some (event l)) ls → script_by header event ls ≡ None → is_some line ≡ true
has_line header event ls None is refused = absurd (no_line header event ls (sym is) refused)
has_line header event ls (Some n) is refused = refl
