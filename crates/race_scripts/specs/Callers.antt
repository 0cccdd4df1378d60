-- Who calls in a run.
use Rattle.std.specs.Prelude.{ℕ, Bool, true, ◌&&◌, is_some, List, [], ◌∷◌, Option, Some, None, not, ⊤}
use Rattle.std.specs.List.{list_all, list_any}
use Rattle.interleavings.specs.Linearization.{Has}
use Rattle.race_lines.specs.RaceTexts.{is_caller}

abbrev pub are_callers : List (Option ℕ) → Bool
are_callers callers = list_all (λ c. is_some c) callers

-- no two of them are one caller
abbrev pub AreApart : List (Option ℕ) → Type 0
AreApart [] = ⊤
AreApart (None ∷ callers) = AreApart callers
AreApart (Some c ∷ callers) = (Has (Some c) callers → ⊥) × AreApart callers

-- ---- as it is tested

abbrev pub is_apart : (caller : Option ℕ) → (others : List (Option ℕ)) → Bool
is_apart None others = true
is_apart (Some c) others = not (list_any (is_caller c) others)

abbrev pub are_apart : List (Option ℕ) → Bool
are_apart [] = true
are_apart (c ∷ callers) = is_apart c callers && are_apart callers
