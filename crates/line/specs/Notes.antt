-- Notes of the numbers. The notes of the numbers drawn, from 1 on, are one list, the log. A note belongs to a shard, its home, and to a caller, or to none, which has the number 0.
use Rattle.std.specs.Prelude.{◌≡◌, ℕ, suc, List, [], ◌∷◌, take, Bool, true, false, eqb, leb, Option, Some, None}
use mathlib.Core.Option.{some}
use lib.ListN.{get_elem?}
use Rattle.line.specs.declared.view.Observation.{Observation}

abbrev pub keep : {A : Type 0} → Bool → A → List A → List A
keep true x xs = x ∷ xs
keep false x xs = xs

-- the number of a caller, 0 if there is none
abbrev pub name_of : Option ℕ → ℕ
name_of None = 0
name_of (Some c) = c

module _ {E : Type 0} where
  -- the notes e of the log with f e = i, each with its number, if the first note of the log has the number n
  abbrev pub notes_of : (E → ℕ) → ℕ → ℕ → List E → List (ℕ × E)
  notes_of f i n [] = []
  notes_of f i n (e ∷ es) = keep (eqb (f e) i) (n, e) (notes_of f i (suc n) es)

  -- those whose number is at most m
  abbrev pub notes_up_to : ℕ → List (ℕ × E) → List (ℕ × E)
  notes_up_to m [] = []
  notes_up_to m (p ∷ ps) = keep (leb p.0 m) p (notes_up_to m ps)

  abbrev pub observation : (shard drawn : ℕ) → List (ℕ × E) → (floor : ℕ) → Observation E
  observation shard drawn notes floor = record { shard = shard; drawn = drawn; notes = notes; floor = floor }

  module _ (home : E → ℕ) where
    -- each note was accepted over the earlier ones of its shard
    abbrev pub IsLegal : (List (ℕ × E) → E → Type 0) → List E → Type 0
    IsLegal accepts log = (n : ℕ) (e : E) → get_elem? log n ≡ some e → accepts (notes_of home (home e) 1 (take n log)) e
