-- Keys that are forgotten, and the slots that they leave.
use Rattle.std.specs.Prelude.{◌≡◌, ◌≢◌, ◌<◌, ◌⊎◌, ℕ, List, [], ◌∷◌, Some, None}
use Rattle.std.specs.List.{AllByRecursion}
use Rattle.std.specs.FinMap as finite
use Rattle.objects.specs.declared.key.Key.{Key}
use Rattle.version_map.specs.Named.{KeySlots}
use Rattle.version_map.specs.Rows.{Row}
use Rattle.version_map.specs.Versions.{Versions, rows_at}

-- a removal, and nothing else
abbrev pub IsRemoval : {X : Type 0} → List (Row X) → Type 0
IsRemoval rows = (n : ℕ) × (rows ≡ (n, None) ∷ [])

-- the floor and the room are the same, and so are the rows of each key, but that a key which had a removal and nothing
-- else may have none
pub record AreForgotten {X : Type 0} (old new : Versions X) : Type 0 where
  pub floor : new.floor ≡ old.floor
  pub room : new.room ≡ old.room
  pub rows : (k : Key) → (rows_at new.rows k ≡ rows_at old.rows k) ⊎ ((rows_at new.rows k ≡ []) × IsRemoval (rows_at old.rows k))

-- slots that no key has, each of a chain, and no two alike
abbrev pub AreFree : KeySlots → ℕ → List ℕ → Type 0
AreFree ps many [] = Unit {0}
AreFree ps many (p ∷ free) = (p < many) × ((k : Key) → finite.get ps k ≢ Some p) × AllByRecursion (λ q. q ≢ p) free × AreFree ps many free
