-- What is written of a delta, piece by piece.
use Rattle.std.specs.Prelude.{◌≡◌, ◌≤◌, ◌<◌, ◌+◌, ◌-◌, ◌++◌, ℕ, List, length, take, drop}
use Rattle.packed.specs.Expanded.{pieces}
use Rattle.packed.specs.declared.meeting.Meeting.{Meeting}

-- The pieces make that text, whatever comes after them. What comes after them sees only what is left of the base.
abbrev pub Make : (base delta text behind : List ℕ) → Type 0
Make base delta text behind = (rest : List ℕ) → pieces base 0 (delta ++ rest) ≡ text ++ pieces behind 0 rest

-- The old bytes are followed by pieces that skip so many bytes of the base, copy so many, and add these.
abbrev pub Adds : (skipped copied : ℕ) (added old new : List ℕ) → Type 0
Adds skipped copied added old new = (base text behind : List ℕ) → Make base old text behind
    → Make base new (text ++ (take copied (drop skipped behind) ++ added)) (drop copied (drop skipped behind))

-- The text is written up to a position. Of the base no more is used than what comes before the bytes that the next
-- piece skips.
pub record IsWrittenTo (base text delta : List ℕ) (place : Meeting) : Type 0 where
  pub text_within : place.text ≤ length text
  pub base_within : place.base ≤ length base
  pub skipped : place.skipped ≤ place.base
  pub made : Make base delta (take place.text text) (drop (place.base - place.skipped) base)

-- How many bytes the first piece skips, copies and adds of so many: it copies once all are skipped, adds once all are
-- copied, and does something if anything is left.
pub record AreFirst (skipped copied added skip copy add : ℕ) : Type 0 where
  pub skips : (skip ≤ skipped) × (skip ≤ 255)
  pub copies : (copy ≤ copied) × (copy ≤ 255)
  pub adds : (add ≤ added) × (add ≤ 255)
  pub copies_behind : 0 < copy → skip ≡ skipped
  pub adds_behind : 0 < add → (skip ≡ skipped) × (copy ≡ copied)
  pub some : 0 < skipped + copied + added → 0 < skip + copy + add
