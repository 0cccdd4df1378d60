-- What is kept of an object besides its base.
use Rattle.std.specs.Prelude.{◌≤◌, ◌+◌, ◌*◌, ◌/◌, ℕ, List, length}
use Rattle.packed.specs.Expanded.{expanded}
use Rattle.objects.specs.Header.{IsHeader}
use Rattle.objects.specs.declared.header.Header.{Header}

-- The header is that of the text that the delta encodes, and neither the base nor the delta is long compared to that
-- text.
pub record IsKept (base delta : List ℕ) (m : Header) : Type 0 where
  pub header : IsHeader (expanded base delta) m
  pub base_length : length base ≤ 4 * length (expanded base delta)
  pub delta_length : length delta ≤ length (expanded base delta) / 4 + 16
