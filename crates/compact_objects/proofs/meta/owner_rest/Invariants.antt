use Rattle.std.proofs.Common.{◌≡◌, ◌<◌, ℕ, List, ◌∷◌, ◌++◌, length}
use Rattle.serde_json.specs.Data.{Data}
use Rattle.serde_json.specs.Written.{compact_text}
use Rattle.compact_objects.specs.Cursors.{EndsValue}
use Rattle.compact_objects.proofs.OwnerTexts.{OwnerLeft}
use Rattle.compact_objects.proofs.meta.owner_rest.Given as goal

abbrev pub invariant-members : goal.invariant-members
invariant-members l = record {
  left : (d : Data) (rest : List ℕ) → l.text ≡ compact_text d ++ rest → EndsValue rest → OwnerLeft d rest l.left;
  brace : (behind : List ℕ) × (l.text ≡ 123 ∷ behind);
  shorter : length l.left < length l.text;
}

abbrev pub decreases-members : goal.decreases-members
decreases-members l = length l.left
