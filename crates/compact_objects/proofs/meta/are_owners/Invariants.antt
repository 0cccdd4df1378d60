use Rattle.std.proofs.Common.{◌≡◌, length}
use Rattle.serde_json.specs.Data.{Data}
use Rattle.serde_json.specs.Written.{compact_text}
use Rattle.compact_objects.proofs.OwnerTexts.{OwnersLeft}
use Rattle.compact_objects.proofs.meta.are_owners.Given as goal

abbrev pub invariant-owners : goal.invariant-owners
invariant-owners l = (d : Data) → l.fn.text ≡ compact_text d → OwnersLeft d l.left

abbrev pub decreases-owners : goal.decreases-owners
decreases-owners l = length l.left
