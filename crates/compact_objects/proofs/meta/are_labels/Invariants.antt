use Rattle.std.proofs.Common.{◌≡◌, length}
use Rattle.serde_json.specs.Data.{Data}
use Rattle.serde_json.specs.Written.{compact_text}
use Rattle.compact_objects.proofs.LabelTexts.{LabelsLeft}
use Rattle.compact_objects.proofs.meta.are_labels.Given as goal

abbrev pub invariant-labels : goal.invariant-labels
invariant-labels l = (d : Data) → l.fn.text ≡ compact_text d → LabelsLeft d l.left

abbrev pub decreases-labels : goal.decreases-labels
decreases-labels l = length l.left
