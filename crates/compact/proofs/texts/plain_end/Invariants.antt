use Rattle.std.proofs.Common.{◌≡◌, ◌+◌, ◌-◌, ◌≤◌, length, drop}
use Rattle.std.specs.List.{prefix_len}
use Rattle.compact.specs.Plain.{is_plain}
use Rattle.compact.proofs.texts.plain_end.Given as goal

abbrev pub invariant-vectors : goal.invariant-vectors
invariant-vectors l = (prefix_len is_plain l.text ≡ l.at + prefix_len is_plain (drop l.at l.text)) × (l.at ≤ length l.text)

abbrev pub decreases-vectors : goal.decreases-vectors
decreases-vectors l = length l.text - l.at
