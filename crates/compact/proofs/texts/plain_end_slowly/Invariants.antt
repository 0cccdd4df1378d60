use Rattle.std.proofs.Common.{◌≡◌, ◌+◌, ◌-◌, ◌≤◌, length, drop}
use Rattle.std.specs.List.{prefix_len}
use Rattle.compact.specs.Plain.{is_plain}
use Rattle.compact.proofs.texts.plain_end_slowly.Given as goal

abbrev pub invariant-bytes : goal.invariant-bytes
invariant-bytes l = (l.from + prefix_len is_plain (drop l.from l.text) ≡ l.at + prefix_len is_plain (drop l.at l.text)) × (l.at ≤ length l.text)

abbrev pub decreases-bytes : goal.decreases-bytes
decreases-bytes l = length l.text - l.at
