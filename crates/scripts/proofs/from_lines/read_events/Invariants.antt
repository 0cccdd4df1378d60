use Rattle.std.proofs.Common.{◌≡◌, ◌++◌, length}
use Rattle.std.specs.Prelude.{option_map}
use Rattle.plain.specs.Lines.{lines}
use Rattle.scripts.specs.Scripts.{each_of, line_by}
use Rattle.scripts.proofs.from_lines.read_events.Given as goal

abbrev pub invariant-lines : goal.invariant-lines
invariant-lines g l =
    let read = line_by g.S.FromLines.event in
    each_of read (lines l.text) ≡ option_map (λ more. l.events.items ++ more) (each_of read (lines l.rest))

abbrev pub decreases-lines : goal.decreases-lines
decreases-lines g l = length l.rest
