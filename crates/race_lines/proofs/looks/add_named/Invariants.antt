use Rattle.std.proofs.Common.{◌≡◌, drop}
use Rattle.race_lines.specs.Looks.{named_by}
use Rattle.race_lines.proofs.looks.add_named.Given as goal

abbrev pub invariant-loop-participant : goal.invariant-loop-participant
invariant-loop-participant l = named_by l.names.keys (drop l.participant-index l.participants) ≡ named_by l.fn.names.keys l.participants
