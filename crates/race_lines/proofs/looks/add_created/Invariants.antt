use Rattle.std.proofs.Common.{◌≡◌, drop}
use Rattle.race_lines.specs.Looks.{namespaces_by}
use Rattle.race_lines.proofs.looks.add_created.Given as goal

abbrev pub invariant-loop-request : goal.invariant-loop-request
invariant-loop-request l = namespaces_by l.names.keys (drop l.request-index l.beginning) ≡ namespaces_by l.fn.names.keys l.beginning
