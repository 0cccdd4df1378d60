use Rattle.version_map.proofs.Added.{IsAdding}
use Rattle.version_map.proofs.names.add_short.Given as goal

abbrev pub invariant-loop-name : goal.invariant-loop-name
invariant-loop-name l = IsAdding l.fn.all l.all l.names l.name-iterator
