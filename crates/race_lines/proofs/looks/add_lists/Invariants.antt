use Rattle.std.proofs.Common.{◌≡◌, ◌++◌, map}
use Rattle.race_lines.specs.Looks.{list_of}
use Rattle.race_lines.proofs.looks.add_lists.Given as goal

-- what is there and what is left to add are together the whole
abbrev pub invariant-loop-name : goal.invariant-loop-name
invariant-loop-name l = l.looks.items ++ map (list_of l.kind) l.name-iterator ≡ l.fn.looks.items ++ map (list_of l.kind) l.names.keys
