use Rattle.store_tests.proofs.races.counted.agrees_on_shards.Given as goal

-- the line that was just made
abbrev pub ghosts-agrees_on_line : goal.ghosts-agrees_on_line
ghosts-agrees_on_line g a = record { line = a.ends.line.name; capacity = a.ends.line.capacity }
