use Rattle.bench.proofs.stores.run_on_shards.Given as goal

-- the line that was just made
abbrev pub ghosts-run_on_line : goal.ghosts-run_on_line
ghosts-run_on_line g a = record { line = a.ends.line.name; capacity = a.ends.line.capacity }
