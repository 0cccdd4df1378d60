use Rattle.racing.proofs.running.race_over_shards.Given as goal

-- the line that was just made
abbrev pub ghosts-race_over_line : goal.ghosts-race_over_line
ghosts-race_over_line g a = record { line = a.ends.line.name; capacity = a.ends.line.capacity }
