use Rattle.store_tests.proofs.running.scenes.assert_on_shards.Given as goal

-- the line that was just made
abbrev pub ghosts-assert_on_line : goal.ghosts-assert_on_line
ghosts-assert_on_line g a = record { line = a.ends.line.name; capacity = a.ends.line.capacity }
