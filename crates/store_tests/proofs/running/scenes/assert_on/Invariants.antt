use Rattle.store_tests.proofs.running.scenes.assert_on.Given as goal

-- as many shards as the line is to have
abbrev pub ghosts-assert_on_shards : goal.ghosts-assert_on_shards
ghosts-assert_on_shards g a = record { shards = a.shards }
