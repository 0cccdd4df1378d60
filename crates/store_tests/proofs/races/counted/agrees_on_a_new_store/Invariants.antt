use Rattle.store_tests.proofs.races.counted.agrees_on_a_new_store.Given as goal

abbrev pub ghosts-agrees_on_shards : goal.ghosts-agrees_on_shards
ghosts-agrees_on_shards g a = record { shards = 4 }
