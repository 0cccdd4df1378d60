use Rattle.bench.proofs.stores.run_crew.Given as goal

-- as many shards as the crew works over
abbrev pub ghosts-run_on_shards : goal.ghosts-run_on_shards
ghosts-run_on_shards g a = record { shards = a.crew.shards }
