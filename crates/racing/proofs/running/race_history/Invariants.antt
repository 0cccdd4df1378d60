use Rattle.racing.proofs.running.race_history.Given as goal

-- as many shards as the race is to have
abbrev pub ghosts-race_over_shards : goal.ghosts-race_over_shards
ghosts-race_over_shards g a = record { shards = a.spec.now.shards }
