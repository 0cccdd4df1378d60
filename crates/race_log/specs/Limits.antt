-- How large a race may be.
use Rattle.std.specs.Prelude.{ℕ, Bool, nat_le, ◌&&◌}
use Rattle.race_log.specs.declared.spec.RaceSpec.{RaceSpec}

-- 1 to 64 controllers, 1 to 64 shards, 1 to 1,024 rounds, at most 64 replicas
abbrev pub is_race : RaceSpec → Bool
is_race s =
    nat_le 1 s.controllers && nat_le s.controllers 64 && nat_le 1 s.shards && nat_le s.shards 64 && nat_le 1 s.rounds && nat_le s.rounds 1024
    && nat_le s.replicas 64

-- how many revisions the store of a race may allocate
abbrev pub race_capacity : ℕ
race_capacity = 65536
