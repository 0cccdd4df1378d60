-- One shard of versions: its records, the number from which on it can be read, and the key that has room for a push.
use Rattle.std.specs.Prelude.{ℕ, nat_lt, Option, Some, None, refl, if◌then◌else◌}
use Rattle.std.specs.Coded.{Coded, code_by, coded×, coded_option, coded_ℕ}
use Rattle.std.specs.FinMap as map
use Rattle.objects.specs.declared.key.Key.{Key}
use Rattle.objects.specs.Key.{key_coded}
use Rattle.requests.specs.declared.version.Version.{Version}
use Rattle.versions.specs.Records.{Records, version_coded}
use Rattle.versions.specs.Compacted.{compacted}

pub record Shard : Type 0 where
  pub records : Records
  pub floor : ℕ
  pub room : Option Key

abbrev pub shard_coded : Coded Shard
shard_coded =
    code_by (Records × (ℕ × Option Key)) (coded× (map.code coded_ℕ version_coded) (coded× coded_ℕ (coded_option key_coded)))
    (λ s. (s.records, (s.floor, s.room))) (λ p. record { records = p.0; floor = p.1.0; room = p.1.1 }) (λ _. refl)

-- as a shard is at first
abbrev pub opening : Shard
opening = record { records = map.empty; floor = 0; room = None }

-- with room for a push of that key, and of no other
abbrev pub with_room : Shard → Key → Shard
with_room s k = record { records = s.records; floor = s.floor; room = Some k }

-- with one more record, which uses up the room
abbrev pub pushed : Shard → ℕ → Version → Shard
pushed s n v = record { records = map.insert s.records n v; floor = s.floor; room = None }

-- with the floor at n and what is not read from there on dropped; a floor that is higher stays
abbrev pub raised : Shard → ℕ → Shard
raised s n = if nat_lt n s.floor then s else record { records = compacted s.records n; floor = n; room = s.room }
