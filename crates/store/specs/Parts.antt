-- A list is gathered from the parts of all shards.
use Rattle.std.specs.Prelude.{ℕ, nat_eq, nat_lt, ◌&&◌, List}
use Rattle.std.specs.FinMap as map
use Rattle.objects.specs.declared.kind.Kind.{Kind}
use Rattle.objects.specs.ShardOf.{shard_of}
use Rattle.plain_store.specs.Store.{Objects, is_of}

-- what the shard i has of them
abbrev pub part_of : Objects → (shards i : ℕ) → Objects
part_of m shards i = map.retain_keys m (λ k. nat_eq (shard_of k shards) i)

-- what the shards below i have of a kind in a namespace
abbrev pub parts_below : Objects → Kind → List ℕ → (shards i : ℕ) → Objects
parts_below m kind namespace shards i = map.retain_keys m (λ k. is_of kind namespace k && nat_lt (shard_of k shards) i)
