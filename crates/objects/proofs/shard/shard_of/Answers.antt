use Rattle.std.proofs.Common.{arith}
use Rattle.objects.specs.Key.{key_parts}
use Rattle.objects.proofs.KeyTexts.{key_namespace_length, key_name_length}
use Rattle.objects.proofs.shard.shard_of.Goals as goal

pub byte_sum-namespace-requires : goal.byte_sum-namespace-requires
byte_sum-namespace-requires c =
    let short = key_namespace_length (key_parts c.key.inside.kind c.key.inside.namespace c.key.inside.name) c.key.invariant in
    rw c.as_str.ensures (omega arith)

pub byte_sum-name-requires : goal.byte_sum-name-requires
byte_sum-name-requires c =
    rw c.as_str-2.ensures (key_name_length (key_parts c.key.inside.kind c.key.inside.namespace c.key.inside.name) c.key.invariant)
