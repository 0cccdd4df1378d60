-- Which shard keeps an object: the sum of the bytes of its key's text, modulo the number of shards.
use Rattle.std.specs.Prelude.{ℕ, List, ◌++◌, ◌%◌, codes}
use Rattle.std.specs.List.{sum}
use Rattle.objects.specs.Kind.{kind_name}
use Rattle.objects.specs.Key.{KeyParts}

-- `kind/namespace/name`
abbrev pub key_text : KeyParts → List ℕ
key_text key = kind_name key.kind ++ codes "/" ++ key.namespace ++ codes "/" ++ key.name

abbrev pub shard_of : KeyParts → ℕ → ℕ
shard_of key shards = sum (key_text key) % shards
