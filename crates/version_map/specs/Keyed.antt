-- Finite maps by keys.
use Rattle.std.specs.Prelude.{ℕ, List, Option, Some, None}
use Rattle.std.specs.FinMap as map
use Rattle.std.specs.FinMap.{FinMap}
use Rattle.objects.specs.declared.key.Key.{Key}
use Rattle.objects.specs.declared.kind.Kind.{Kind}
use Rattle.objects.specs.Key.{key_cmp}
use Rattle.version_map.specs.Keys.{is_of}

-- the map with what the key has now
abbrev pub put_at : {X : Type 0} → FinMap key_cmp X → Key → Option X → FinMap key_cmp X
put_at m k None = map.remove m k
put_at m k (Some x) = map.insert m k x

-- what is there of a kind in a namespace, in the map's order: that of the bytes of the names
abbrev pub collection : {X : Type 0} → FinMap key_cmp X → Kind → List ℕ → List X
collection m kind namespace = map.values (map.retain_keys m (is_of kind namespace))
