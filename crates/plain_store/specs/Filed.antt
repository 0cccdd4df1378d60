-- Each object is under its own key.
use Rattle.std.specs.Prelude.{◌≡◌, Some}
use Rattle.std.specs.FinMap as map
use Rattle.std.specs.FinMap.{FinMap}
use Rattle.objects.specs.declared.key.Key.{Key}
use Rattle.objects.specs.declared.object.Object.{Object}
use Rattle.objects.specs.Key.{key_cmp}

abbrev pub AreFiled : FinMap key_cmp Object → Type 0
AreFiled m = (k : Key) (o : Object) → map.get m k ≡ Some o → o.key ≡ k
