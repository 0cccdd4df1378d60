-- Objects that are gathered from lists.
use Rattle.std.specs.Prelude.{List, fold}
use Rattle.std.specs.FinMap as map
use Rattle.std.specs.FinMap.{FinMap}
use Rattle.objects.specs.declared.object.Object.{Object}
use Rattle.objects.specs.Key.{key_cmp}

-- with these objects too, each under its key
abbrev pub with_objects : FinMap key_cmp Object → List Object → FinMap key_cmp Object
with_objects found objects = fold (λ m o. map.insert m o.key o) found objects
