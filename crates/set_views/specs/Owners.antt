-- The controller of an object (Kubernetes API reference, ObjectMeta: OwnerReference).
use Rattle.std.specs.Prelude.{ℕ, Bool, false, ◌&&◌, ◌||◌, codes, option_and_then}
use Rattle.std.specs.Option.{option_map_or}
use Rattle.serde_json.specs.Data.{Data, Items, no_items, item}
use Rattle.serde_json.specs.Find.{get, as_bool}
use Rattle.objects.specs.Uid.{uid_text}
use Rattle.set_views.specs.Readiness.{says}

-- an owner reference with that UID, whose `controller` is true
abbrev pub is_controller : ℕ → Data → Bool
is_controller uid d = option_map_or (λ truth. truth) (option_and_then as_bool (get (codes "controller") d)) false && says (codes "uid") (uid_text uid) d

-- one of these owner references is such
abbrev pub is_controlled : ℕ → Items → Bool
is_controlled uid no_items = false
is_controlled uid (item d ds) = is_controller uid d || is_controlled uid ds
