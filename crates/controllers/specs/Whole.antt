-- The reconcilers of controllers.
use Rattle.std.specs.Prelude.{ℕ, List, [], slice_get}
use Rattle.std.specs.Option.{option_map_or}
use Rattle.objects.specs.declared.kind.Kind.TheVariants.{StatefulSet}
use Rattle.objects.specs.Key.{key_parts}
use Rattle.rounds.specs.Reconciler.{Reconciler}
use Rattle.controllers.specs.declared.controller.Controller.{Controller}
use Rattle.controllers.specs.Controller.{reconciler_of}
use Rattle.controllers.specs.Reconciler.{reconciler_with}

-- the reconciler of the controller with this number; after the last controller, one of a set without a name
unfoldable pub reconciler_at : List Controller → ℕ → Reconciler
reconciler_at controllers n = option_map_or reconciler_of (slice_get controllers n) (reconciler_with (key_parts StatefulSet [] []) 1 [])
