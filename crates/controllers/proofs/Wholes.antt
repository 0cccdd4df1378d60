-- Controllers are sound, and made of their reconcilers.
use Rattle.std.proofs.Common.{◌≡◌, ℕ, List, [], Option, Some, None, refl}
use Rattle.std.specs.Prelude.{IfSome, slice_get}
use Rattle.std.specs.Option.{option_map_or}
use Rattle.objects.specs.declared.kind.Kind.TheVariants.{StatefulSet}
use Rattle.objects.specs.Key.{key_parts}
use Rattle.rounds.specs.Reconciler.{Reconciler}
use Rattle.rounds.specs.Sound.{IsSound}
use Rattle.rounds.specs.World.{AreMadeOf}
use Rattle.controllers.specs.declared.controller.Controller.{Controller}
use Rattle.controllers.specs.Controller.{reconciler_of}
use Rattle.controllers.specs.Reconciler.{reconciler_with}
use Rattle.controllers.specs.InTurn.{IsOfSet}
use Rattle.controllers.specs.Whole.{reconciler_at}
use Rattle.controllers.proofs.Soundness.{is_sound}

made_by : (d : Reconciler) (o : Option Controller) → IfSome o (λ c. reconciler_of c ≡ option_map_or reconciler_of o d)
made_by d None = tt
made_by d (Some c) = refl

pub made : (controllers : List Controller) → AreMadeOf reconciler_of controllers (reconciler_at controllers)
unfolding reconciler_at
made controllers n = made_by (reconciler_with (key_parts StatefulSet [] []) 1 []) (slice_get controllers n)

sound_by : (d : Reconciler) → IsSound d → (o : Option Controller) → IsSound (option_map_or reconciler_of o d)
unfolding reconciler_of
sound_by d sound None = sound
sound_by d sound (Some c) = is_sound c.set c.digits c.moment

pub sound : (controllers : List Controller) (n : ℕ) → IsSound (reconciler_at controllers n)
unfolding reconciler_at
sound controllers n = sound_by _ (is_sound (key_parts StatefulSet [] []) 1 []) (slice_get controllers n)

pub if_some_by : {X : Type 0} (P Q : X → Type 0) (o : Option X) → ((x : X) → P x → Q x) → IfSome o P → IfSome o Q
if_some_by P Q None goes holds = tt
if_some_by P Q (Some x) goes holds = goes x holds

of_set : (d : Reconciler) → IsOfSet d → (o : Option Controller) → IsOfSet (option_map_or reconciler_of o d)
unfolding reconciler_of
of_set d is None = is
of_set d is (Some c) = (c.set, c.digits, c.moment, refl)

pub of_sets : (controllers : List Controller) (n : ℕ) → IsOfSet (reconciler_at controllers n)
unfolding reconciler_at
of_sets controllers n = of_set _ (key_parts StatefulSet [] [], 1, [], refl) (slice_get controllers n)
