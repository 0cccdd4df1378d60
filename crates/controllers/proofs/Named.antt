-- Controllers made of specs are sound, and made of the reconcilers of these.
use Rattle.std.proofs.Common.{◌≡◌, ℕ, List, [], Option, Some, None, map, length, refl, sym, ap, ◌∙◌}
use Rattle.std.specs.Prelude.{IfSome, slice_get, option_map}
use Rattle.std.specs.Option.{option_map_or}
use Rattle.std.proofs.lemmas.List.{length-map}
use Rattle.std.proofs.lemmas.Option.{slice_get-map}
use Rattle.objects.specs.declared.kind.Kind.TheVariants.{StatefulSet}
use Rattle.objects.specs.Key.{key_parts}
use Rattle.rounds.specs.Reconciler.{Reconciler}
use Rattle.rounds.specs.Sound.{IsSound}
use Rattle.rounds.specs.World.{AreMadeOf}
use Rattle.controllers.proofs.Soundness.{is_sound}
use Rattle.controllers.specs.declared.controller.Controller.{Controller}
use Rattle.controllers.specs.declared.set_spec.SetSpec.{SetSpec}
use Rattle.controllers.specs.Cluster.{reconciler_for, reconciler_named}
use Rattle.controllers.specs.Controller.{reconciler_of}
use Rattle.controllers.specs.InTurn.{IsOfSet}

module _ {X Y Z : Type 0} (f : X → Z) (g : Y → Z) where
  pub same_length : (xs : List X) (ys : List Y) → map f xs ≡ map g ys → length xs ≡ length ys
  same_length xs ys is = sym (length-map xs f) ∙ ap length is ∙ length-map ys g

  same_at_index : (d : Z) (o : Option X) (p : Option Y) → option_map f o ≡ option_map g p → IfSome o (λ x. f x ≡ option_map_or g p d)
  same_at_index d None p is = tt
  same_at_index d (Some x) None is = absurd cc
  same_at_index d (Some x) (Some y) is = cc

  pub same_at_each_index : (d : Z) (xs : List X) (ys : List Y) → map f xs ≡ map g ys → (n : ℕ) → IfSome (slice_get xs n) (λ x. f x ≡ option_map_or g (slice_get ys n) d)
  same_at_each_index d xs ys is n = same_at_index d (slice_get xs n) (slice_get ys n) (sym (slice_get-map f xs n) ∙ ap (λ zs. slice_get zs n) is ∙ slice_get-map g ys n)

pub made_named : (controllers : List Controller) (sets : List SetSpec) → map reconciler_of controllers ≡ map reconciler_for sets → AreMadeOf reconciler_of controllers (reconciler_named sets)
unfolding reconciler_named
made_named controllers sets is = same_at_each_index reconciler_of reconciler_for _ controllers sets is

sound_by : (d : Reconciler) → IsSound d → (o : Option SetSpec) → IsSound (option_map_or reconciler_for o d)
sound_by d sound None = sound
sound_by d sound (Some s) = is_sound (key_parts StatefulSet s.namespace s.name) s.digits s.moment

pub sound_named : (sets : List SetSpec) (n : ℕ) → IsSound (reconciler_named sets n)
unfolding reconciler_named
sound_named sets n = sound_by _ (is_sound (key_parts StatefulSet [] []) 1 []) (slice_get sets n)

of_set : (d : Reconciler) → IsOfSet d → (o : Option SetSpec) → IsOfSet (option_map_or reconciler_for o d)
of_set d is None = is
of_set d is (Some s) = (key_parts StatefulSet s.namespace s.name, s.digits, s.moment, refl)

pub sets_named : (sets : List SetSpec) (n : ℕ) → IsOfSet (reconciler_named sets n)
unfolding reconciler_named
sets_named sets n = of_set _ (key_parts StatefulSet [] [], 1, [], refl) (slice_get sets n)
