-- The first revision of each name, as the objects of a list are visited in order.
use Rattle.std.proofs.Common.{◌≡◌, List, [], ◌∷◌, ◌++◌, Bool, true, false, not, cond, filter, refl, sym, ap, ◌∙◌, append-nil}
use Rattle.std.specs.Prelude.{◌&&◌, if◌then◌else◌}
use Rattle.std.proofs.lemmas.List.Elements.{filter-append}
use Rattle.std.proofs.lemmas.List.{map-append}
use Rattle.objects.specs.declared.kind.Kind.TheVariants.{ControllerRevision}
use Rattle.objects.specs.declared.object.Object.{Object}
use Rattle.set_views.specs.Firsts.{first_of_each, is_held}
use Rattle.set_views.specs.Set.{SetParts}
use Rattle.set_views.specs.Predicates.{in_namespace}
use Rattle.set_views.proofs.Firsts.{firsts_more, last_if}
use Rattle.revisions.specs.declared.view.RevisionView.{RevisionView}
use Rattle.revisions.specs.Plan.{objects_of}
use Rattle.revisions.specs.Revision.{owns_revision, listed, owned_among}

-- the view of an object was pushed
pub view_taken : (listed held owned : Bool) (xs after : List RevisionView) (v : RevisionView) (o : Object) → listed ≡ true → held ≡ false → owned ≡ true → after ≡ xs ++ v ∷ [] → v.object.now ≡ o
    → objects_of after ≡ (if listed && not held && owned then objects_of xs ++ o ∷ [] else objects_of xs)
view_taken listed held owned xs after v o listed_is held_is owned_is after_is v_is =
    rw (listed_is, held_is, owned_is) (ap objects_of after_is ∙ (map-append (λ (r : RevisionView). r.object.now) xs (v ∷ []) ∙ ap (λ p. objects_of xs ++ p ∷ []) v_is))

-- no view was
pub view_left : (listed held owned : Bool) (xs : List Object) (o : Object) → (not held && owned) ≡ false → xs ≡ (if listed && not held && owned then xs ++ o ∷ [] else xs)
view_left true true owned xs o h = refl
view_left true false true xs o h = absurd cc
view_left true false false xs o h = refl
view_left false true owned xs o h = refl
view_left false false owned xs o h = refl

pub left_first : (held owned : Bool) → held ≡ true → (not held && owned) ≡ false
left_first true owned h = refl
left_first false owned h = absurd cc

pub left_second : (held owned : Bool) → owned ≡ false → (not held && owned) ≡ false
left_second true false h = refl
left_second false false h = refl
left_second held true h = absurd cc

owned_end : (listed held : Bool) (xs : List Object) (set : SetParts) (o : Object) → xs ++ filter (owns_revision set) (last_if (listed && not held) o) ≡ (if listed && not held && owns_revision set o then xs ++ o ∷ [] else xs)
owned_end true true xs set o = append-nil xs
owned_end true false xs set o = elim (owns_revision set o) as (λ b. xs ++ cond b (o ∷ []) [] ≡ (if b then xs ++ o ∷ [] else xs)) [ true ↦ refl | false ↦ append-nil xs ]
owned_end false held xs set o = append-nil xs

-- the owned revisions with one more object
pub owned_more : (set : SetParts) (os : List Object) (o : Object)
    → owned_among set (os ++ o ∷ []) ≡ (if in_namespace set ControllerRevision o && not (is_held (listed set os) o.key.name) && owns_revision set o then owned_among set os ++ o ∷ [] else owned_among set os)
owned_more set os o =
    let held = is_held (listed set os) o.key.name in
    ap (filter (owns_revision set)) (firsts_more (in_namespace set ControllerRevision) os o)
    ∙ (filter-append (owns_revision set) (first_of_each (listed set os)) (last_if (in_namespace set ControllerRevision o && not held) o)
    ∙ owned_end (in_namespace set ControllerRevision o) held (owned_among set os) set o)

pub owned_step : (set : SetParts) (os : List Object) (o : Object) (held : Bool) (before after : List Object) → after ≡ (if in_namespace set ControllerRevision o && not held && owns_revision set o then before ++ o ∷ [] else before)
    → held ≡ is_held (listed set os) o.key.name → before ≡ owned_among set os → after ≡ owned_among set (os ++ o ∷ [])
owned_step set os o held before after after_is held_is before_is =
    after_is ∙ (ap (λ h. if in_namespace set ControllerRevision o && not h && owns_revision set o then before ++ o ∷ [] else before) held_is
    ∙ (ap (λ b. if in_namespace set ControllerRevision o && not (is_held (listed set os) o.key.name) && owns_revision set o then b ++ o ∷ [] else b) before_is ∙ sym (owned_more set os o)))
