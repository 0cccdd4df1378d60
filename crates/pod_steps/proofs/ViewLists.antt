-- One more view.
use Rattle.std.proofs.Common.{◌≡◌, ℕ, Bool, true, false, not, List, [], ◌∷◌, ◌++◌, filter, sym, ap, ◌∙◌, subst}
use Rattle.std.specs.Prelude.{◌&&◌}
use Rattle.std.proofs.lemmas.List.{append-nil}
use Rattle.objects.specs.declared.object.Object.{Object}
use Rattle.set_views.specs.declared.pod.PodView.{PodView}
use Rattle.set_views.specs.Firsts.{first_of_each, is_held}
use Rattle.set_views.proofs.Firsts.{firsts_more, kept_more, last_if}
use Rattle.pod_steps.specs.Views.{AreViews, IsViewOf}

one_more : (os : List Object) (views : List PodView) (o : Object) (view : PodView) → AreViews os views → IsViewOf o view → AreViews (os ++ o ∷ []) (views ++ view ∷ [])
one_more [] [] o view all it = (it, tt)
one_more [] (v ∷ views) o view all it = absurd all
one_more (p ∷ os) [] o view all it = absurd all
one_more (p ∷ os) (v ∷ views) o view all it = (all.0, one_more os views o view all.1 it)

-- an object that counts
pub view_added : (p : Object → Bool) (os : List Object) (views : List PodView) (o : Object) (view : PodView) → AreViews (first_of_each (filter p os)) views
    → (p o && not (is_held (filter p os) o.key.name)) ≡ true → IsViewOf o view → AreViews (first_of_each (filter p (os ++ o ∷ []))) (views ++ view ∷ [])
view_added p os views o view all counts it =
    let kept : first_of_each (filter p (os ++ o ∷ [])) ≡ first_of_each (filter p os) ++ o ∷ [] = firsts_more p os o ∙ ap (λ b. first_of_each (filter p os) ++ last_if b o) counts in
    let P : List Object → Type 0 = λ l. AreViews l (views ++ view ∷ []) in
    subst P (sym kept) (one_more (first_of_each (filter p os)) views o view all it)

-- one that is ignored
pub view_passed : (p : Object → Bool) (os : List Object) (views : List PodView) (o : Object) → AreViews (first_of_each (filter p os)) views
    → (p o && not (is_held (filter p os) o.key.name)) ≡ false → AreViews (first_of_each (filter p (os ++ o ∷ []))) views
view_passed p os views o all passed =
    let same : first_of_each (filter p (os ++ o ∷ [])) ≡ first_of_each (filter p os) =
    firsts_more p os o ∙ (ap (λ b. first_of_each (filter p os) ++ last_if b o) passed ∙ append-nil (first_of_each (filter p os))) in
    let P : List Object → Type 0 = λ l. AreViews l views in
    subst P (sym same) all

-- the names that are held stay when an object is ignored
pub names_left : (p : Object → Bool) (os : List Object) (o : Object) (q : List ℕ) → p o ≡ false → is_held (filter p (os ++ o ∷ [])) q ≡ is_held (filter p os) q
names_left p os o q is = ap (λ l. is_held l q) (kept_more p os o ∙ (ap (λ b. filter p os ++ last_if b o) is ∙ append-nil (filter p os)))
