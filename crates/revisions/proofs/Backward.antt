-- A search from the last view to the first.
use Rattle.std.proofs.Common.{◌≡◌, List, [], ◌∷◌, ◌++◌, reverse, ap, ◌∙◌}
use Rattle.std.proofs.lemmas.List.{map-append, reverse-append}
use Rattle.revisions.specs.declared.view.RevisionView.{RevisionView}
use Rattle.revisions.specs.Plan.{objects_of}

pub last_first : (xs : List RevisionView) (x : RevisionView) → reverse (objects_of (xs ++ x ∷ [])) ≡ x.object.now ∷ reverse (objects_of xs)
last_first xs x = ap reverse (map-append (λ (r : RevisionView). r.object.now) xs (x ∷ [])) ∙ reverse-append (objects_of xs) (x.object.now ∷ [])
