-- Names of claim templates: whether one occurs twice.
use Rattle.std.proofs.Common.{◌≡◌, List, [], ◌∷◌, ◌++◌, true, false, refl, sym, ap, ◌∙◌, append_assoc}
use Rattle.std.specs.Prelude.{◌&&◌, not, bytes_eq}
use Rattle.std.specs.List.{list_any}
use Rattle.set_views.specs.Claims.{Claim, are_distinct, names_of}

twice_behind : (pre done : List Claim) (x : Claim) → list_any (bytes_eq x.0) (names_of done) ≡ true → are_distinct (names_of (pre ++ x ∷ done)) ≡ false
twice_behind [] done x h = rw h refl
twice_behind (y ∷ pre) done x h =
    rw (twice_behind pre done x h) (elim (not (list_any (bytes_eq y.0) (names_of (pre ++ x ∷ done)))) as (λ b. (b && false) ≡ false) [ true ↦ refl | false ↦ refl ])

-- a template whose name occurs again among those after it
pub stands_twice : (claims rest pre done : List Claim) (x : Claim) → rest ++ done ≡ claims → rest ≡ pre ++ x ∷ [] → list_any (bytes_eq x.0) (names_of done) ≡ true → false ≡ are_distinct (names_of claims)
stands_twice claims rest pre done x whole last h =
    sym (ap (λ cs. are_distinct (names_of cs)) (sym whole ∙ ap (λ cs. cs ++ done) last ∙ append_assoc pre (x ∷ []) done) ∙ twice_behind pre done x h)

pub distinct_more : (x : Claim) (done : List Claim) → list_any (bytes_eq x.0) (names_of done) ≡ false → are_distinct (names_of done) ≡ true → are_distinct (names_of (x ∷ done)) ≡ true
distinct_more x done new distinct = rw (new, distinct) refl
