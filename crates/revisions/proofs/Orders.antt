-- Views of revisions in order, as revisions in order.
use Rattle.std.proofs.Common.{◌≡◌, ℕ, ◌+◌, ◌<◌, List, [], ◌∷◌, length, get_or, false, Bor, sym, ap, ◌∙◌, arith}
use Rattle.std.specs.Cmp.Lexicographic.{slice_cmp}
use Rattle.std.specs.List.Sorted.{IsSortedByKey, IsSorted}
use Rattle.std.specs.Ordering.{nat_cmp, is_lt, ordering_then}
use Rattle.std.specs.declared.cmp.Ordering.{Ordering}
use Rattle.std.proofs.lemmas.List.{get_or-map, length-map}
use Rattle.objects.specs.declared.object.Object.{Object}
use Rattle.revisions.specs.declared.view.RevisionView.{RevisionView}
use Rattle.revisions.specs.Plan.{objects_of}
use Rattle.revisions.specs.Revision.{revision_cmp}

abbrev pub Rank : Type 0
Rank = ℕ × Bor (List ℕ)

abbrev pub rank_of : RevisionView → Rank
rank_of r = (r.number, r.name)

abbrev pub rank_cmp : Rank → Rank → Ordering
rank_cmp a b = ordering_then (nat_cmp a.0 b.0) (slice_cmp nat_cmp a.1.now b.1.now)

same_order : (a b : RevisionView) → rank_cmp (rank_of a) (rank_of b) ≡ revision_cmp a.object.now b.object.now
same_order a b = λ i. ordering_then (nat_cmp (a.numbered i) (b.numbered i)) (slice_cmp nat_cmp (a.named i) (b.named i))

at_views : (rs : List RevisionView) (d : RevisionView) (o : Object) (k : ℕ) → k + 1 < length rs → is_lt (rank_cmp (rank_of (get_or rs (k + 1) d)) (rank_of (get_or rs k d))) ≡ false
    → is_lt (revision_cmp (get_or (objects_of rs) (k + 1) o) (get_or (objects_of rs) k o)) ≡ false
at_views rs d o k inside h =
    rw (get_or-map (λ (r : RevisionView). r.object.now) rs (k + 1) d o inside, get_or-map (λ (r : RevisionView). r.object.now) rs k d o (omega arith))
    (ap is_lt (sym (same_order (get_or rs (k + 1) d) (get_or rs k d))) ∙ h)

pub objects_in_order : (rs : List RevisionView) → IsSortedByKey rank_of rank_cmp rs → IsSorted revision_cmp (objects_of rs)
objects_in_order [] sorted = λ k o low high. absurd (omega arith)
objects_in_order (r ∷ rs) sorted = λ k o low high.
    let inside : k + 1 < length (r ∷ rs) = omega (arith, length-map (r ∷ rs) (λ (v : RevisionView). v.object.now)) in
    at_views (r ∷ rs) r o k inside (sorted k r low inside)
