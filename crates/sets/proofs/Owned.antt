-- The owned revisions in order are one list.
use Rattle.std.proofs.Common.{◌≡◌, inl, inr, Bool, true, false, not, cond, List, [], ◌∷◌, filter, refl, sym, ap, ◌∙◌, Ordering, Less, Equal, Greater, true≢false}
use Rattle.std.specs.Prelude.{bytes_eq}
use Rattle.std.specs.Cmp.{IsTotalOrder}
use Rattle.std.specs.Cmp.Lexicographic.{slice_cmp}
use Rattle.std.specs.Ordering.{is_eq, nat_cmp, ordering_then}
use Rattle.std.proofs.lemmas.Cmp.{nat_cmp_total, nat_list_cmp_total, on_total, then_total}
use Rattle.std.proofs.lemmas.Map.Lookups.{exact_bytes}
use Rattle.std.proofs.lemmas.Slice.Eq.{bytes_eq-Decides}
use Rattle.objects.specs.declared.object.Object.{Object}
use Rattle.set_views.specs.Firsts.{first_of_each}
use Rattle.set_views.specs.Set.{SetParts}
use Rattle.revisions.specs.Revision.{AreOwned, owns_revision, listed, number_of, owned_among, revision_cmp}
use Rattle.requests.specs.Lists.{Has}
use Rattle.sets.specs.PlanOfLists.{owned_of}
use Rattle.sets.proofs.Ordered.{HasNoTies, sorted_is_in_order}

pub filtered : {X : Type 0} (p : X → Bool) (x : X) (xs : List X) → Has x (filter p xs) → Has x xs × (p x ≡ true)
filtered p x [] at = absurd at
filtered p x (y ∷ ys) at =
    elim (p y) as (λ b. p y ≡ b → Has x (cond b (y ∷ filter p ys) (filter p ys)) → Has x (y ∷ ys) × (p x ≡ true)) [
      | true ↦ λ e h. elim h [ inl is ↦ (inl is, ap p is ∙ e) | inr more ↦ let r = filtered p x ys more in (inr r.0, r.1) ]
      | false ↦ λ e h. let r = filtered p x ys h in (inr r.0, r.1)
    ] refl at

pub first_among : (os : List Object) (x : Object) → Has x (first_of_each os) → Has x os
first_among [] x at = absurd at
first_among (o ∷ os) x (inl is) = inl is
first_among (o ∷ os) x (inr at) = inr (first_among os x (filtered (λ (p : Object). not (bytes_eq p.key.name o.key.name)) x (first_of_each os) at).0)

-- one of a name is first
pub one_of_a_name : (os : List Object) (x y : Object) → Has x (first_of_each os) → Has y (first_of_each os) → x.key.name ≡ y.key.name → x ≡ y
one_of_a_name [] x y at_x at_y same = absurd at_x
one_of_a_name (o ∷ os) x y (inl x_is) (inl y_is) same = x_is ∙ sym y_is
one_of_a_name (o ∷ os) x y (inl x_is) (inr at_y) same =
    let r = filtered (λ (p : Object). not (bytes_eq p.key.name o.key.name)) y (first_of_each os) at_y in
    let held : bytes_eq y.key.name o.key.name ≡ true = (bytes_eq-Decides y.key.name o.key.name).1 (sym same ∙ ap (λ (p : Object). p.key.name) x_is) in
    absurd (true≢false (sym r.1 ∙ ap not held))
one_of_a_name (o ∷ os) x y (inr at_x) (inl y_is) same =
    let r = filtered (λ (p : Object). not (bytes_eq p.key.name o.key.name)) x (first_of_each os) at_x in
    let held : bytes_eq x.key.name o.key.name ≡ true = (bytes_eq-Decides x.key.name o.key.name).1 (same ∙ ap (λ (p : Object). p.key.name) y_is) in
    absurd (true≢false (sym r.1 ∙ ap not held))
one_of_a_name (o ∷ os) x y (inr at_x) (inr at_y) same =
    one_of_a_name os x y (filtered (λ (p : Object). not (bytes_eq p.key.name o.key.name)) x (first_of_each os) at_x).0
    (filtered (λ (p : Object). not (bytes_eq p.key.name o.key.name)) y (first_of_each os) at_y).0 same

pub total : IsTotalOrder revision_cmp
total = then_total (on_total number_of nat_cmp_total) (on_total (λ (o : Object). o.key.name) nat_list_cmp_total)

second_ties : (a b : Ordering) → ordering_then a b ≡ Equal → b ≡ Equal
second_ties Less b h = absurd (true≢false (sym (ap is_eq h)))
second_ties Equal b h = h
second_ties Greater b h = absurd (true≢false (sym (ap is_eq h)))

no_ties : (set : SetParts) (os : List Object) → HasNoTies revision_cmp (owned_among set os)
no_ties set os x y at_x at_y ties =
    one_of_a_name (listed set os) x y (filtered (owns_revision set) x (first_of_each (listed set os)) at_x).0
    (filtered (owns_revision set) y (first_of_each (listed set os)) at_y).0
    (exact_bytes x.key.name y.key.name (second_ties (nat_cmp (number_of x) (number_of y)) (slice_cmp nat_cmp x.key.name y.key.name) ties))

pub owned_is : (set : SetParts) (os owned : List Object) → AreOwned set os owned → owned ≡ owned_of set os
unfolding owned_of
owned_is set os owned is = sorted_is_in_order revision_cmp total (owned_among set os) owned (no_ties set os) is.same is.ordered
