-- The first object of each name, as the objects of a list are visited in order.
use Rattle.std.proofs.Common.{◌≡◌, ℕ, List, [], ◌∷◌, ◌++◌, Bool, true, false, not, cond, filter, refl, sym, ap, ◌∙◌, append-nil}
use Rattle.std.specs.Prelude.{◌&&◌, ◌||◌, bytes_eq, if◌then◌else◌}
use Rattle.std.proofs.lemmas.List.Elements.{filter-append}
use Rattle.std.proofs.lemmas.List.Folds.{list_any-append}
use Rattle.objects.specs.declared.object.Object.{Object}
use Rattle.set_views.specs.Firsts.{first_of_each, is_held}

abbrev pub last_if : Bool → Object → List Object
last_if b o = if b then o ∷ [] else []

filter_last : (p : Object → Bool) (o : Object) → filter p (o ∷ []) ≡ last_if (p o) o
filter_last p o = elim (p o) as (λ b. cond b (o ∷ []) [] ≡ last_if b o) [ true ↦ refl | false ↦ refl ]

pub kept_more : (p : Object → Bool) (os : List Object) (o : Object) → filter p (os ++ o ∷ []) ≡ filter p os ++ last_if (p o) o
kept_more p os o = filter-append p os (o ∷ []) ∙ ap (λ l. filter p os ++ l) (filter_last p o)

held_last : (b : Bool) (o : Object) (q : List ℕ) → is_held (last_if b o) q ≡ (b && bytes_eq q o.key.name)
held_last true o q = elim (bytes_eq q o.key.name) as (λ b. (b || false) ≡ b) [ true ↦ refl | false ↦ refl ]
held_last false o q = refl

-- the names that one more object holds
pub held_more : (p : Object → Bool) (os : List Object) (o : Object) (q : List ℕ) → is_held (filter p (os ++ o ∷ [])) q ≡ (is_held (filter p os) q || (p o && bytes_eq q o.key.name))
held_more p os o q =
    ap (λ l. is_held l q) (kept_more p os o) ∙ (list_any-append (λ x. bytes_eq q x.key.name) (filter p os) (last_if (p o) o)
    ∙ ap (λ b. is_held (filter p os) q || b) (held_last (p o) o q))

abbrev other_than : Object → Object → Bool
other_than o p = not (bytes_eq p.key.name o.key.name)

other_last : (same held : Bool) (x o : Object) → bytes_eq o.key.name x.key.name ≡ same → filter (other_than x) (last_if (not held) o) ≡ last_if (not (same || held)) o
other_last true true x o is = refl
other_last true false x o is = rw is refl
other_last false true x o is = refl
other_last false false x o is = rw is refl

pub first_more : (xs : List Object) (o : Object) → first_of_each (xs ++ o ∷ []) ≡ first_of_each xs ++ last_if (not (is_held xs o.key.name)) o
first_more [] o = refl
first_more (x ∷ xs) o =
    ap (λ l. x ∷ filter (other_than x) l) (first_more xs o)
    ∙ ap (λ l. x ∷ l) (filter-append (other_than x) (first_of_each xs) (last_if (not (is_held xs o.key.name)) o)
    ∙ ap (λ l. filter (other_than x) (first_of_each xs) ++ l) (other_last (bytes_eq o.key.name x.key.name) (is_held xs o.key.name) x o refl))

firsts_last : (kept held : Bool) (xs : List Object) (o : Object) → is_held xs o.key.name ≡ held
    → first_of_each (xs ++ last_if kept o) ≡ first_of_each xs ++ last_if (kept && not held) o
firsts_last true held xs o is = first_more xs o ∙ ap (λ b. first_of_each xs ++ last_if (not b) o) is
firsts_last false held xs o is = ap first_of_each (append-nil xs) ∙ sym (append-nil (first_of_each xs))

-- one more object counts if it is kept and is the first of its name
pub firsts_more : (p : Object → Bool) (os : List Object) (o : Object) → first_of_each (filter p (os ++ o ∷ [])) ≡ first_of_each (filter p os) ++ last_if (p o && not (is_held (filter p os) o.key.name)) o
firsts_more p os o = ap first_of_each (kept_more p os o) ∙ firsts_last (p o) (is_held (filter p os) o.key.name) (filter p os) o refl
