-- If the order of a race is legal, no pod was created twice in it.
use Rattle.std.proofs.Common.{◌≡◌, ℕ, List, [], ◌∷◌, Some, refl, sym, ap, ◌∙◌, subst, inl, inr, zip, map}
use mathlib.Core.Logic.{∥∥₁_elim}
use native.Mathlib.Nat.{ℕ_set}
use Rattle.std.specs.List.{AllByRecursion}
use Rattle.std.specs.List.Sorted.{IsPermutation}
use Rattle.std.proofs.lemmas.List.Elements.{All-from_recursion, recursion_from_All}
use Rattle.std.proofs.lemmas.List.Sorted.{All-permutation}
use Rattle.requests.specs.declared.request.Request.{Request}
use Rattle.requests.specs.declared.reply.Reply.{Reply}
use Rattle.plain_store.specs.Run.{replies}
use Rattle.plain_store.specs.Store.{Store, opening, step}
use Rattle.interleavings.specs.declared.trace.Item.{Item}
use Rattle.interleavings.specs.Linearization.{AreCalled, AreOnce, Has, IsLegal}
use Rattle.race_log.specs.declared.stamp.Stamp.{Stamp}
use Rattle.race_log.specs.Judged.{calls_of}
use Rattle.race_log.specs.Logged.{IsNoted, Noted}
use Rattle.race_log.specs.Order.{IsOrderOf}
use Rattle.race_log.specs.Twice.{repeats, reply_at, replies_in_order, with_next}
use Rattle.race_log.proofs.Once.{none_twice_in_run, onto}

-- ---- elements of a list

all_has : {A : Type 0} (P : A → Type 0) (xs : List A) → AllByRecursion P xs → (x : A) → Has x xs → P x
all_has P [] all x m = absurd m
all_has P (y ∷ ys) all x (inl e) = subst P (sym e) all.0
all_has P (y ∷ ys) all x (inr m) = all_has P ys all.1 x m

has_all : {A : Type 0} (P : A → Type 0) (xs : List A) → ((x : A) → Has x xs → P x) → AllByRecursion P xs
has_all P [] each = tt
has_all P (x ∷ xs) each = (each x (inl refl), has_all P xs (λ y m. each y (inr m)))

-- what one order has the other has
has_permutation : {A : Type 0} (xs ys : List A) → IsPermutation xs ys → (x : A) → Has x ys → Has x xs
has_permutation {A} xs ys same x m =
    let P : A → Type 0 = λ y. Has y xs in
    all_has P ys (recursion_from_All P ys (All-permutation P xs ys same (All-from_recursion P xs (has_all P xs (λ y k. k))))) x m

has_map : {A B : Type 0} (f : A → B) (x : A) (xs : List A) → Has x xs → Has (f x) (map f xs)
has_map f x [] m = absurd m
has_map f x (y ∷ ys) (inl e) = inl (ap f e)
has_map f x (y ∷ ys) (inr m) = inr (has_map f x ys m)

has_zip : {A B : Type 0} (x : A) (y : B) (xs : List A) (ys : List B) → Has (x, y) (zip xs ys) → Has x xs
has_zip x y [] ys m = absurd m
has_zip x y (z ∷ xs) [] m = absurd m
has_zip x y (z ∷ xs) (w ∷ ys) (inl e) = inl (ap (λ p. p.0) e)
has_zip x y (z ∷ xs) (w ∷ ys) (inr m) = inr (has_zip x y xs ys m)

-- ---- each reply that was noted is the store's

-- the reply that a stamp names is given to its call
abbrev Fits : List Item → List (ℕ × Reply) → Stamp → Type 0
Fits items given s = (reply : Reply) × ((reply_at items s.reply ≡ Some reply) × Has (s.call, reply) given)

replies_onto : (items : List Item) (order : List Stamp) (st : Store) (rs : List Request) (earlier : List Reply)
    → AreCalled items (calls_of order) rs → AreOnce (calls_of order)
    → ((s : Stamp) → Has s order → Fits items (zip (calls_of order) (replies st rs)) s)
    → replies_in_order items order earlier ≡ onto (replies st rs) earlier
replies_onto items [] st [] earlier called once fits = refl
replies_onto items [] st (r ∷ rs) earlier called once fits = absurd called
replies_onto items (s ∷ order) st [] earlier called once fits = absurd called
replies_onto items (s ∷ order) st (r ∷ rs) earlier called once fits =
    ap (λ o. replies_in_order items order (with_next o earlier)) (first (fits s (inl refl)))
    ∙ replies_onto items order (step st r).0 rs ((step st r).1 ∷ earlier) called.1 once.1 (λ x m. rest x m (fits x (inr m)))
  where
    first : Fits items (zip (calls_of (s ∷ order)) (replies st (r ∷ rs))) s → reply_at items s.reply ≡ Some (step st r).1
    first (reply, (is, inl e)) = is ∙ ap (λ p. Some p.1) e
    first (reply, (is, inr m)) = absurd (once.0 (has_zip s.call reply _ _ m))

    rest : (x : Stamp) → Has x order → Fits items (zip (calls_of (s ∷ order)) (replies st (r ∷ rs))) x
        → Fits items (zip (calls_of order) (replies (step st r).0 rs)) x
    rest x m (reply, (is, inl e)) = absurd (once.0 (subst (λ p. Has p (calls_of order)) (ap (λ p. p.0) e) (has_map (λ (t : Stamp). t.call) x order m)))
    rest x m (reply, (is, inr k)) = (reply, (is, k))

pub legal_once : (capacity : ℕ) (n : Noted) (order : List Stamp) → IsNoted n → IsOrderOf n.stamps order → IsLegal capacity n.items (calls_of order)
    → repeats (replies_in_order n.items order []) ≡ 0
legal_once capacity n order noted ordered legal =
    ap repeats (replies_onto n.items order (opening capacity) legal.requests [] legal.called legal.once fits) ∙ none_twice_in_run capacity legal.requests
  where
    fits : (s : Stamp) → Has s order → Fits n.items (zip (calls_of order) (replies (opening capacity) legal.requests)) s
    fits s m = let k = noted.stamped s (has_permutation n.stamps order ordered.same s m) in (k.reply, (k.is, legal.right s.reply s.call k.reply k.answers))

-- the same if it is known only that the log is so
pub legal_once_merely : (capacity : ℕ) (n : Noted) (order : List Stamp) → ∥ IsNoted n ∥₁ → IsOrderOf n.stamps order → IsLegal capacity n.items (calls_of order)
    → repeats (replies_in_order n.items order []) ≡ 0
legal_once_merely capacity n order noted ordered legal = ∥∥₁_elim noted (ℕ_set _ _) (λ is. legal_once capacity n order is ordered legal)
