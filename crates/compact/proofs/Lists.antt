-- Parts of lists that are given by lengths.
use Rattle.std.proofs.Common.{◌≡◌, ℕ, ◌+◌, ◌-◌, ◌≤◌, List, [], ◌∷◌, ◌++◌, length, take, drop, take-append-drop, slice_set, refl, sym, ap, ap₂, ◌∙◌, append_assoc, append-nil, length-append, arith}
use Rattle.std.proofs.lemmas.List.{length-drop, length-take}
use borrow.Rule.Slice.PartMut.{mid_of, put_mid}

pub drop_front : {A : Type 0} (front rest : List A) → drop (length front) (front ++ rest) ≡ rest
drop_front [] rest = refl
drop_front (x ∷ front) rest = drop_front front rest

pub take_front : {A : Type 0} (front rest : List A) → take (length front) (front ++ rest) ≡ front
take_front [] rest = refl
take_front (x ∷ front) rest = ap (λ l. x ∷ l) (take_front front rest)

take_whole : {A : Type 0} (xs : List A) → take (length xs) xs ≡ xs
take_whole [] = refl
take_whole (x ∷ xs) = ap (λ l. x ∷ l) (take_whole xs)

drop_whole : {A : Type 0} (xs : List A) → drop (length xs) xs ≡ []
drop_whole [] = refl
drop_whole (x ∷ xs) = drop_whole xs

pub none_left : {A : Type 0} (xs : List A) → length xs ≡ 0 → xs ≡ []
none_left [] h = refl
none_left (x ∷ xs) h = absurd (omega (arith, h))

-- ---- what is there from an index on

part_is : (front tail : List ℕ) → mid_of (length front) (length (front ++ tail) - length front) (front ++ tail) ≡ tail
part_is front tail =
    let long : length (front ++ tail) - length front ≡ length tail = omega (arith, length-append front tail) in
    ap (λ n. take n (drop (length front) (front ++ tail))) long ∙ ap (take (length tail)) (drop_front front tail) ∙ take_whole tail

rest_is : (front tail : List ℕ) → drop (length (front ++ tail) - length front) (drop (length front) (front ++ tail)) ≡ []
rest_is front tail =
    let long : length (front ++ tail) - length front ≡ length tail = omega (arith, length-append front tail) in
    ap (λ n. drop n (drop (length front) (front ++ tail))) long ∙ ap (drop (length tail)) (drop_front front tail) ∙ drop_whole tail

pub part_of : (now front left : List ℕ) (at : ℕ) → now ≡ front ++ left → at ≡ length front → mid_of at (length now - at) now ≡ left
part_of now front left at is here = (λ i. mid_of (here i) (length (is i) - here i) (is i)) ∙ part_is front left

pub put_of : (now front left sub : List ℕ) (at : ℕ) → now ≡ front ++ left → at ≡ length front → put_mid at (length now - at) now sub ≡ front ++ sub
put_of now front left sub at is here =
    (λ i. put_mid (here i) (length (is i) - here i) (is i) sub) ∙ ap₂ (λ a b. a ++ (sub ++ b)) (take_front front left) (rest_is front left) ∙ ap (λ s. front ++ s) (append-nil sub)

-- ---- what is there between two indices

mid_is : (front part rest : List ℕ) → mid_of (length front) (length part) (front ++ (part ++ rest)) ≡ part
mid_is front part rest = ap (take (length part)) (drop_front front (part ++ rest)) ∙ take_front part rest

put_is : (front part rest sub : List ℕ) → put_mid (length front) (length part) (front ++ (part ++ rest)) sub ≡ front ++ (sub ++ rest)
put_is front part rest sub =
    ap₂ (λ a b. a ++ (sub ++ b)) (take_front front (part ++ rest)) (ap (drop (length part)) (drop_front front (part ++ rest)) ∙ drop_front part rest)

pub part_at : (text front part rest : List ℕ) (start n : ℕ) → text ≡ front ++ (part ++ rest) → start ≡ length front → n ≡ length part → mid_of start n text ≡ part
part_at text front part rest start n is here long = (λ i. mid_of (here i) (long i) (is i)) ∙ mid_is front part rest

pub put_at : (text front part rest sub : List ℕ) (start n : ℕ) → text ≡ front ++ (part ++ rest) → start ≡ length front → n ≡ length part → put_mid start n text sub ≡ front ++ (sub ++ rest)
put_at text front part rest sub start n is here long = (λ i. put_mid (here i) (long i) (is i) sub) ∙ put_is front part rest sub

-- ---- one that is set

set_front : {A : Type 0} (front rest : List A) (x y : A) → slice_set (front ++ x ∷ rest) (length front) y ≡ front ++ y ∷ rest
set_front [] rest x y = refl
set_front (z ∷ front) rest x y = ap (λ l. z ∷ l) (set_front front rest x y)

pub set_of : {A : Type 0} (text front rest : List A) (x y : A) (end : ℕ) → text ≡ front ++ x ∷ rest → end ≡ length front → slice_set text end y ≡ front ++ y ∷ rest
set_of text front rest x y end is here = (λ i. slice_set (is i) (here i) y) ∙ set_front front rest x y

-- ---- one that is inserted, if there is room

record Headed {A : Type 0} (xs : List A) : Type 0 where
  head : A
  tail : List A
  is : xs ≡ head ∷ tail

headed : {A : Type 0} (xs : List A) → 1 ≤ length xs → Headed xs
headed [] h = absurd (omega (arith, h))
headed (x ∷ xs) h = record { head = x; tail = xs; is = refl }

pasted_text : {A : Type 0} (f z b t : List A) → (f ++ z) ++ (b ++ t) ≡ f ++ (z ++ (b ++ t))
pasted_text f z b t = append_assoc f z (b ++ t)

pub inserted : {A : Type 0} (held new front back : List A) (index count : ℕ) (value : A) → count + 1 ≤ length held → take count held ≡ front ++ back → length front ≡ index
    → new ≡ (take (index + 1) held ++ take (count - index) (drop index held)) ++ drop (index + 1 + (count - index)) held → take (count + 1) (slice_set new index value) ≡ front ++ value ∷ back
inserted held new front back index count value room is here h =
    let long : count ≡ length (front ++ back) = omega (arith, sym (ap length is), length-take count held) in
    let r = headed (drop count held) (omega (arith, length-drop count held, room)) in
    let held_is : held ≡ front ++ (back ++ r.head ∷ r.tail) = sym (take-append-drop count held) ∙ ap₂ (λ a b. a ++ b) is r.is ∙ append_assoc front back (r.head ∷ r.tail) in
    let z = headed (back ++ r.head ∷ r.tail) (omega (arith, length-append back (r.head ∷ r.tail))) in
    let first_is : held ≡ (front ++ z.head ∷ []) ++ z.tail = held_is ∙ ap (λ l. front ++ l) z.is ∙ sym (append_assoc front (z.head ∷ []) z.tail) in
    let last_is : held ≡ ((front ++ back) ++ r.head ∷ []) ++ r.tail = held_is ∙ sym (append_assoc front back (r.head ∷ r.tail)) ∙ sym (append_assoc (front ++ back) (r.head ∷ []) r.tail) in
    let one : index + 1 ≡ length (front ++ z.head ∷ []) = omega (arith, here, length-append front (z.head ∷ [])) in
    let many : count - index ≡ length back = omega (arith, here, long, length-append front back) in
    let all : index + 1 + (count - index) ≡ length ((front ++ back) ++ r.head ∷ []) = omega (arith, here, long, length-append front back, length-append (front ++ back) (r.head ∷ [])) in
    let a : take (index + 1) held ≡ front ++ z.head ∷ [] = (λ i. take (one i) (first_is i)) ∙ take_front (front ++ z.head ∷ []) z.tail in
    let b : take (count - index) (drop index held) ≡ back = (λ i. take (many i) (drop (sym here i) (held_is i))) ∙ ap (take (length back)) (drop_front front (back ++ r.head ∷ r.tail)) ∙ take_front back (r.head ∷ r.tail) in
    let c : drop (index + 1 + (count - index)) held ≡ r.tail = (λ i. drop (all i) (last_is i)) ∙ drop_front ((front ++ back) ++ r.head ∷ []) r.tail in
    let new_is : new ≡ front ++ z.head ∷ (back ++ r.tail) = h ∙ (λ i. (a i ++ b i) ++ c i) ∙ append_assoc (front ++ z.head ∷ []) back r.tail ∙ pasted_text front (z.head ∷ []) back r.tail in
    let set_is = set_of new front (back ++ r.tail) z.head value index new_is (sym here) in
    let count_is : count + 1 ≡ length (front ++ value ∷ back) = omega (arith, long, length-append front back, length-append front (value ∷ back)) in
    (λ i. take (count_is i) (set_is i)) ∙ ap (take (length (front ++ value ∷ back))) (sym (append_assoc front (value ∷ back) r.tail)) ∙ take_front (front ++ value ∷ back) r.tail
