-- Lists that grow at their end.
use Rattle.std.proofs.Common.{◌≡◌, ℕ, ◌+◌, Bool, true, false, List, [], ◌∷◌, ◌++◌, length, map, refl, sym, ap, ◌∙◌, subst, arith, if◌then◌else◌}
use Rattle.std.specs.List.{All}
use Rattle.std.proofs.lemmas.List.Elements.{All-append, All-cons, All-nil}
use Rattle.racing.specs.Parts.{CountFrom}

pub all_more : {X : Type 0} (P : X → Type 0) (xs : List X) (x : X) → All P xs → P x → All P (xs ++ x ∷ [])
all_more P xs x all one = All-append P xs (x ∷ []) all (All-cons P x [] one (All-nil P))

-- the first of the rest moves to what is done
moved : {X Y : Type 0} (f : X → ℕ) (g : Y → ℕ) (xs : List X) (x : X) (ys : List Y) (y : Y) (whole : List ℕ) → f x ≡ g y
    → map f xs ++ map g (y ∷ ys) ≡ whole → map f (xs ++ x ∷ []) ++ map g ys ≡ whole
moved f g [] x ys y whole is all = ap (λ n. n ∷ map g ys) is ∙ all
moved f g (z ∷ xs) x ys y [] is all = absurd cc
moved f g (z ∷ xs) x ys y (n ∷ whole) is all =
    let head : f z ≡ n = cc in
    let tail : map f xs ++ map g (y ∷ ys) ≡ whole = cc in
    ap (λ k. k ∷ (map f (xs ++ x ∷ []) ++ map g ys)) head ∙ ap (λ l. n ∷ l) (moved f g xs x ys y whole is tail)

pub count_more : {X : Type 0} (f : X → ℕ) (n : ℕ) (xs : List X) (x : X) → CountFrom n (map f xs) → f x ≡ n + length xs → CountFrom n (map f (xs ++ x ∷ []))
count_more f n [] x all is = ((let h = is in omega arith), tt)
count_more f n (y ∷ ys) x all is = (all.0, count_more f (n + 1) ys x all.1 (let h = is in omega arith))

pub count_end : (n : ℕ) (xs : List ℕ) (b : Bool) (m : ℕ) → CountFrom n xs → m ≡ n + length xs → CountFrom n (xs ++ (if b then m ∷ [] else []))
count_end n [] true m all is = ((let h = is in omega arith), tt)
count_end n [] false m all is = tt
count_end n (x ∷ xs) b m all is = (all.0, count_end (n + 1) xs b m all.1 (let h = is in omega arith))

pub long_map : {X : Type 0} (f : X → ℕ) (xs : List X) → length (map f xs) ≡ length xs
long_map f [] = refl
long_map f (x ∷ xs) = let h = long_map f xs in omega arith

pub long_as : {X Y : Type 0} (f : X → ℕ) (g : Y → ℕ) (xs : List X) (ys : List Y) → map f xs ≡ map g ys → length xs ≡ length ys
long_as f g xs ys is = sym (long_map f xs) ∙ ap length is ∙ long_map g ys

pub moved_on : {X Y : Type 0} (f : X → ℕ) (g : Y → ℕ) (xs zs : List X) (x : X) (ys ws : List Y) (y : Y) (whole : List ℕ) → zs ≡ xs ++ x ∷ [] → ws ≡ y ∷ ys → f x ≡ g y
    → map f xs ++ map g ws ≡ whole → map f zs ++ map g ys ≡ whole
moved_on f g xs zs x ys ws y whole longer steps is all = subst (λ l. map f l ++ map g ys ≡ whole) (sym longer)
    (moved f g xs x ys y whole is (subst (λ l. map f xs ++ map g l ≡ whole) steps all))
