-- What is held of a list that is truncated, as more is added to it.
use Rattle.std.proofs.Common.{◌≡◌, ℕ, zero, suc, ◌+◌, ◌≤◌, List, [], ◌∷◌, ◌++◌, length, filter, cond, if◌then◌else◌, arith, refl, sym, ap, ◌∙◌, append_assoc, length-append, Bool, true, false, IsTrue, ◌↔◌, ◌⊎◌, ◌||◌, inl, inr, subst}
use Rattle.std.proofs.lemmas.Bool.{cases_lt}
use Rattle.std.proofs.lemmas.List.{append-nil}
use Rattle.std.proofs.lemmas.List.Elements.{filter-append}
use Rattle.std.specs.List.{list_any}
use Rattle.pod_steps.specs.declared.step.Step.{Step}
use Rattle.pod_steps.specs.Step.{Adds, truncated, is_of_pod, pod_steps, up_to}

-- how many steps count
abbrev count : List Step → ℕ
count xs = length (pod_steps xs)

up_to-nil : (n : ℕ) → up_to n [] ≡ []
unfolding up_to
up_to-nil zero = refl
up_to-nil (suc n) = refl

pub truncated_nil : truncated [] ≡ []
unfolding truncated
truncated_nil = up_to-nil 1024

-- a list that is truncated before more is added loses nothing
up_to-again : (n : ℕ) (xs ys : List Step) → up_to n (up_to n xs ++ ys) ≡ up_to n (xs ++ ys)
unfolding up_to
up_to-again zero xs ys = refl
up_to-again (suc n) [] ys = refl
up_to-again (suc n) (x ∷ xs) ys = ap (λ l. x ∷ l) (up_to-again (if is_of_pod x then n else suc n) xs ys)

left_over : (b : Bool) (n m k : ℕ) → suc n ≤ (if b then suc k else k) → (if b then n else suc n) ≤ k
left_over true n m k h = omega arith
left_over false n m k h = h

count_of_first : (x : Step) (xs : List Step) → count (x ∷ xs) ≡ (if is_of_pod x then suc (count xs) else count xs)
count_of_first x xs =
    elim (is_of_pod x) as (λ b. length (cond b (x ∷ filter is_of_pod xs) (filter is_of_pod xs)) ≡ (if b then suc (count xs) else count xs)) [ true ↦ refl | false ↦ refl ]

-- nothing is added to a full list
up_to-filled : (n : ℕ) (xs ys : List Step) → n ≤ count xs → up_to n (xs ++ ys) ≡ up_to n xs
unfolding up_to
up_to-filled zero xs ys h = refl
up_to-filled (suc n) [] ys h = absurd (omega arith)
up_to-filled (suc n) (x ∷ xs) ys h =
    let many : suc n ≤ (if is_of_pod x then suc (count xs) else count xs) = subst (λ (k : ℕ). suc n ≤ k) (count_of_first x xs) h in
    ap (λ l. x ∷ l) (up_to-filled (if is_of_pod x then n else suc n) xs ys (left_over (is_of_pod x) n n (count xs) many))

room_for : (b : Bool) (n k : ℕ) → (if b then suc k else k) + 1 ≤ suc n → k + 1 ≤ (if b then n else suc n)
room_for true n k h = omega arith
room_for false n k h = h

-- a list with room holds one more
up_to-room : (n : ℕ) (xs : List Step) (a : Step) → count xs + 1 ≤ n → up_to n (xs ++ a ∷ []) ≡ up_to n xs ++ a ∷ []
unfolding up_to
up_to-room zero xs a h = absurd (omega arith)
up_to-room (suc n) [] a h = ap (λ l. a ∷ l) (up_to-nil (if is_of_pod a then n else suc n))
up_to-room (suc n) (x ∷ xs) a h =
    let few : (if is_of_pod x then suc (count xs) else count xs) + 1 ≤ suc n = subst (λ (k : ℕ). k + 1 ≤ suc n) (count_of_first x xs) h in
    ap (λ l. x ∷ l) (up_to-room (if is_of_pod x then n else suc n) xs a (room_for (is_of_pod x) n (count xs) few))

-- nothing was lost from a list that has room left
up_to-all : (n : ℕ) (xs : List Step) → count (up_to n xs) + 1 ≤ n → up_to n xs ≡ xs
unfolding up_to
up_to-all zero xs h = absurd (omega arith)
up_to-all (suc n) [] h = refl
up_to-all (suc n) (x ∷ xs) h =
    let rest : List Step = up_to (if is_of_pod x then n else suc n) xs in
    let few : (if is_of_pod x then suc (count rest) else count rest) + 1 ≤ suc n = subst (λ (k : ℕ). k + 1 ≤ suc n) (count_of_first x rest) h in
    ap (λ l. x ∷ l) (up_to-all (if is_of_pod x then n else suc n) xs (room_for (is_of_pod x) n (count rest) few))

truncated-truncated : (xs : List Step) → truncated (truncated xs) ≡ truncated xs
unfolding truncated
truncated-truncated xs = ap (up_to 1024) (sym (append-nil (up_to 1024 xs))) ∙ (up_to-again 1024 xs [] ∙ ap (up_to 1024) (append-nil xs))

pub adds_none : (xs : List Step) → truncated xs ≡ xs → Adds xs xs []
adds_none xs short = sym (ap truncated (append-nil xs) ∙ short)

pub adds_one : (xs : List Step) (a : Step) → truncated xs ≡ xs → count xs + 1 ≤ 1024 → Adds xs (xs ++ a ∷ []) (a ∷ [])
unfolding truncated
adds_one xs a short room = sym (up_to-room 1024 xs a room ∙ ap (λ l. l ++ a ∷ []) short)

pub truncated_with_one : (xs : List Step) (a : Step) → truncated xs ≡ xs → count xs + 1 ≤ 1024 → truncated (xs ++ a ∷ []) ≡ xs ++ a ∷ []
truncated_with_one xs a short room = sym (adds_one xs a short room)

pub count_with_one : (xs : List Step) (a : Step) → is_of_pod a ≡ true → count (xs ++ a ∷ []) ≡ count xs + 1
count_with_one xs a t =
    ap length (filter-append is_of_pod xs (a ∷ [])) ∙ (length-append (pod_steps xs) (pod_steps (a ∷ [])) ∙ ap (λ b. count xs + length (cond b (a ∷ []) [])) t)

pub count_with_other : (xs : List Step) (a : Step) → is_of_pod a ≡ false → count (xs ++ a ∷ []) ≡ count xs
count_with_other xs a t =
    ap length (filter-append is_of_pod xs (a ∷ [])) ∙ ap (λ b. length (pod_steps xs ++ cond b (a ∷ []) [])) t ∙ ap length (append-nil (pod_steps xs))

-- first some, then more
pub adds_more : (xs ys zs ms ns : List Step) → Adds xs ys ms → Adds ys zs ns → Adds xs zs (ms ++ ns)
unfolding truncated
adds_more xs ys zs ms ns f g = g ∙ (ap (λ l. up_to 1024 (l ++ ns)) f ∙ (up_to-again 1024 (xs ++ ms) ns ∙ ap (up_to 1024) (append_assoc xs ms ns)))

pub adds_two : (xs ys zs : List Step) (a b : Step) → Adds xs ys (a ∷ []) → Adds ys zs (b ∷ []) → Adds xs zs (a ∷ b ∷ [])
adds_two xs ys zs a b f g = adds_more xs ys zs (a ∷ []) (b ∷ []) f g

filled : (ys ns : List Step) → 1024 ≤ count ys → truncated (ys ++ ns) ≡ truncated ys
unfolding truncated
filled ys ns full = up_to-filled 1024 ys ns full

-- a full list is unchanged, whatever is added
pub adds_past : (xs ys ms ns : List Step) → Adds xs ys ms → 1024 ≤ count ys → Adds xs ys (ms ++ ns)
adds_past xs ys ms ns f full =
    let still : truncated ys ≡ ys = ap truncated f ∙ (truncated-truncated (xs ++ ms) ∙ sym f) in
    adds_more xs ys ys ms ns f (sym (filled ys ns full ∙ still))

pub adds_none_past : (xs ns : List Step) → truncated xs ≡ xs → 1024 ≤ count xs → Adds xs xs ns
adds_none_past xs ns short full = adds_past xs xs [] ns (adds_none xs short) full

pub nothing_truncated : (ys ms : List Step) → Adds [] ys ms → count ys + 1 ≤ 1024 → ys ≡ ms
unfolding truncated
nothing_truncated ys ms f room = f ∙ up_to-all 1024 ms (subst (λ (l : List Step). count l + 1 ≤ 1024) f room)

-- adding in parts and at once gives the same
pub coming_more : (xs ys ms ns : List Step) → Adds xs ys ms → truncated (ys ++ ns) ≡ truncated (xs ++ (ms ++ ns))
unfolding truncated
coming_more xs ys ms ns f = ap (λ l. up_to 1024 (l ++ ns)) f ∙ (up_to-again 1024 (xs ++ ms) ns ∙ ap (up_to 1024) (append_assoc xs ms ns))

-- a list that is not full has room
pub room_left : (full : Bool) (n : ℕ) → (IsTrue full ↔ (1024 ≤ n)) → full ≡ false → n + 1 ≤ 1024
room_left true n says e = absurd (cc)
room_left false n says e = elim (cases_lt n 1024) [ inl h ↦ omega arith | inr h ↦ (let t : IsTrue false = says.1 h in absurd (cc)) ]

-- ---- a truncated list is a prefix of the full one
beginning : (n : ℕ) (xs : List Step) → (more : List Step) × (xs ≡ up_to n xs ++ more)
unfolding up_to
beginning zero xs = (xs, refl)
beginning (suc n) [] = ([], refl)
beginning (suc n) (x ∷ xs) = let r = beginning (if is_of_pod x then n else suc n) xs in (r.0, ap (λ l. x ∷ l) r.1)

pub truncated_is_a_beginning : (xs : List Step) → (more : List Step) × (xs ≡ truncated xs ++ more)
unfolding truncated
truncated_is_a_beginning xs = beginning 1024 xs

filled_count : (b : Bool) (n k : ℕ) → (if b then n else suc n) ≡ k → (if b then suc k else k) ≡ suc n
filled_count true n k e = ap suc (sym e)
filled_count false n k e = sym e

all_or_filled : (n : ℕ) (xs : List Step) → (up_to n xs ≡ xs) ⊎ (count (up_to n xs) ≡ n)
unfolding up_to
all_or_filled zero xs = inr refl
all_or_filled (suc n) [] = inl refl
all_or_filled (suc n) (x ∷ xs) =
    let rest : List Step = up_to (if is_of_pod x then n else suc n) xs in
    elim (all_or_filled (if is_of_pod x then n else suc n) xs) [
      | inl e ↦ inl (ap (λ l. x ∷ l) e)
      | inr e ↦ inr (count_of_first x rest ∙ filled_count (is_of_pod x) n (count rest) (sym e))
    ]

pub truncated_is_all_or_at_limit : (xs : List Step) → (truncated xs ≡ xs) ⊎ (count (truncated xs) ≡ 1024)
unfolding truncated
truncated_is_all_or_at_limit xs = all_or_filled 1024 xs

still_quiet : (n : ℕ) (xs : List Step) → list_any is_of_pod (up_to (suc n) xs) ≡ list_any is_of_pod xs
unfolding up_to
still_quiet n [] = refl
still_quiet n (x ∷ xs) =
    elim (is_of_pod x) as (λ b. (b || list_any is_of_pod (up_to (if b then n else suc n) xs)) ≡ (b || list_any is_of_pod xs)) [
      | true ↦ refl
      | false ↦ still_quiet n xs
    ]

pub truncated_keeps_quiet : (xs : List Step) → list_any is_of_pod (truncated xs) ≡ list_any is_of_pod xs
unfolding truncated
truncated_keeps_quiet xs = still_quiet 1023 xs
