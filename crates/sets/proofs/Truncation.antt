-- What is held of a list of actions, as more are added to it.
use Rattle.std.proofs.Common.{◌≡◌, ℕ, zero, suc, ◌+◌, ◌≤◌, ◌<◌, List, [], ◌∷◌, ◌++◌, length, take, arith, refl, sym, ap, ◌∙◌, append_assoc, length-append}
use Rattle.std.proofs.lemmas.List.{append-nil, get_or_default, map-append, take_all, take_more, take-append-le, take-map, take-take}
use Rattle.std.proofs.Math.Seq.{take-append-add}
use Rattle.std.proofs.lemmas.Grind.{flat_map-append}
use Rattle.std.specs.List.{flat_map, list_any}
use Rattle.std.specs.Prelude.{Bool, true, false, get_or, map, not, if◌then◌else◌}
use Rattle.pod_steps.specs.declared.step.Step.{Step}
use Rattle.pod_steps.specs.Step.{truncated, is_of_pod, up_to}
use Rattle.pod_steps.proofs.Truncation.{truncated_keeps_quiet}
use Rattle.claims.specs.declared.change.ClaimChange.{ClaimChange}
use Rattle.sets.specs.declared.action.Action.{Action}
use Rattle.sets.specs.Actions.{claim_action, claim_actions}
use Rattle.sets.specs.Truncation.{Adds}

-- a list that is truncated before more is added loses nothing
take_again : (n : ℕ) (xs ys : List Action) → take n (take n xs ++ ys) ≡ take n (xs ++ ys)
take_again zero xs ys = refl
take_again (suc n) [] ys = refl
take_again (suc n) (x ∷ xs) ys = ap (λ l. x ∷ l) (take_again n xs ys)

pub adds_none : (xs : List Action) → length xs ≤ 1024 → Adds xs xs []
adds_none xs few = sym (ap (take 1024) (append-nil xs) ∙ take_all 1024 xs few)

pub adds_one : (xs : List Action) (a : Action) → length xs + 1 ≤ 1024 → Adds xs (xs ++ a ∷ []) (a ∷ [])
adds_one xs a room =
    let long : length (xs ++ a ∷ []) ≡ length xs + 1 = length-append xs (a ∷ []) in
    sym (take_all 1024 (xs ++ a ∷ []) (omega arith))

-- a full list is unchanged, whatever is added
pub adds_past : (xs ms : List Action) → length xs ≤ 1024 → 1024 ≤ length xs → Adds xs xs ms
adds_past xs ms few full = sym (take-append-le 1024 xs ms full ∙ take_all 1024 xs few)

-- of what is added, no more than there is room for matters
pub adds_first : (xs ys ms : List Action) (n : ℕ) → n + length xs ≡ 1024 → Adds xs ys (take n ms) → Adds xs ys ms
adds_first xs ys ms n room h =
    let all : length xs + n ≡ 1024 = omega arith in
    h ∙ (ap (λ k. take k (xs ++ take n ms)) (sym all) ∙ (take-append-add xs (take n ms) n
    ∙ (ap (λ l. xs ++ l) (take-take n n ms (omega arith)) ∙ (sym (take-append-add xs ms n) ∙ ap (λ k. take k (xs ++ ms)) all))))

pub adds_make_claims : (xs ys : List Action) (changes all : List ClaimChange) (n : ℕ) → n + length xs ≡ 1024 → changes ≡ take n all → Adds xs ys (claim_actions changes) → Adds xs ys (claim_actions all)
adds_make_claims xs ys changes all n room is h =
    adds_first xs ys (claim_actions all) n room (h ∙ ap (λ l. take 1024 (xs ++ l)) (ap claim_actions is ∙ sym (take-map claim_action n all)))

-- first some, then more
pub adds_more : (xs ys zs ms ns : List Action) → Adds xs ys ms → Adds ys zs ns → Adds xs zs (ms ++ ns)
adds_more xs ys zs ms ns f g = g ∙ (ap (λ l. take 1024 (l ++ ns)) f ∙ (take_again 1024 (xs ++ ms) ns ∙ ap (take 1024) (append_assoc xs ms ns)))

-- ---- the steps truncated, and their actions
take_alike : (m : ℕ) (front xs ys : List Action) → ((j : ℕ) → j + length front ≤ m → take j xs ≡ take j ys) → take m (front ++ xs) ≡ take m (front ++ ys)
take_alike m [] xs ys h = h m (omega arith)
take_alike zero (a ∷ front) xs ys h = refl
take_alike (suc m) (a ∷ front) xs ys h = ap (λ l. a ∷ l) (take_alike m front xs ys (λ j le. h j (omega arith)))

-- each step on a pod becomes an action
abbrev pub ActsOnPods : (Step → List Action) → Type 0
ActsOnPods f = (x : Step) → is_of_pod x ≡ true → 1 ≤ length (f x)

room_after : (b : Bool) (n m j k : ℕ) → (b ≡ true → 1 ≤ k) → m ≤ suc n → j + k ≤ m → j ≤ (if b then n else suc n)
room_after true n m j k acts room le = let some : 1 ≤ k = acts refl in omega arith
room_after false n m j k acts room le = omega arith

alike : (f : Step → List Action) (n m : ℕ) (steps : List Step) (rest : List Action) → ActsOnPods f → m ≤ n → take m (flat_map f (up_to n steps) ++ rest) ≡ take m (flat_map f steps ++ rest)
unfolding up_to
alike f zero zero steps rest acts room = refl
alike f zero (suc m) steps rest acts room = absurd (omega arith)
alike f (suc n) m [] rest acts room = refl
alike f (suc n) m (x ∷ xs) rest acts room =
    let k : ℕ = if is_of_pod x then n else suc n in
    ap (take m) (append_assoc (f x) (flat_map f (up_to k xs)) rest)
    ∙ (take_alike m (f x) (flat_map f (up_to k xs) ++ rest) (flat_map f xs ++ rest)
    (λ j le. alike f k j xs rest acts (room_after (is_of_pod x) n m j (length (f x)) (acts x) room le))
    ∙ sym (ap (take m) (append_assoc (f x) (flat_map f xs) rest)))

truncated_alike : (f : Step → List Action) (steps : List Step) (rest : List Action) → ActsOnPods f → take 1024 (flat_map f (truncated steps) ++ rest) ≡ take 1024 (flat_map f steps ++ rest)
unfolding truncated
truncated_alike f steps rest acts = alike f 1024 1024 steps rest acts (omega arith)

-- the actions of the truncated steps, then the history and the status, are the first of the full plan
pub first_actions_are : (f : Step → List Action) (plan steps again : List Step) (history : Bool → List Action) (status none acted old new : List Action) → ActsOnPods f → none ≡ [] → steps ≡ truncated plan → again ≡ truncated plan → Adds none acted (flat_map f steps) → Adds acted old (history (list_any is_of_pod again)) → Adds old new status → new ≡ take 1024 (flat_map f plan ++ history (list_any is_of_pod plan) ++ status)
first_actions_are f plan steps again history status none acted old new acts empty is too first second third =
    let quiet : list_any is_of_pod again ≡ list_any is_of_pod plan = ap (list_any is_of_pod) too ∙ truncated_keeps_quiet plan in
    adds_more none old new (flat_map f steps ++ history (list_any is_of_pod again)) status (adds_more none acted old (flat_map f steps) (history (list_any is_of_pod again)) first second) third
    ∙ (ap (λ l. take 1024 (l ++ ((flat_map f steps ++ history (list_any is_of_pod again)) ++ status))) empty
    ∙ (ap (take 1024) (append_assoc (flat_map f steps) (history (list_any is_of_pod again)) status)
    ∙ (ap (λ b. take 1024 (flat_map f steps ++ (history b ++ status))) quiet
    ∙ (ap (λ l. take 1024 (flat_map f l ++ (history (list_any is_of_pod plan) ++ status))) is
    ∙ (truncated_alike f plan (history (list_any is_of_pod plan) ++ status) acts
    ∙ sym (ap (take 1024) (append_assoc (flat_map f plan) (history (list_any is_of_pod plan)) status)))))))

-- ---- loops
pub walk_more : {X : Type 0} (f : X → List Action) (xs : List X) (i : ℕ) (x : X) (old held new : List Action) → i < length xs → x ≡ get_or xs i x → Adds old held (flat_map f (take i xs)) → Adds held new (f x) → Adds old new (flat_map f (take (i + 1) xs))
walk_more f xs i x old held new inside is first second =
    let more : take (i + 1) xs ≡ take i xs ++ x ∷ [] = take_more xs i x inside ∙ ap (λ p. take i xs ++ p ∷ []) (sym is) in
    adds_more old held new (flat_map f (take i xs)) (f x) first second
    ∙ ap (λ l. take 1024 (old ++ l)) (sym (ap (flat_map f) more ∙ (flat_map-append f (take i xs) (x ∷ []) ∙ ap (λ l. flat_map f (take i xs) ++ l) (append-nil (f x)))))

-- the same of a list of revisions, one action each
pub map_more : {X Y : Type 0} (g : Y → Action) (h : X → Y) (xs : List X) (i : ℕ) (x : X) (old held new : List Action) → i < length xs → x ≡ get_or xs i x → Adds old held (map g (map h (take i xs))) → Adds held new (g (h x) ∷ []) → Adds old new (map g (map h (take (i + 1) xs)))
map_more g h xs i x old held new inside is first second =
    let more : take (i + 1) xs ≡ take i xs ++ x ∷ [] = take_more xs i x inside ∙ ap (λ p. take i xs ++ p ∷ []) (sym is) in
    adds_more old held new (map g (map h (take i xs))) (g (h x) ∷ []) first second
    ∙ ap (λ l. take 1024 (old ++ l)) (sym (ap (λ l. map g (map h l)) more ∙ (ap (map g) (map-append h (take i xs) (x ∷ [])) ∙ map-append g (map h (take i xs)) (h x ∷ []))))

-- the item of a loop
pub walk_at : {X : Type 0} (f : X → List Action) (xs : List X) (i : ℕ) (d : X) (old held new : List Action) → i < length xs → Adds old held (flat_map f (take i xs)) → Adds held new (f (get_or xs i d)) → Adds old new (flat_map f (take (i + 1) xs))
walk_at f xs i d old held new inside first second = walk_more f xs i (get_or xs i d) old held new inside (get_or_default xs i d (get_or xs i d) inside) first second

-- ---- what is left out
pub none_gone : (b : Bool) (gone xs : List Action) → not b ≡ false → length xs ≤ 1024 → Adds xs xs (if b then [] else gone)
none_gone true gone xs h few = adds_none xs few
none_gone false gone xs h few = absurd (cc)

-- adding in parts and at once gives the same
pub coming_more : (xs ys ms rest : List Action) → Adds xs ys ms → take 1024 (ys ++ rest) ≡ take 1024 (xs ++ (ms ++ rest))
coming_more xs ys ms rest f = ap (λ l. take 1024 (l ++ rest)) f ∙ (take_again 1024 (xs ++ ms) rest ∙ ap (take 1024) (append_assoc xs ms rest))
