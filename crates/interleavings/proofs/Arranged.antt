-- The arrangement that a run builds, and the order of the proofs, which has the last request first.
use Rattle.std.proofs.Common.{◌≡◌, ℕ, Bool, true, false, cond, List, [], ◌∷◌, ◌++◌, refl, sym, ap, ◌∙◌, nat_eq, append-nil}
use Rattle.interleavings.specs.World.{Phase, Idle, Called, Holding, Drawn, Waiting, Reading, Gone, Size, World}
use Rattle.interleavings.specs.Order.{Arrangement, Parked, moved, places_at, rest, without}
use Rattle.interleavings.proofs.Jobs.{places}
use Rattle.interleavings.proofs.Invariant.{Ghost, Invariant}

abbrev pub backwards : List Parked → List Parked
backwards [] = []
backwards (p ∷ ps) = backwards ps ++ p ∷ []

-- the arrangement has what the ghost has
pub record Shows (g : Ghost) (a : Arrangement) : Type 0 where
  pub order : places g.jobs ≡ a.order
  pub parked : backwards g.parked ≡ a.parked

-- some ghost fits the world and the arrangement
abbrev pub Holds : Size → World → Arrangement → Type 0
Holds z w a = (g : Ghost) × (Invariant z w g × Shows g a)

-- after an event of caller c, which was in the phase `before`
pub record Moves (z : Size) (w : World) (c : ℕ) (before : Phase) (a : Arrangement) (v : World) : Type 0 where
  pub after : Phase
  pub entered : v.phase c ≡ after
  pub holds : Holds z v (moved w.frontier c before after a)

pub moved_same : (f c : ℕ) (ph : Phase) (a : Arrangement) → moved f c ph ph a ≡ a
moved_same f c Idle a = refl
moved_same f c (Called p q) a = refl
moved_same f c (Holding t) a = refl
moved_same f c (Drawn d) a = refl
moved_same f c (Waiting s p r) a = refl
moved_same f c (Reading n p q parts found) a = refl
moved_same f c (Gone left) a = refl

without_append : (c : ℕ) (ps : List Parked) (p : Parked) → without c (ps ++ p ∷ []) ≡ without c ps ++ without c (p ∷ [])
without_append c [] p = refl
without_append c (x ∷ ps) p = go (nat_eq x.caller c) (without_append c ps p)
  where
    go : (b : Bool) → without c (ps ++ p ∷ []) ≡ without c ps ++ without c (p ∷ []) → cond b (without c (ps ++ p ∷ [])) (x ∷ without c (ps ++ p ∷ [])) ≡ cond b (without c ps) (x ∷ without c ps) ++ without c (p ∷ [])
    go true ih = ih
    go false ih = ap (λ l. x ∷ l) ih

pub backwards_without : (c : ℕ) (ps : List Parked) → backwards (without c ps) ≡ without c (backwards ps)
backwards_without c [] = refl
backwards_without c (x ∷ ps) = go (nat_eq x.caller c) (backwards_without c ps) ∙ sym (without_append c (backwards ps) x)
  where
    go : (b : Bool) → backwards (without c ps) ≡ without c (backwards ps) → backwards (cond b (without c ps) (x ∷ without c ps)) ≡ without c (backwards ps) ++ cond b [] (x ∷ [])
    go true ih = ih ∙ sym (append-nil (without c (backwards ps)))
    go false ih = ap (λ l. l ++ x ∷ []) ih

rest_append : (n : ℕ) (ps : List Parked) (p : Parked) → rest n (ps ++ p ∷ []) ≡ rest n ps ++ rest n (p ∷ [])
rest_append n [] p = refl
rest_append n (x ∷ ps) p = go (nat_eq x.number n) (rest_append n ps p)
  where
    go : (b : Bool) → rest n (ps ++ p ∷ []) ≡ rest n ps ++ rest n (p ∷ []) → cond b (rest n (ps ++ p ∷ [])) (x ∷ rest n (ps ++ p ∷ [])) ≡ cond b (rest n ps) (x ∷ rest n ps) ++ rest n (p ∷ [])
    go true ih = ih
    go false ih = ap (λ l. x ∷ l) ih

pub backwards_rest : (n : ℕ) (ps : List Parked) → backwards (rest n ps) ≡ rest n (backwards ps)
backwards_rest n [] = refl
backwards_rest n (x ∷ ps) = go (nat_eq x.number n) (backwards_rest n ps) ∙ sym (rest_append n (backwards ps) x)
  where
    go : (b : Bool) → backwards (rest n ps) ≡ rest n (backwards ps) → backwards (cond b (rest n ps) (x ∷ rest n ps)) ≡ rest n (backwards ps) ++ cond b [] (x ∷ [])
    go true ih = ih ∙ sym (append-nil (rest n (backwards ps)))
    go false ih = ap (λ l. l ++ x ∷ []) ih

pub places_at_append : (n : ℕ) (ps : List Parked) (p : Parked) → places_at n (ps ++ p ∷ []) ≡ places_at n ps ++ places_at n (p ∷ [])
places_at_append n [] p = refl
places_at_append n (x ∷ ps) p = go (nat_eq x.number n) (places_at_append n ps p)
  where
    go : (b : Bool) → places_at n (ps ++ p ∷ []) ≡ places_at n ps ++ places_at n (p ∷ []) → cond b (x.place ∷ places_at n (ps ++ p ∷ [])) (places_at n (ps ++ p ∷ [])) ≡ cond b (x.place ∷ places_at n ps) (places_at n ps) ++ places_at n (p ∷ [])
    go true ih = ap (λ l. x.place ∷ l) ih
    go false ih = ih
