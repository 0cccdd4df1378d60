-- Those that are parked, number by number.
use Rattle.std.proofs.Common.{◌≡◌, ◌≢◌, ℕ, Bool, true, false, cond, List, [], ◌∷◌, ◌++◌, refl, sym, ap, ◌∙◌, nat_eq, ◌+◌, ◌<◌, length, get_or, drop, append_assoc, add-one, drop-cons}
use Rattle.history.specs.declared.parking.Waiter.{Waiter}
use Rattle.interleavings.specs.Order.{Parked, places_at, rest, without}
use Rattle.history.specs.Replayed.{places_in, staying, waiters_at}
use Rattle.interleavings.proofs.Basics.{Compared, same, other, compare}

-- ---- of one number
pub waiters_more : (n : ℕ) (ps : List Parked) (p : Parked) → waiters_at n (ps ++ p ∷ []) ≡ waiters_at n ps ++ cond (nat_eq p.number n) (record { caller = p.caller; place = p.place } ∷ []) []
waiters_more n [] p = refl
waiters_more n (x ∷ ps) p = by (nat_eq x.number n) (waiters_more n ps p)
  where
    by : (b : Bool) → waiters_at n (ps ++ p ∷ []) ≡ waiters_at n ps ++ cond (nat_eq p.number n) (record { caller = p.caller; place = p.place } ∷ []) []
        → cond b (record { caller = x.caller; place = x.place } ∷ waiters_at n (ps ++ p ∷ [])) (waiters_at n (ps ++ p ∷ [])) ≡ cond b (record { caller = x.caller; place = x.place } ∷ waiters_at n ps) (waiters_at n ps) ++ cond (nat_eq p.number n) (record { caller = p.caller; place = p.place } ∷ []) []
    by true ih = ap (λ l. record { caller = x.caller; place = x.place } ∷ l) ih
    by false ih = ih

pub places_of_waiters : (n : ℕ) (ps : List Parked) → places_at n ps ≡ places_in (waiters_at n ps)
places_of_waiters n [] = refl
places_of_waiters n (p ∷ ps) = by (nat_eq p.number n) (places_of_waiters n ps)
  where
    by : (b : Bool) → places_at n ps ≡ places_in (waiters_at n ps) → cond b (p.place ∷ places_at n ps) (places_at n ps) ≡ places_in (cond b (record { caller = p.caller; place = p.place } ∷ waiters_at n ps) (waiters_at n ps))
    by true ih = ap (λ l. p.place ∷ l) ih
    by false ih = ih

pub waiters_passed : (n : ℕ) (ps : List Parked) → waiters_at n (rest n ps) ≡ []
waiters_passed n [] = refl
waiters_passed n (p ∷ ps) = by (nat_eq p.number n) refl (waiters_passed n ps)
  where
    by : (b : Bool) → nat_eq p.number n ≡ b → waiters_at n (rest n ps) ≡ [] → waiters_at n (cond b (rest n ps) (p ∷ rest n ps)) ≡ []
    by true e ih = ih
    by false e ih = ap (λ b. cond b (record { caller = p.caller; place = p.place } ∷ waiters_at n (rest n ps)) (waiters_at n (rest n ps))) e ∙ ih

pub waiters_rest : (m n : ℕ) → n ≢ m → (ps : List Parked) → waiters_at n (rest m ps) ≡ waiters_at n ps
waiters_rest m n apart [] = refl
waiters_rest m n apart (p ∷ ps) = by (compare p.number m) (waiters_rest m n apart ps)
  where
    at : (b : Bool) → waiters_at n (rest m ps) ≡ waiters_at n ps → cond b (record { caller = p.caller; place = p.place } ∷ waiters_at n (rest m ps)) (waiters_at n (rest m ps)) ≡ cond b (record { caller = p.caller; place = p.place } ∷ waiters_at n ps) (waiters_at n ps)
    at true ih = ap (λ l. record { caller = p.caller; place = p.place } ∷ l) ih
    at false ih = ih

    differs : p.number ≡ m → Compared p.number n → nat_eq p.number n ≡ false
    differs e (same f b) = absurd (apart (sym f ∙ e))
    differs e (other f b) = b

    by : Compared p.number m → waiters_at n (rest m ps) ≡ waiters_at n ps → waiters_at n (cond (nat_eq p.number m) (rest m ps) (p ∷ rest m ps)) ≡ cond (nat_eq p.number n) (record { caller = p.caller; place = p.place } ∷ waiters_at n ps) (waiters_at n ps)
    by (same e b) ih =
        ap (λ b. waiters_at n (cond b (rest m ps) (p ∷ rest m ps))) b ∙ ih
        ∙ sym (ap (λ b. cond b (record { caller = p.caller; place = p.place } ∷ waiters_at n ps) (waiters_at n ps)) (differs e (compare p.number n)))
    by (other e b) ih = ap (λ b. waiters_at n (cond b (rest m ps) (p ∷ rest m ps))) b ∙ at (nat_eq p.number n) ih

pub waiters_without : (c n : ℕ) (ps : List Parked) → waiters_at n (without c ps) ≡ staying (λ d. nat_eq d c) (waiters_at n ps)
waiters_without c n [] = refl
waiters_without c n (p ∷ ps) = by (nat_eq p.caller c) (nat_eq p.number n) refl (waiters_without c n ps)
  where
    by : (b e : Bool) → nat_eq p.caller c ≡ b → waiters_at n (without c ps) ≡ staying (λ d. nat_eq d c) (waiters_at n ps)
        → waiters_at n (cond b (without c ps) (p ∷ without c ps)) ≡ staying (λ d. nat_eq d c) (cond (nat_eq p.number n) (record { caller = p.caller; place = p.place } ∷ waiters_at n ps) (waiters_at n ps))
    by true e is ih = within (nat_eq p.number n)
      where
        within : (h : Bool) → waiters_at n (without c ps) ≡ staying (λ d. nat_eq d c) (cond h (record { caller = p.caller; place = p.place } ∷ waiters_at n ps) (waiters_at n ps))
        within true = ih ∙ sym (ap (λ b. cond b (staying (λ d. nat_eq d c) (waiters_at n ps)) (record { caller = p.caller; place = p.place } ∷ staying (λ d. nat_eq d c) (waiters_at n ps))) is)
        within false = ih
    by false e is ih = within (nat_eq p.number n)
      where
        within : (h : Bool) → cond h (record { caller = p.caller; place = p.place } ∷ waiters_at n (without c ps)) (waiters_at n (without c ps)) ≡ staying (λ d. nat_eq d c) (cond h (record { caller = p.caller; place = p.place } ∷ waiters_at n ps) (waiters_at n ps))
        within true = ap (λ l. record { caller = p.caller; place = p.place } ∷ l) ih ∙ sym (ap (λ b. cond b (staying (λ d. nat_eq d c) (waiters_at n ps)) (record { caller = p.caller; place = p.place } ∷ staying (λ d. nat_eq d c) (waiters_at n ps))) is)
        within false = ih

-- ---- without those whose caller has crashed
pub staying_same : (f g : ℕ → Bool) → ((c : ℕ) → f c ≡ g c) → (xs : List Waiter) → staying f xs ≡ staying g xs
staying_same f g e [] = refl
staying_same f g e (x ∷ xs) = ap (λ b. cond b (staying f xs) (x ∷ staying f xs)) (e x.caller) ∙ ap (λ l. cond (g x.caller) l (x ∷ l)) (staying_same f g e xs)

pub staying_more : (f : ℕ → Bool) (xs : List Waiter) (x : Waiter) → f x.caller ≡ false → staying f (xs ++ x ∷ []) ≡ staying f xs ++ x ∷ []
staying_more f [] x e = ap (λ b. cond b [] (x ∷ [])) e
staying_more f (y ∷ xs) x e = by (f y.caller) (staying_more f xs x e)
  where
    by : (b : Bool) → staying f (xs ++ x ∷ []) ≡ staying f xs ++ x ∷ [] → cond b (staying f (xs ++ x ∷ [])) (y ∷ staying f (xs ++ x ∷ [])) ≡ cond b (staying f xs) (y ∷ staying f xs) ++ x ∷ []
    by true ih = ih
    by false ih = ap (λ l. y ∷ l) ih

-- another one crashes
pub staying_twice : (f g h : ℕ → Bool) → ((c : ℕ) → cond (g c) true (f c) ≡ h c) → (xs : List Waiter) → staying f (staying g xs) ≡ staying h xs
staying_twice f g h e [] = refl
staying_twice f g h e (x ∷ xs) = by (g x.caller) (e x.caller) (staying_twice f g h e xs)
  where
    by : (b : Bool) → cond b true (f x.caller) ≡ h x.caller → staying f (staying g xs) ≡ staying h xs → staying f (cond b (staying g xs) (x ∷ staying g xs)) ≡ cond (h x.caller) (staying h xs) (x ∷ staying h xs)
    by true i ih = ih ∙ ap (λ b. cond b (staying h xs) (x ∷ staying h xs)) i
    by false i ih = ap (λ l. cond (f x.caller) l (x ∷ l)) ih ∙ ap (λ b. cond b (staying h xs) (x ∷ staying h xs)) i

-- ---- walked from the first to the last
pub places_front : (f : ℕ → Bool) (x : Waiter) (xs : List Waiter) → places_in (staying f (x ∷ xs)) ≡ places_in (staying f (x ∷ [])) ++ places_in (staying f xs)
places_front f x xs = by (f x.caller)
  where
    by : (b : Bool) → places_in (cond b (staying f xs) (x ∷ staying f xs)) ≡ places_in (cond b [] (x ∷ [])) ++ places_in (staying f xs)
    by true = refl
    by false = refl

pub places_next : (f : ℕ → Bool) (ws : List Waiter) (i : ℕ) (e : Waiter) (old new whole : List ℕ) → i < length ws → new ≡ old ++ places_in (staying f (get_or ws i e ∷ [])) → old ++ places_in (staying f (drop i ws)) ≡ whole
    → new ++ places_in (staying f (drop (i + 1) ws)) ≡ whole
places_next f ws i e old new whole lt next so_far =
    ap (λ l. l ++ places_in (staying f (drop (i + 1) ws))) next
    ∙ append_assoc old (places_in (staying f (get_or ws i e ∷ []))) (places_in (staying f (drop (i + 1) ws)))
    ∙ ap (λ l. old ++ l) (sym (places_front f (get_or ws i e) (drop (i + 1) ws)))
    ∙ ap (λ n. old ++ places_in (staying f (get_or ws i e ∷ drop n ws))) (add-one i)
    ∙ ap (λ l. old ++ places_in (staying f l)) (sym (drop-cons ws i e lt))
    ∙ so_far
