-- The program's state shows the world after each event.
use Rattle.std.proofs.Common.{◌≡◌, ◌⊎◌, inl, inr, ◌==◌, ◌<◌, ◌≤◌, ◌+◌, take, ℕ, zero, suc, Bool, true, false, cond, List, [], ◌∷◌, ◌++◌, length, Option, Some, None, refl, sym, ap, subst, ◌∙◌, arith}
use Rattle.std.specs.Prelude.{slice_get, slice_set, slice_index_or, IfSome, nat_lt, Result, Ok, Err, OnOk, OnErr}
use Rattle.std.specs.List.{AllByRecursion}
use Rattle.std.proofs.lemmas.Option.{none-some}
use Rattle.std.proofs.lemmas.Bool.Decides.{nat_tests}
use Rattle.std.proofs.lemmas.List.{take_more}
use Rattle.requests.specs.declared.request.Request.{Request}
use Rattle.plain_store.specs.Reached.{IsReached}
use Rattle.plain_store.specs.Store.{Store, step}
use Rattle.rounds.specs.declared.event.WholeEvent.{WholeEvent}
use Rattle.rounds.specs.declared.event.WholeEvent.TheVariants.{Ask, Crash, Outside}
use Rattle.rounds.specs.Phase.{Phase, asks, reading_set, takes}
use Rattle.rounds.specs.Reconciler.{Reconciler}
use Rattle.rounds.specs.Shown.{HasTaken, IsIdle, Shows}
use Rattle.rounds.specs.Transcript.{Entry}
use Rattle.rounds.specs.World.{AreMadeOf, Matches, StandAt, Taken, World, happens, incarnation_of, run, start, taken_of, with_ask, with_crash}

-- ---- lists

get_same : {X : Type 0} (xs : List X) (c : ℕ) (x y : X) → slice_get xs c ≡ Some x → slice_get (slice_set xs c y) c ≡ Some y
get_same [] c x y there = absurd (none-some x there)
get_same (z ∷ xs) zero x y there = refl
get_same (z ∷ xs) (suc c) x y there = get_same xs c x y there

get_other : {X : Type 0} (xs : List X) (c d : ℕ) (y : X) → (d ≡ c → ⊥) → slice_get (slice_set xs c y) d ≡ slice_get xs d
get_other [] c d y other = refl
get_other (z ∷ xs) zero zero y other = absurd (other refl)
get_other (z ∷ xs) zero (suc d) y other = refl
get_other (z ∷ xs) (suc c) zero y other = refl
get_other (z ∷ xs) (suc c) (suc d) y other = get_other xs c d y (λ e. other (ap suc e))

pub get_at : {X : Type 0} (xs : List X) (i : ℕ) (d : X) → i < length xs → slice_get xs i ≡ Some (slice_index_or xs i d)
get_at [] i d low = absurd (omega (arith, low))
get_at (z ∷ xs) zero d low = refl
get_at (z ∷ xs) (suc i) d low = get_at xs i d (omega (arith, low))

equal : (n m : ℕ) → (n == m) ≡ true → n ≡ m
equal n m is = grind (arith, nat_tests)

differ : (n m : ℕ) → (n == m) ≡ false → n ≡ m → ⊥
differ n m is e = let same : (n == m) ≡ true = grind (arith, nat_tests) in let both : true ≡ false = sym same ∙ is in cc

lower : (n m : ℕ) → n < m → nat_lt n m ≡ true
lower n m low = grind (arith, nat_tests, low)

higher : (n m : ℕ) → m ≤ n → nat_lt n m ≡ false
higher n m high = grind (arith, nat_tests, high)

taken_more : (es : List Entry) (e : Entry) → taken_of (es ++ e ∷ []) ≡ taken_of es ++ taken_of (e ∷ [])
taken_more [] e = refl
taken_more (f ∷ es) e = ap (λ l. taken_of (f ∷ []) ++ l) (taken_more es e)

module _ {X : Type 0} (reconciler : X → Reconciler) (phase : X → Phase) (reconcilers : ℕ → Reconciler) where
  abbrev Stands : Option X → ℕ → Phase → Type 0
  Stands o i p = IfSome o (λ x. (reconciler x ≡ reconcilers i) × (phase x ≡ p))

  stands_at : (xs : List X) (phases : ℕ → Phase) (c : ℕ) (x y : X) (p : Phase) → slice_get xs c ≡ Some x → reconciler y ≡ reconcilers c → phase y ≡ p
      → ((i : ℕ) → Stands (slice_get xs i) i (phases i)) → (i : ℕ) (t : Bool) → (i == c) ≡ t → Stands (slice_get (slice_set xs c y) i) i (cond t p (phases i))
  stands_at xs phases c x y p there one two all i true is =
      subst (λ n. Stands (slice_get (slice_set xs c y) n) n p) (sym (equal i c is)) (subst (λ o. Stands o c p) (sym (get_same xs c x y there)) (one, two))
  stands_at xs phases c x y p there one two all i false is = subst (λ o. Stands o i (phases i)) (sym (get_other xs c i y (differ i c is))) (all i)

  -- ---- a controller sends a request

  abbrev Asked : Store → X → Request
  Asked s x = asks (reconciler x) (phase x)

  request_is : (s : Store) (xs : List X) (taken : List Taken) (w : World) (c : ℕ) (x : X) → slice_get xs c ≡ Some x → Shows reconciler phase reconcilers s xs taken w
      → (reconciler x ≡ reconcilers c) × (phase x ≡ w.phases c)
  request_is s xs taken w c x there shows = subst (λ o. Stands o c (w.phases c)) there (shows.controllers c)

  entry_is : (s : Store) (xs : List X) (before : List Taken) (w : World) (c : ℕ) (x : X) → slice_get xs c ≡ Some x → Shows reconciler phase reconcilers s xs before w
      → before ++ (Some c, asks (reconciler x) (phase x), (step s (asks (reconciler x) (phase x))).1) ∷ [] ≡ taken_of (with_ask reconcilers w c).entries
  entry_is s xs before w c x there shows =
      let is = request_is s xs before w c x there shows in
      let one : reconciler x ≡ reconcilers c = is.0 in
      let two : phase x ≡ w.phases c = is.1 in
      let old : s ≡ w.store = shows.matches.store_is in
      let was : before ≡ taken_of w.entries = shows.matches.taken_is in
      let r = asks (reconcilers c) (w.phases c) in
      let same : before ++ (Some c, asks (reconciler x) (phase x), (step s (asks (reconciler x) (phase x))).1) ∷ []
      ≡ taken_of w.entries ++ (Some c, r, (step w.store r).1) ∷ [] = cc in
      same ∙ sym (taken_more w.entries (Some (incarnation_of w c), r, (step w.store r).1))

  pub asked_shows : (old new : Store) (xs : List X) (before after : List Taken) (w : World) (c count : ℕ) (x y : X) → c < count
      → slice_get xs c ≡ Some x → reconciler y ≡ reconciler x → HasTaken old new before after (Some c) (asks (reconciler x) (phase x))
      → phase y ≡ takes (reconciler x) (phase x) (step old (asks (reconciler x) (phase x))).1
      → Shows reconciler phase reconcilers old xs before w → Shows reconciler phase reconcilers new (slice_set xs c y) after (happens count reconcilers w (Ask c))
  asked_shows old new xs before after w c count x y low there kept took goes shows =
      let is = request_is old xs before w c x there shows in
      let one : reconciler x ≡ reconcilers c = is.0 in
      let two : phase x ≡ w.phases c = is.1 in
      let was : old ≡ w.store = shows.matches.store_is in
      let r = asks (reconcilers c) (w.phases c) in
      let left : (step old (asks (reconciler x) (phase x))).0 ≡ (step w.store r).0 = cc in
      let next : takes (reconciler x) (phase x) (step old (asks (reconciler x) (phase x))).1 ≡ takes (reconcilers c) (w.phases c) (step w.store r).1 = cc in
      subst (Shows reconciler phase reconcilers new (slice_set xs c y) after) (sym (ap (λ b. cond b (with_ask reconcilers w c) w) (lower c count low))) (record {
        matches = record { store_is = took.0 ∙ left; taken_is = took.1 ∙ entry_is old xs before w c x there shows };
        controllers = λ i. stands_at xs w.phases c x y (takes (reconcilers c) (w.phases c) (step w.store r).1) there (kept ∙ one) (goes ∙ next) shows.controllers i (i == c) refl;
      })

  -- a controller that could not send a request, or not handle its reply, is in the phase in which it was
  stays_at : (xs : List X) (phases : ℕ → Phase) (c : ℕ) (x y : X) → slice_get xs c ≡ Some x → reconciler y ≡ reconciler x → phase y ≡ phase x
      → StandAt reconciler phase xs reconcilers phases → StandAt reconciler phase (slice_set xs c y) reconcilers phases
  stays_at xs phases c x y there kept goes all i = by (i == c) refl
    where
      by : (t : Bool) → (i == c) ≡ t → Stands (slice_get (slice_set xs c y) i) i (phases i)
      by true is =
          let stood = subst (λ o. Stands o c (phases c)) there (all c) in
          subst (λ n. Stands (slice_get (slice_set xs c y) n) n (phases n)) (sym (equal i c is))
          (subst (λ o. Stands o c (phases c)) (sym (get_same xs c x y there)) (kept ∙ stood.0, goes ∙ stood.1))
      by false is = subst (λ o. Stands o i (phases i)) (sym (get_other xs c i y (differ i c is))) (all i)

  pub idle_matches : (old new : Store) (xs : List X) (before after : List Taken) (w : World) → IsIdle old new before after → Shows reconciler phase reconcilers old xs before w → Matches new after w
  idle_matches old new xs before after w idle shows = record { store_is = idle.0 ∙ shows.matches.store_is; taken_is = idle.1 ∙ shows.matches.taken_is }

  -- a reply that the controller could not handle is among what was taken
  taken_or_not : (old new : Store) (xs : List X) (before after : List Taken) (w : World) (c count : ℕ) (x : X) → c < count → slice_get xs c ≡ Some x
      → IsIdle old new before after ⊎ HasTaken old new before after (Some c) (asks (reconciler x) (phase x))
      → Shows reconciler phase reconcilers old xs before w → Matches new after w ⊎ Matches new after (happens count reconcilers w (Ask c))
  taken_or_not old new xs before after w c count x low there (inl idle) shows = inl (idle_matches old new xs before after w idle shows)
  taken_or_not old new xs before after w c count x low there (inr took) shows =
      let is = request_is old xs before w c x there shows in
      let one : reconciler x ≡ reconcilers c = is.0 in
      let two : phase x ≡ w.phases c = is.1 in
      let was : old ≡ w.store = shows.matches.store_is in
      let r = asks (reconcilers c) (w.phases c) in
      let left : (step old (asks (reconciler x) (phase x))).0 ≡ (step w.store r).0 = cc in
      inr (subst (Matches new after) (sym (ap (λ b. cond b (with_ask reconcilers w c) w) (lower c count low)))
      (record { store_is = took.0 ∙ left; taken_is = took.1 ∙ entry_is old xs before w c x there shows }))

  pub asked_faults : (old new : Store) (xs : List X) (before after : List Taken) (w : World) (c count : ℕ) (x y : X) → c < count → slice_get xs c ≡ Some x
      → reconciler y ≡ reconciler x → phase y ≡ phase x → IsIdle old new before after ⊎ HasTaken old new before after (Some c) (asks (reconciler x) (phase x))
      → Shows reconciler phase reconcilers old xs before w
      → StandAt reconciler phase (slice_set xs c y) reconcilers w.phases × (Matches new after w ⊎ Matches new after (happens count reconcilers w (Ask c)))
  asked_faults old new xs before after w c count x y low there kept goes told shows =
      (stays_at xs w.phases c x y there kept goes shows.controllers, taken_or_not old new xs before after w c count x low there told shows)

  -- ---- a crash

  pub crashed_shows : (s : Store) (xs : List X) (taken : List Taken) (w : World) (c count : ℕ) (x y : X) → c < count
      → slice_get xs c ≡ Some x → reconciler y ≡ reconciler x → phase y ≡ reading_set
      → Shows reconciler phase reconcilers s xs taken w → Shows reconciler phase reconcilers s (slice_set xs c y) taken (happens count reconcilers w (Crash c))
  crashed_shows s xs taken w c count x y low there kept goes shows =
      let is = request_is s xs taken w c x there shows in
      subst (Shows reconciler phase reconcilers s (slice_set xs c y) taken) (sym (ap (λ b. cond b (with_crash w c) w) (lower c count low))) (record {
        matches = record { store_is = shows.matches.store_is; taken_is = shows.matches.taken_is };
        controllers = λ i. stands_at xs w.phases c x y reading_set there (kept ∙ is.0) goes shows.controllers i (i == c) refl;
      })

  -- ---- a client that is no controller

  pub outside_shows : (old new : Store) (xs : List X) (before after : List Taken) (w : World) (count : ℕ) (r : Request)
      → HasTaken old new before after None r → Shows reconciler phase reconcilers old xs before w → Shows reconciler phase reconcilers new xs after (happens count reconcilers w (Outside r))
  outside_shows old new xs before after w count r took shows =
      let was : old ≡ w.store = shows.matches.store_is in
      let given : before ≡ taken_of w.entries = shows.matches.taken_is in
      let same : before ++ (None, r, (step old r).1) ∷ [] ≡ taken_of w.entries ++ (None, r, (step w.store r).1) ∷ [] = cc in
      record {
        matches = record {
          store_is = took.0 ∙ ap (λ (s : Store). (step s r).0) was;
          taken_is = took.1 ∙ same ∙ sym (taken_more w.entries (None, r, (step w.store r).1));
        };
        controllers = shows.controllers;
      }

  -- ---- the beginning

  fresh_by : (xs : List X) (rs : ℕ → Reconciler) (i : ℕ) → AllByRecursion (λ x. phase x ≡ reading_set) xs → IfSome (slice_get xs i) (λ x. reconciler x ≡ rs i)
      → IfSome (slice_get xs i) (λ x. (reconciler x ≡ rs i) × (phase x ≡ reading_set))
  fresh_by [] rs i fresh made = tt
  fresh_by (x ∷ xs) rs zero fresh made = (made, fresh.0)
  fresh_by (x ∷ xs) rs (suc i) fresh made = fresh_by xs (λ n. rs (suc n)) i fresh.1 made

  -- controllers that have read nothing
  pub fresh_stand : (xs : List X) → AllByRecursion (λ x. phase x ≡ reading_set) xs → AreMadeOf reconciler xs reconcilers → StandAt reconciler phase xs reconcilers (λ c. reading_set)
  fresh_stand xs fresh made i = fresh_by xs reconcilers i fresh (made i)

  pub start_shows : (s : Store) (xs : List X) → AllByRecursion (λ x. phase x ≡ reading_set) xs → AreMadeOf reconciler xs reconcilers
      → Shows reconciler phase reconcilers s xs [] (start s)
  start_shows s xs fresh made = record { matches = record { store_is = refl; taken_is = refl }; controllers = fresh_stand xs fresh made }

-- ---- a whole run

run-append : (count : ℕ) (reconcilers : ℕ → Reconciler) (w : World) (es fs : List WholeEvent) → run count reconcilers w (es ++ fs) ≡ run count reconcilers (run count reconcilers w es) fs
run-append count reconcilers w [] fs = refl
run-append count reconcilers w (e ∷ es) fs = run-append count reconcilers (happens count reconcilers w e) es fs

pub run_more : (count : ℕ) (reconcilers : ℕ → Reconciler) (w : World) (es : List WholeEvent) (i : ℕ) (d : WholeEvent) → i < length es
    → happens count reconcilers (run count reconcilers w (take i es)) (slice_index_or es i d) ≡ run count reconcilers w (take (i + 1) es)
run_more count reconcilers w es i d low =
    sym (ap (run count reconcilers w) (take_more es i d low) ∙ run-append count reconcilers w (take i es) (slice_index_or es i d ∷ []))

pub take_past : {X : Type 0} (xs : List X) (i : ℕ) → length xs ≤ i → take i xs ≡ xs
take_past [] zero high = refl
take_past [] (suc i) high = refl
take_past (x ∷ xs) zero high = absurd (omega (arith, high))
take_past (x ∷ xs) (suc i) high = ap (λ l. x ∷ l) (take_past xs i (omega (arith, high)))

pub run_past : (count : ℕ) (reconcilers : ℕ → Reconciler) (w : World) (es : List WholeEvent) (i : ℕ) → length es ≤ i → run count reconcilers w (take i es) ≡ run count reconcilers w es
run_past count reconcilers w es i high = ap (run count reconcilers w) (take_past es i high)

-- ---- whether any request was sent

-- without a request the store is unchanged, so the first request meets the store of the beginning
pub still_idle : (first old new : Store) (was now : List Taken) → IsIdle first old [] was ⊎ IsReached first → IsIdle old new was now ⊎ IsReached old → IsIdle first new [] now ⊎ IsReached first
still_idle first old new was now (inr reached) next = inr reached
still_idle first old new was now (inl idle) (inl still) = inl (still.0 ∙ idle.0, still.1 ∙ idle.1)
still_idle first old new was now (inl idle) (inr reached) = inr (subst IsReached idle.0 reached)

pub taken_or : {first now : Store} {taken : List Taken} → IsIdle first now [] taken ⊎ IsReached first → (taken ≡ []) ⊎ IsReached first
taken_or (inl idle) = inl idle.1
taken_or (inr reached) = inr reached

-- ---- what follows if a call succeeded, or failed

pub done_if : {D E : Type 0} (r : Result D E) (S T P : Type 0) → OnOk r S → OnOk r T → (S → T → P) → OnOk r P
done_if (Ok d) S T P s t holds = holds s t
done_if (Err e) S T P s t holds = tt

pub failed_if : {D E : Type 0} (r : Result D E) (S T P : Type 0) → OnErr r S → OnErr r T → (S → T → P) → OnErr r P
failed_if (Ok d) S T P s t holds = tt
failed_if (Err e) S T P s t holds = holds s t
