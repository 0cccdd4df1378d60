-- What each path through an event does to what is shown.
use Rattle.std.proofs.Common.{◌≡◌, ℕ, zero, suc, ◌+◌, ◌<◌, ◌≤◌, Bool, true, false, cond, List, [], ◌∷◌, ◌++◌, get_or, Option, Some, None, refl, sym, ap, ◌∙◌, subst, nat_eq, nat_lt, arith, ltb-true, ltb-false}
use Rattle.std.proofs.lemmas.Option.{same_Some}
use Rattle.objects.specs.declared.key.Key.{Key}
use Rattle.requests.specs.declared.request.Request.{Request}
use Rattle.requests.specs.declared.request.Request.TheVariants as request
use Rattle.requests.specs.declared.request.Request.TheVariants.{Create, Get, Update, UpdateStatus, Delete, Compact}
use Rattle.requests.specs.declared.reply.Reply.{Reply}
use Rattle.requests.specs.Keys.{key_named}
use Rattle.requests.specs.Verdict.{is_write}
use Rattle.plain_store.specs.Route.{lists, lists_at, route, writes}
use Rattle.history.specs.declared.machine.Machine.{Machine}
use Rattle.history.specs.declared.phase.Phase.{Phase as CodePhase}
use Rattle.history.specs.declared.phase.Phase.TheVariants as code
use Rattle.history.specs.declared.phase.Writing.{Writing as CodeWriting}
use Rattle.interleavings.specs.Log.{Writing}
use Rattle.interleavings.specs.Order.{Arrangement, moved, moved_by}
use Rattle.interleavings.specs.Step.{checked, checked_by, called, compacted, read, read_at, reserved}
use Rattle.interleavings.specs.World.{Phase, Idle, Called, Holding, Drawn, Waiting, Reading, Gone, Size, World}
use Rattle.history.specs.Replayed.{IsShown, Shows, called_in, holding_in, is_called, is_idle, is_undecided, writing_of}
use Rattle.interleavings.proofs.Arranged.{moved_same}
use Rattle.history.proofs.Showing.{goes}

-- ---- where a caller is, by what its code phase has
pub idle_is : (p : CodePhase) (ph : Phase) → is_idle p ≡ true → IsShown p ph → ph ≡ Idle
idle_is code.Idle ph e h = h
idle_is _ ph e h = absurd cc

pub called_is : (p : CodePhase) (ph : Phase) (place : ℕ) (r : Request) → called_in p ≡ Some (place, r) → IsShown p ph → ph ≡ Called place r
called_is (code.Called p q) ph place r e h = h ∙ ap (λ (x : ℕ × Request). Called x.0 x.1) (same_Some _ _ e)
called_is _ ph place r e h = absurd cc

pub holding_is : (p : CodePhase) (ph : Phase) (t : CodeWriting) → holding_in p ≡ Some t → IsShown p ph → ph ≡ Holding (writing_of t)
holding_is (code.Holding u) ph t e h = let x : u ≡ t = cc in h ∙ ap (λ y. Holding (writing_of y)) x
holding_is _ ph t e h = absurd cc

pub called_undecided : (p : CodePhase) (x : ℕ × Request) → called_in p ≡ Some x → is_undecided p ≡ true
called_undecided (code.Called p q) x e = refl
called_undecided _ x e = absurd cc

pub called_is_called : (p : CodePhase) (x : ℕ × Request) → called_in p ≡ Some x → is_called p ≡ true
called_is_called (code.Called p q) x e = refl
called_is_called _ x e = absurd cc

-- ---- events that are not enabled
module _ (z : Size) (w : World) (c : ℕ) where
  pub not_idle : (r : Request) (p : CodePhase) (ph : Phase) → is_idle p ≡ false → IsShown p ph → called w c r ph ≡ w
  not_idle r code.Idle ph e h = absurd cc
  not_idle r (code.Reading n p q left) ph e h = ap (called w c r) h.1.1.0
  not_idle r _ ph e h = ap (called w c r) h

  -- of a function that is `w` at all phases but Called
  pub not_called : (f : Phase → World) → f Idle ≡ w → ((t : Writing) → f (Holding t) ≡ w) → ((d : Rattle.interleavings.specs.World.Draw) → f (Drawn d) ≡ w) → ((s p : ℕ) (r : Reply) → f (Waiting s p r) ≡ w)
      → ((n p : ℕ) (r : Request) (parts : List ℕ) (found : Rattle.plain_store.specs.Store.Objects) → f (Reading n p r parts found) ≡ w) → ((l : Option Rattle.interleavings.specs.World.Draw) → f (Gone l) ≡ w)
      → (p : CodePhase) (ph : Phase) → called_in p ≡ None → IsShown p ph → f ph ≡ w
  not_called f i ho dr wa re go code.Idle ph e h = ap f h ∙ i
  not_called f i ho dr wa re go (code.Called p q) ph e h = absurd cc
  not_called f i ho dr wa re go (code.Holding t) ph e h = ap f h ∙ ho _
  not_called f i ho dr wa re go (code.Drawn d) ph e h = ap f h ∙ dr _
  not_called f i ho dr wa re go (code.Waiting s p q) ph e h = ap f h ∙ wa s p q
  not_called f i ho dr wa re go (code.Reading n p q left) ph e h = ap f h.1.1.0 ∙ re n p q h.0 h.1.0
  not_called f i ho dr wa re go code.Gone ph e h = ap f h ∙ go None
  not_called f i ho dr wa re go (code.Left d) ph e h = ap f h ∙ go _
  not_called f i ho dr wa re go code.Dropped ph e h = ap f h ∙ go None

  pub check_not_called : (p : CodePhase) (ph : Phase) → called_in p ≡ None → IsShown p ph → checked z w c ph ≡ w
  check_not_called = not_called (checked z w c) refl (λ t. refl) (λ d. refl) (λ s p r. refl) (λ n p r parts found. refl) (λ l. refl)

  pub read_not_called : (p : CodePhase) (ph : Phase) → called_in p ≡ None → IsShown p ph → read z w c ph ≡ w
  read_not_called = not_called (read z w c) refl (λ t. refl) (λ d. refl) (λ s p r. refl) (λ n p r parts found. refl) (λ l. refl)

  pub read_at_not_called : (p : CodePhase) (ph : Phase) → called_in p ≡ None → IsShown p ph → read_at z w c ph ≡ w
  read_at_not_called = not_called (read_at z w c) refl (λ t. refl) (λ d. refl) (λ s p r. refl) (λ n p r parts found. refl) (λ l. refl)

  pub compact_not_called : (p : CodePhase) (ph : Phase) → called_in p ≡ None → IsShown p ph → compacted w c ph ≡ w
  compact_not_called = not_called (compacted w c) refl (λ t. refl) (λ d. refl) (λ s p r. refl) (λ n p r parts found. refl) (λ l. refl)

  pub reserve_not_holding : (p : CodePhase) (ph : Phase) → holding_in p ≡ None → IsShown p ph → reserved z w c ph ≡ w
  reserve_not_holding (code.Holding t) ph e h = absurd cc
  reserve_not_holding (code.Reading n p q left) ph e h = ap (reserved z w c) h.1.1.0
  reserve_not_holding _ ph e h = ap (reserved z w c) h

  -- a check of a request that is no write
  pub check_no_write : (place : ℕ) (r : Request) → is_write r ≡ false → checked z w c (Called place r) ≡ w
  unfolding route
  check_no_write place (Create d) e = absurd cc
  check_no_write place (Get k) e = refl
  check_no_write place (request.List kind namespace exact) e = by (Rattle.std.proofs.Common.nat_eq exact 0)
    where
      by : (b : Bool) → checked_by z w c place (request.List kind namespace exact) (cond b (lists kind namespace) (lists_at kind namespace exact)) ≡ w
      by true = refl
      by false = refl
  check_no_write place (Update d) e = absurd cc
  check_no_write place (UpdateStatus d) e = absurd cc
  check_no_write place (Delete k uid version at) e = absurd cc
  check_no_write place (Compact to) e = refl

  -- after an event of a caller that leads from a phase to a phase
  pub steps : (a : Arrangement) (m : Machine) (v u : World) (before after : Phase) → u ≡ v → w.phase c ≡ before → v.phase c ≡ after → Shows z v (moved w.frontier c before after a) m → Shows z u (moved_by c w u a) m
  steps a m v u before after is b e h = subst (λ x. Shows z x (moved_by c w x a) m) (sym is) (goes z w v a m c before after b e h)

  pub nothing : (a : Arrangement) (m : Machine) (u : World) → u ≡ w → Shows z w a m → Shows z u (moved_by c w u a) m
  nothing a m u is h = steps a m w u (w.phase c) (w.phase c) is refl refl (subst (λ x. Shows z w x m) (sym (moved_same w.frontier c (w.phase c) a)) h)

-- the route of a write
pub route_of_write : (r : Request) (k : Key) → is_write r ≡ true → key_named r ≡ Some k → route r ≡ writes k
unfolding route
route_of_write (Create d) k e n = ap writes (same_Some _ _ n)
route_of_write (Get x) k e n = absurd cc
route_of_write (request.List kind namespace exact) k e n = absurd cc
route_of_write (Update d) k e n = ap writes (same_Some _ _ n)
route_of_write (UpdateStatus d) k e n = ap writes (same_Some _ _ n)
route_of_write (Delete x uid version at) k e n = ap writes (same_Some _ _ n)
route_of_write (Compact to) k e n = absurd cc

pub holding_code : (p : CodePhase) (t : CodeWriting) → holding_in p ≡ Some t → p ≡ code.Holding t
holding_code (code.Holding u) t e = ap code.Holding (same_Some _ _ e)
holding_code _ t e = absurd cc

pub lt_true : (i j : ℕ) → i < j → nat_lt i j ≡ true
lt_true i j lt = by (nat_lt i j) refl
  where
    by : (b : Bool) → nat_lt i j ≡ b → b ≡ true
    by true e = refl
    by false e = let le = ltb-false i j e in absurd (omega arith)

pub lt_false : (i j : ℕ) → j ≤ i → nat_lt i j ≡ false
lt_false i j le = by (nat_lt i j) refl
  where
    by : (b : Bool) → nat_lt i j ≡ b → b ≡ false
    by true e = let lt = ltb-true i j e in absurd (omega arith)
    by false e = refl

-- one more that is none
pub none_more : (xs : List (Option ℕ)) (i : ℕ) → get_or (xs ++ None ∷ []) i None ≡ get_or xs i None
none_more [] zero = refl
none_more [] (suc i) = refl
none_more (x ∷ xs) zero = refl
none_more (x ∷ xs) (suc i) = none_more xs i
