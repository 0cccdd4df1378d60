-- Whatever happens while controllers share a store, what the store handled is a transcript.
use Rattle.std.proofs.Common.{◌≡◌, ◌≤◌, ◌<◌, ◌==◌, ◌+◌, ℕ, Bool, true, false, cond, List, [], ◌∷◌, ◌++◌, append_assoc, Some, None, Option, refl, sym, ap, subst, ◌∙◌, arith}
use Rattle.std.specs.Prelude.{nat_lt, ◌&&◌}
use Rattle.std.proofs.lemmas.Bool.{and_parts}
use Rattle.std.proofs.lemmas.Bool.Decides.{nat_tests}
use Rattle.requests.specs.declared.request.Request.{Request}
use Rattle.requests.specs.declared.reply.Reply.{Reply}
use Rattle.plain_store.specs.Reached.{IsReached}
use Rattle.plain_store.specs.Run.{after, exchanges}
use Rattle.plain_store.specs.Store.{Store, opening, step}
use Rattle.rounds.specs.declared.event.WholeEvent.{WholeEvent}
use Rattle.rounds.specs.declared.event.WholeEvent.TheVariants.{Ask, Crash, Outside}
use Rattle.rounds.specs.Before.{entries_before}
use Rattle.rounds.specs.Incarnation.{Follows, phase_after}
use Rattle.rounds.specs.Phase.{Phase, asks, reading_set, takes}
use Rattle.rounds.specs.Promises.{IsTranscript}
use Rattle.rounds.specs.Reconciler.{Reconciler}
use Rattle.rounds.specs.Transcript.{Entry, Exchange, Incarnation, exchanges_of, is_by, of_incarnation, requests_of}
use Rattle.rounds.specs.World.{World, happens, incarnation_of, put, run, start, with_ask, with_crash, with_entry}
use Rattle.rounds.proofs.Entries.{after-append}
use Rattle.rounds.proofs.Lists.{same_first, same_rest}

-- ---- one more entry

requests_more : (es : List Entry) (e : Entry) → requests_of (es ++ e ∷ []) ≡ requests_of es ++ e.1 ∷ []
requests_more [] e = refl
requests_more (f ∷ es) e = ap (λ l. f.1 ∷ l) (requests_more es e)

store_more : (s now : Store) (es : List Entry) (e : Entry) → now ≡ after s (requests_of es) → (step now e.1).0 ≡ after s (requests_of (es ++ e ∷ []))
store_more s now es e is = ap (λ (x : Store). (step x e.1).0) is ∙ sym (ap (after s) (requests_more es e) ∙ after-append s (requests_of es) (e.1 ∷ []))

run_more : (s now : Store) (es : List Entry) (e : Entry) → now ≡ after s (requests_of es) → e.2 ≡ (step now e.1).1 → exchanges_of es ≡ exchanges s (requests_of es)
    → exchanges_of (es ++ e ∷ []) ≡ exchanges s (requests_of (es ++ e ∷ []))
run_more s now [] e store told is = ap (λ (reply : Reply). (e.1, reply) ∷ []) (told ∙ ap (λ (x : Store). (step x e.1).1) store)
run_more s now (f ∷ es) e store told is =
    let one = same_first (f.1, f.2) (f.1, (step s f.1).1) (exchanges_of es) (exchanges (step s f.1).0 (requests_of es)) is in
    let rest = same_rest (f.1, f.2) (f.1, (step s f.1).1) (exchanges_of es) (exchanges (step s f.1).0 (requests_of es)) is in
    ap (λ (x : Exchange). x ∷ exchanges_of (es ++ e ∷ [])) one
    ∙ ap (λ l. (f.1, (step s f.1).1) ∷ l) (run_more (step s f.1).0 now es e store told rest)

own_by : (b : Bool) (f : Exchange) (all own : List Exchange) → all ≡ own → cond b (f ∷ all) all ≡ cond b (f ∷ own) own
own_by true f all own is = ap (λ l. f ∷ l) is
own_by false f all own is = is

own_other : (incarnation : Incarnation) (es : List Entry) (e : Entry) → is_by incarnation e.0 ≡ false → of_incarnation incarnation (es ++ e ∷ []) ≡ of_incarnation incarnation es
own_other incarnation [] e is = ap (λ b. cond b ((e.1, e.2) ∷ []) []) is
own_other incarnation (f ∷ es) e is = own_by (is_by incarnation f.0) (f.1, f.2) _ _ (own_other incarnation es e is)

own_after : (b : Bool) (f a : Exchange) (all own : List Exchange) → all ≡ own ++ a ∷ [] → cond b (f ∷ all) all ≡ cond b (f ∷ own) own ++ a ∷ []
own_after true f a all own is = ap (λ l. f ∷ l) is
own_after false f a all own is = is

own_more : (incarnation : Incarnation) (es : List Entry) (e : Entry) → is_by incarnation e.0 ≡ true → of_incarnation incarnation (es ++ e ∷ []) ≡ of_incarnation incarnation es ++ (e.1, e.2) ∷ []
own_more incarnation [] e is = ap (λ b. cond b ((e.1, e.2) ∷ []) []) is
own_more incarnation (f ∷ es) e is = own_after (is_by incarnation f.0) (f.1, f.2) (e.1, e.2) _ _ (own_more incarnation es e is)

follows_more : (c : Reconciler) (phase : Phase) (own : List Exchange) (a : Exchange) → Follows c phase own → a.0 ≡ asks c (phase_after c phase own) → Follows c phase (own ++ a ∷ [])
follows_more c phase [] a follows is = (is, tt)
follows_more c phase (e ∷ own) a follows is = (follows.0, follows_more c (takes c phase e.1) own a follows.1 is)

phase_more : (c : Reconciler) (phase : Phase) (own : List Exchange) (a : Exchange) → phase_after c phase (own ++ a ∷ []) ≡ takes c (phase_after c phase own) a.1
phase_more c phase [] a = refl
phase_more c phase (e ∷ own) a = phase_more c (takes c phase e.1) own a

-- ---- incarnations

equal : (n m : ℕ) → (n == m) ≡ true → n ≡ m
equal n m is = grind (arith, nat_tests)

same_incarnation : (incarnation other : Incarnation) → is_by incarnation (Some other) ≡ true → incarnation ≡ other
same_incarnation incarnation other is =
    let parts = and_parts (incarnation.controller == other.controller) (incarnation.crashes == other.crashes) is in
    let one : incarnation.controller ≡ other.controller = equal _ _ parts.0 in
    let two : incarnation.crashes ≡ other.crashes = equal _ _ parts.1 in
    ap (λ n. record { controller = n; crashes = incarnation.crashes }) one ∙ ap (λ n. record { controller = other.controller; crashes = n }) two

-- ---- what is kept

-- What was taken is a run that left the store. Each incarnation follows its machine, its controller is in the phase
-- that this led to, and no incarnation that is still to come has sent a request.
pub record IsKept (reconcilers : ℕ → Reconciler) (capacity : ℕ) (before : List Entry) (w : World) : Type 0 where
  pub run : exchanges_of (before ++ w.entries) ≡ exchanges (opening capacity) (requests_of (before ++ w.entries))
  pub store : w.store ≡ after (opening capacity) (requests_of (before ++ w.entries))
  pub incarnations : (incarnation : Incarnation) → Follows (reconcilers incarnation.controller) reading_set (of_incarnation incarnation (before ++ w.entries))
  pub phases : (c : ℕ) → w.phases c ≡ phase_after (reconcilers c) reading_set (of_incarnation (incarnation_of w c) (before ++ w.entries))
  pub unborn : (incarnation : Incarnation) → w.crashes incarnation.controller < incarnation.crashes → of_incarnation incarnation (before ++ w.entries) ≡ []

module _ (reconcilers : ℕ → Reconciler) (capacity : ℕ) (before : List Entry) (w : World) (kept : IsKept reconcilers capacity before w) where
  all : List Entry
  all = before ++ w.entries

  longer : (e : Entry) → all ++ e ∷ [] ≡ before ++ (w.entries ++ e ∷ [])
  unfolding all
  longer e = append_assoc before w.entries (e ∷ [])

  -- one more entry: the requests of each incarnation are unchanged, except that of the entry
  entry_kept : (who : Option Incarnation) (r : Request) (phases : ℕ → Phase)
      → ((incarnation : Incarnation) → is_by incarnation who ≡ true → r ≡ asks (reconcilers incarnation.controller) (phase_after (reconcilers incarnation.controller) reading_set (of_incarnation incarnation all)))
      → ((incarnation : Incarnation) → is_by incarnation who ≡ true → incarnation.crashes ≤ w.crashes incarnation.controller)
      → ((c : ℕ) (b : Bool) → is_by (incarnation_of w c) who ≡ b → phases c ≡ cond b (takes (reconcilers c) (w.phases c) (step w.store r).1) (w.phases c))
      → IsKept reconcilers capacity before (with_entry w who r phases)
  unfolding all longer
  entry_kept who r phases asked born goes =
      let e : Entry = (who, r, (step w.store r).1) in
      record {
        run = subst (λ es. exchanges_of es ≡ exchanges (opening capacity) (requests_of es)) (longer e) (run_more (opening capacity) w.store all e kept.store refl kept.run);
        store = store_more (opening capacity) w.store all e kept.store ∙ ap (λ es. after (opening capacity) (requests_of es)) (longer e);
        incarnations = λ incarnation. subst (λ es. Follows (reconcilers incarnation.controller) reading_set (of_incarnation incarnation es)) (longer e) (follows_by incarnation (is_by incarnation who) refl);
        phases = λ c. phases_by c (is_by (incarnation_of w c) who) refl ∙ ap (λ es. phase_after (reconcilers c) reading_set (of_incarnation (incarnation_of w c) es)) (longer e);
        unborn = λ incarnation late. ap (of_incarnation incarnation) (sym (longer e)) ∙ unborn_by incarnation late (is_by incarnation who) refl;
      }
    where
      follows_by : (incarnation : Incarnation) (b : Bool) → is_by incarnation who ≡ b → Follows (reconcilers incarnation.controller) reading_set (of_incarnation incarnation (all ++ (who, r, (step w.store r).1) ∷ []))
      follows_by incarnation true is =
          subst (Follows (reconcilers incarnation.controller) reading_set) (sym (own_more incarnation all (who, r, (step w.store r).1) is))
          (follows_more (reconcilers incarnation.controller) reading_set (of_incarnation incarnation all) (r, (step w.store r).1) (kept.incarnations incarnation) (asked incarnation is))
      follows_by incarnation false is = subst (Follows (reconcilers incarnation.controller) reading_set) (sym (own_other incarnation all (who, r, (step w.store r).1) is)) (kept.incarnations incarnation)

      phases_by : (c : ℕ) (b : Bool) → is_by (incarnation_of w c) who ≡ b → phases c ≡ phase_after (reconcilers c) reading_set (of_incarnation (incarnation_of w c) (all ++ (who, r, (step w.store r).1) ∷ []))
      phases_by c true is =
          goes c true is ∙ ap (λ p. takes (reconcilers c) p (step w.store r).1) (kept.phases c)
          ∙ sym (ap (phase_after (reconcilers c) reading_set) (own_more (incarnation_of w c) all (who, r, (step w.store r).1) is)
          ∙ phase_more (reconcilers c) reading_set (of_incarnation (incarnation_of w c) all) (r, (step w.store r).1))
      phases_by c false is =
          goes c false is ∙ kept.phases c ∙ sym (ap (phase_after (reconcilers c) reading_set) (own_other (incarnation_of w c) all (who, r, (step w.store r).1) is))

      unborn_by : (incarnation : Incarnation) → w.crashes incarnation.controller < incarnation.crashes → (b : Bool) → is_by incarnation who ≡ b → of_incarnation incarnation (all ++ (who, r, (step w.store r).1) ∷ []) ≡ []
      unborn_by incarnation late true is = let low = born incarnation is in absurd (omega (arith, low, late))
      unborn_by incarnation late false is = own_other incarnation all (who, r, (step w.store r).1) is ∙ kept.unborn incarnation late

  outside_kept : (r : Request) → IsKept reconcilers capacity before (with_entry w None r w.phases)
  outside_kept r = entry_kept None r w.phases (λ incarnation is. cc) (λ incarnation is. cc) nobody
    where
      nobody : (c : ℕ) (b : Bool) → false ≡ b → w.phases c ≡ cond b (takes (reconcilers c) (w.phases c) (step w.store r).1) (w.phases c)
      nobody c true is = cc
      nobody c false is = refl

  ask_kept : (c : ℕ) → IsKept reconcilers capacity before (with_ask reconcilers w c)
  unfolding all
  ask_kept c =
      let r = asks (reconcilers c) (w.phases c) in
      entry_kept (Some (incarnation_of w c)) r (put w.phases c (takes (reconcilers c) (w.phases c) (step w.store r).1)) mine_asks mine_born goes
    where
      mine_asks : (incarnation : Incarnation) → is_by incarnation (Some (incarnation_of w c)) ≡ true
          → asks (reconcilers c) (w.phases c) ≡ asks (reconcilers incarnation.controller) (phase_after (reconcilers incarnation.controller) reading_set (of_incarnation incarnation all))
      mine_asks incarnation is =
          subst (λ (l : Incarnation). asks (reconcilers c) (w.phases c) ≡ asks (reconcilers l.controller) (phase_after (reconcilers l.controller) reading_set (of_incarnation l (before ++ w.entries))))
          (sym (same_incarnation incarnation (incarnation_of w c) is)) (ap (asks (reconcilers c)) (kept.phases c))

      mine_born : (incarnation : Incarnation) → is_by incarnation (Some (incarnation_of w c)) ≡ true → incarnation.crashes ≤ w.crashes incarnation.controller
      mine_born incarnation is = subst (λ (l : Incarnation). l.crashes ≤ w.crashes l.controller) (sym (same_incarnation incarnation (incarnation_of w c) is)) (omega arith)

      goes_by : (i : ℕ) (b : Bool) (t : Bool) → (i == c) ≡ t → (t && (w.crashes i == w.crashes c)) ≡ b
          → cond t (takes (reconcilers c) (w.phases c) (step w.store (asks (reconcilers c) (w.phases c))).1) (w.phases i)
          ≡ cond b (takes (reconcilers i) (w.phases i) (step w.store (asks (reconcilers c) (w.phases c))).1) (w.phases i)
      goes_by i true true same is = ap (λ n. takes (reconcilers n) (w.phases n) (step w.store (asks (reconcilers c) (w.phases c))).1) (sym (equal i c same))
      goes_by i false true same is =
          let e : w.crashes i ≡ w.crashes c = ap w.crashes (equal i c same) in
          let met : (w.crashes i == w.crashes c) ≡ true = grind (arith, nat_tests, e) in
          let both : true ≡ false = sym met ∙ is in cc
      goes_by i true false same is = cc
      goes_by i false false same is = refl

      goes : (i : ℕ) (b : Bool) → is_by (incarnation_of w i) (Some (incarnation_of w c)) ≡ b
          → put w.phases c (takes (reconcilers c) (w.phases c) (step w.store (asks (reconcilers c) (w.phases c))).1) i
          ≡ cond b (takes (reconcilers i) (w.phases i) (step w.store (asks (reconcilers c) (w.phases c))).1) (w.phases i)
      goes i b is = goes_by i b (i == c) refl is

  crash_kept : (c : ℕ) → IsKept reconcilers capacity before (with_crash w c)
  crash_kept c = record {
    run = kept.run;
    store = kept.store;
    incarnations = kept.incarnations;
    phases = λ i. phases_by i (i == c) refl;
    unborn = λ incarnation late. unborn_by incarnation (incarnation.controller == c) refl late;
  }
    where
      phases_by : (i : ℕ) (t : Bool) → (i == c) ≡ t → cond t reading_set (w.phases i)
          ≡ phase_after (reconcilers i) reading_set (of_incarnation (record { controller = i; crashes = cond t (w.crashes c + 1) (w.crashes i) }) (before ++ w.entries))
      phases_by i true is =
          let e : w.crashes i ≡ w.crashes c = ap w.crashes (equal i c is) in
          sym (ap (phase_after (reconcilers i) reading_set) (kept.unborn (record { controller = i; crashes = w.crashes c + 1 }) (omega (arith, e))))
      phases_by i false is = kept.phases i

      unborn_by : (incarnation : Incarnation) (t : Bool) → (incarnation.controller == c) ≡ t → cond t (w.crashes c + 1) (w.crashes incarnation.controller) < incarnation.crashes → of_incarnation incarnation (before ++ w.entries) ≡ []
      unborn_by incarnation true is late =
          let e : w.crashes incarnation.controller ≡ w.crashes c = ap w.crashes (equal incarnation.controller c is) in
          kept.unborn incarnation (omega (arith, e, late))
      unborn_by incarnation false is late = kept.unborn incarnation late

-- ---- a whole run

kept_if : (reconcilers : ℕ → Reconciler) (capacity : ℕ) (before : List Entry) (b : Bool) (w v : World) → IsKept reconcilers capacity before w → IsKept reconcilers capacity before v
    → IsKept reconcilers capacity before (cond b w v)
kept_if reconcilers capacity before true w v one two = one
kept_if reconcilers capacity before false w v one two = two

happens_kept : (count : ℕ) (reconcilers : ℕ → Reconciler) (capacity : ℕ) (before : List Entry) (w : World) (e : WholeEvent) → IsKept reconcilers capacity before w
    → IsKept reconcilers capacity before (happens count reconcilers w e)
happens_kept count reconcilers capacity before w (Ask c) kept =
    kept_if reconcilers capacity before (nat_lt c count) (with_ask reconcilers w c) w (ask_kept reconcilers capacity before w kept c) kept
happens_kept count reconcilers capacity before w (Crash c) kept =
    kept_if reconcilers capacity before (nat_lt c count) (with_crash w c) w (crash_kept reconcilers capacity before w kept c) kept
happens_kept count reconcilers capacity before w (Outside r) kept = outside_kept reconcilers capacity before w kept r

run_kept : (count : ℕ) (reconcilers : ℕ → Reconciler) (capacity : ℕ) (before : List Entry) (w : World) (es : List WholeEvent) → IsKept reconcilers capacity before w
    → IsKept reconcilers capacity before (run count reconcilers w es)
run_kept count reconcilers capacity before w [] kept = kept
run_kept count reconcilers capacity before w (e ∷ es) kept =
    run_kept count reconcilers capacity before (happens count reconcilers w e) es (happens_kept count reconcilers capacity before w e kept)

-- ---- the beginning

append_none : (es : List Entry) → es ++ [] ≡ es
append_none [] = refl
append_none (e ∷ es) = ap (λ l. e ∷ l) (append_none es)

before_run : (s : Store) (rs : List Request) → exchanges_of (entries_before s rs) ≡ exchanges s rs
before_run s [] = refl
before_run s (r ∷ rs) = ap (λ l. (r, (step s r).1) ∷ l) (before_run (step s r).0 rs)

before_requests : (s : Store) (rs : List Request) → requests_of (entries_before s rs) ≡ rs
before_requests s [] = refl
before_requests s (r ∷ rs) = ap (λ l. r ∷ l) (before_requests (step s r).0 rs)

before_own : (s : Store) (rs : List Request) (incarnation : Incarnation) → of_incarnation incarnation (entries_before s rs) ≡ []
before_own s [] incarnation = refl
before_own s (r ∷ rs) incarnation = before_own (step s r).0 rs incarnation

start_kept : (reconcilers : ℕ → Reconciler) (capacity : ℕ) (rs : List Request) (s : Store) → s ≡ after (opening capacity) rs
    → IsKept reconcilers capacity (entries_before (opening capacity) rs) (start s)
start_kept reconcilers capacity rs s is =
    let before = entries_before (opening capacity) rs in
    let same = before_requests (opening capacity) rs in
    let none = λ (incarnation : Incarnation). ap (of_incarnation incarnation) (append_none before) ∙ before_own (opening capacity) rs incarnation in
    record {
      run = ap exchanges_of (append_none before) ∙ before_run (opening capacity) rs ∙ sym (ap (λ es. exchanges (opening capacity) (requests_of es)) (append_none before) ∙ ap (exchanges (opening capacity)) same);
      store = is ∙ sym (ap (λ es. after (opening capacity) (requests_of es)) (append_none before) ∙ ap (after (opening capacity)) same);
      incarnations = λ incarnation. subst (Follows (reconcilers incarnation.controller) reading_set) (sym (none incarnation)) tt;
      phases = λ c. sym (ap (phase_after (reconcilers c) reading_set) (none (record { controller = c; crashes = 0 })));
      unborn = λ incarnation late. none incarnation;
    }

-- what the store handles in a run is a transcript
pub transcript : (count : ℕ) (reconcilers : ℕ → Reconciler) (s : Store) (reached : IsReached s) (events : List WholeEvent)
    → IsTranscript reconcilers reached.capacity (entries_before (opening reached.capacity) reached.requests ++ (run count reconcilers (start s) events).entries)
transcript count reconcilers s reached events =
    let capacity = reached.capacity in
    let before = entries_before (opening capacity) reached.requests in
    let kept = run_kept count reconcilers capacity before (start s) events (start_kept reconcilers capacity reached.requests s reached.left) in
    record { least = reached.least; most = reached.most; run = kept.run; incarnations = kept.incarnations }
