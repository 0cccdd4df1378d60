-- What a machine still shows once one of its pieces has changed.
use Rattle.std.proofs.Common.{◌≡◌, ◌≢◌, ℕ, ◌<◌, Bool, true, false, cond, List, [], ◌∷◌, ◌++◌, length, get_or, set, Option, Some, None, refl, sym, ap, ◌∙◌, subst, nat_eq, arith, get_or-set_same, get_or-set_other, ne_eqb, eq-eqb}
use Rattle.std.proofs.Math.ListN.{length-set}
use Rattle.history.specs.declared.callers.CallerPhases.{CallerPhases}
use Rattle.history.specs.declared.machine.Machine.{Machine}
use Rattle.history.specs.declared.parking.Parking.{Parking}
use Rattle.history.specs.declared.parking.Waiter.{Waiter}
use Rattle.history.specs.declared.phase.Phase.{Phase as CodePhase}
use Rattle.interleavings.specs.Order.{Arrangement, moved, moved_by, rest, without}
use Rattle.interleavings.specs.World.{Phase, Size, World, changed}
use Rattle.history.specs.Replayed.{Enters, IsShown, IsTracked, IsUnread, Shows, ShowsSeats, drops, is_dropped, lot_at, named_phase, or_idle, phase_at, staying, waiters_at}
use Rattle.interleavings.proofs.Basics.{Compared, same, other, compare, changed-same, changed-other, changed_all, eq_self}
use Rattle.history.proofs.Waiters.{staying_more, staying_same, staying_twice, waiters_more, waiters_passed, waiters_rest, waiters_without}

module _ (old new : CallerPhases) (c : ℕ) (ph : CodePhase) (e : Enters old new c ph) where
  pub entered_own : phase_at new c ≡ ph
  entered_own = ap or_idle (e.0 c ∙ ap (λ b. cond b (Some ph) (named_phase old c)) (eq_self c))

  pub entered_other : (d : ℕ) → d ≢ c → phase_at new d ≡ phase_at old d
  entered_other d ne = ap or_idle (e.0 d ∙ ap (λ b. cond b (Some ph) (named_phase old d)) (ne_eqb d c ne))

  pub entered_drops : is_dropped ph ≡ drops old c → (d : ℕ) → drops old d ≡ drops new d
  entered_drops stays d = by (compare d c)
    where
      by : Compared d c → drops old d ≡ drops new d
      by (same x b) = ap (drops old) x ∙ sym stays ∙ ap is_dropped (sym entered_own) ∙ ap (drops new) (sym x)
      by (other x b) = ap is_dropped (sym (entered_other d x))

  pub entered_shown : (f : ℕ → Phase) (to : Phase) → IsShown ph to → ((d : ℕ) → IsShown (phase_at old d) (f d)) → (d : ℕ) → IsShown (phase_at new d) (changed f c to d)
  entered_shown f to own others = changed_all (λ d x. IsShown (phase_at new d) x) f c to
      (subst (λ p. IsShown p to) (sym entered_own) own)
      (λ d ne. subst (λ p. IsShown p (f d)) (sym (entered_other d ne)) (others d))

module _ (z : Size) (w : World) (a : Arrangement) (m : Machine) (sh : Shows z w a m) where
  -- a caller enters a phase
  pub shows_entered : (cs : CallerPhases) (c : ℕ) (ph : CodePhase) (to : Phase) → Enters m.callers cs c ph → IsShown ph to → is_dropped ph ≡ drops m.callers c → IsUnread m.compacted to → Shows z (record w { phase = changed w.phase c to }) a (record m { callers = cs })
  shows_entered cs c ph to e own stays unread = record {
    capacity = sh.capacity;
    small = sh.small;
    frontier = sh.frontier;
    floor = sh.floor;
    place = sh.place;
    items = sh.items;
    order = sh.order;
    log = sh.log;
    seats = sh.seats;
    phases = entered_shown m.callers cs c ph e w.phase to own sh.phases;
    parked = λ n. sh.parked n ∙ staying_same (drops m.callers) (drops cs) (entered_drops m.callers cs c ph e stays) (lot_at m.parking n);
    tracked = e.1 sh.tracked;
    low = sh.low;
    unread = changed_all (λ d x. IsUnread m.compacted x) w.phase c to unread (λ d ne. sh.unread d);
  }

  -- the same callers
  pub shows_named : (cs : CallerPhases) → ((c : ℕ) → phase_at cs c ≡ phase_at m.callers c) → (IsTracked m.callers → IsTracked cs) → Shows z w a (record m { callers = cs })
  shows_named cs e tracks = record {
    capacity = sh.capacity;
    small = sh.small;
    frontier = sh.frontier;
    floor = sh.floor;
    place = sh.place;
    items = sh.items;
    order = sh.order;
    log = sh.log;
    seats = sh.seats;
    phases = λ c. subst (λ p. IsShown p (w.phase c)) (sym (e c)) (sh.phases c);
    parked = λ n. sh.parked n ∙ staying_same (drops m.callers) (drops cs) (λ c. ap is_dropped (sym (e c))) (lot_at m.parking n);
    tracked = tracks sh.tracked;
    low = sh.low;
    unread = sh.unread;
  }

  -- a caller crashes while its reply waits
  pub shows_dropped : (cs : CallerPhases) (c : ℕ) (ph : CodePhase) (to : Phase) → Enters m.callers cs c ph → IsShown ph to → is_dropped ph ≡ true → IsUnread m.compacted to
      → Shows z (record w { phase = changed w.phase c to }) (record { order = a.order; parked = without c a.parked }) (record m { callers = cs })
  shows_dropped cs c ph to e own gone unread = record {
    capacity = sh.capacity;
    small = sh.small;
    frontier = sh.frontier;
    floor = sh.floor;
    place = sh.place;
    items = sh.items;
    order = sh.order;
    log = sh.log;
    seats = sh.seats;
    phases = entered_shown m.callers cs c ph e w.phase to own sh.phases;
    parked = λ n. waiters_without c n a.parked ∙ ap (staying (λ d. nat_eq d c)) (sh.parked n) ∙ staying_twice (λ d. nat_eq d c) (drops m.callers) (drops cs) (λ d. by d (compare d c)) (lot_at m.parking n);
    tracked = e.1 sh.tracked;
    low = sh.low;
    unread = changed_all (λ d x. IsUnread m.compacted x) w.phase c to unread (λ d ne. sh.unread d);
  }
    where
      or_true : (b : Bool) → cond b true true ≡ true
      or_true true = refl
      or_true false = refl

      or_false : (b : Bool) → cond b true false ≡ b
      or_false true = refl
      or_false false = refl

      by : (d : ℕ) → Compared d c → cond (drops m.callers d) true (nat_eq d c) ≡ drops cs d
      by d (same x b) = ap (λ t. cond (drops m.callers d) true t) b ∙ or_true (drops m.callers d) ∙ sym (ap (drops cs) x ∙ ap is_dropped (entered_own m.callers cs c ph e) ∙ gone)
      by d (other x b) = ap (λ t. cond (drops m.callers d) true t) b ∙ or_false (drops m.callers d) ∙ ap is_dropped (sym (entered_other m.callers cs c ph e d x))

  -- the holder of a shard
  pub shows_holder : (hs : List (Option ℕ)) (s : ℕ) (v : Option ℕ) → s < z.shards → hs ≡ set m.holders.items s v → ShowsSeats z (changed w.holder s v) hs
  shows_holder hs s v lt is = record {
    count = ap length is ∙ length-set m.holders.items s v ∙ sh.seats.count;
    same = λ i below. ap (λ l. get_or l i None) is ∙ by i below (compare i s);
  }
    where
      by : (i : ℕ) → i < z.shards → Compared i s → get_or (set m.holders.items s v) i None ≡ changed w.holder s v i
      by i below (same x b) = ap (λ j. get_or (set m.holders.items s v) j None) x ∙ get_or-set_same m.holders.items s v None (let c = sh.seats.count in omega arith) ∙ sym (ap (changed w.holder s v) x ∙ changed-same w.holder s v)
      by i below (other x b) = get_or-set_other m.holders.items s i v None x ∙ sh.seats.same i below ∙ sym (changed-other w.holder s v i x)

  pub released : (m' : Machine) (s : ℕ) (v : Option ℕ) → s < z.shards → m'.holders.items ≡ set m.holders.items s v → m' ≡ record m { holders = m'.holders } → Shows z (record w { holder = changed w.holder s v }) a m'
  released m' s v lt seats e = subst (λ x. Shows z (record w { holder = changed w.holder s v }) a x) (sym e) (record {
    capacity = sh.capacity;
    small = sh.small;
    frontier = sh.frontier;
    floor = sh.floor;
    place = sh.place;
    items = sh.items;
    order = sh.order;
    log = sh.log;
    phases = sh.phases;
    parked = sh.parked;
    tracked = sh.tracked;
    low = sh.low;
    unread = sh.unread;
    seats = shows_holder m'.holders.items s v lt seats;
  })

  -- one more is parked
  pub shows_parked : (lots : Parking) (saw c place : ℕ) → drops m.callers c ≡ false → ((n : ℕ) → lot_at lots n ≡ lot_at m.parking n ++ cond (nat_eq n saw) (record { caller = c; place = place } ∷ []) [])
      → (n : ℕ) → waiters_at n (a.parked ++ record { number = saw; caller = c; place = place } ∷ []) ≡ staying (drops m.callers) (lot_at lots n)
  shows_parked lots saw c place live e n = waiters_more n a.parked (record { number = saw; caller = c; place = place }) ∙ by (compare n saw)
    where
      own : List Waiter
      own = record { caller = c; place = place } ∷ []

      none : (xs : List Waiter) → xs ++ [] ≡ xs
      none [] = refl
      none (x ∷ xs) = ap (λ l. x ∷ l) (none xs)

      by : Compared n saw → waiters_at n a.parked ++ cond (nat_eq saw n) own [] ≡ staying (drops m.callers) (lot_at lots n)
      by (same x b) =
          ap (λ t. waiters_at n a.parked ++ cond t own []) (eq-eqb saw n (sym x)) ∙ ap (λ l. l ++ own) (sh.parked n)
          ∙ sym (staying_more (drops m.callers) (lot_at m.parking n) (record { caller = c; place = place }) live)
          ∙ ap (staying (drops m.callers)) (sym (e n ∙ ap (λ t. lot_at m.parking n ++ cond t own []) b))
      by (other x b) =
          ap (λ t. waiters_at n a.parked ++ cond t own []) (ne_eqb saw n (λ y. x (sym y))) ∙ none (waiters_at n a.parked) ∙ sh.parked n
          ∙ ap (staying (drops m.callers)) (sym (e n ∙ ap (λ t. lot_at m.parking n ++ cond t own []) b ∙ none (lot_at m.parking n)))

  -- those of a number are removed
  pub shows_passed : (lots : Parking) (number : ℕ) → ((n : ℕ) → lot_at lots n ≡ cond (nat_eq n number) [] (lot_at m.parking n))
      → (n : ℕ) → waiters_at n (rest number a.parked) ≡ staying (drops m.callers) (lot_at lots n)
  shows_passed lots number e n = by (compare n number)
    where
      by : Compared n number → waiters_at n (rest number a.parked) ≡ staying (drops m.callers) (lot_at lots n)
      by (same x b) = ap (λ i. waiters_at i (rest number a.parked)) x ∙ waiters_passed number a.parked ∙ ap (staying (drops m.callers)) (sym (e n ∙ ap (λ t. cond t [] (lot_at m.parking n)) b))
      by (other x b) = waiters_rest number n x a.parked ∙ sh.parked n ∙ ap (staying (drops m.callers)) (sym (e n ∙ ap (λ t. cond t [] (lot_at m.parking n)) b))

-- an event of a caller moves it from a phase to a phase
pub goes : (z : Size) (w v : World) (a : Arrangement) (m : Machine) (c : ℕ) (before after : Phase) → w.phase c ≡ before → v.phase c ≡ after → Shows z v (moved w.frontier c before after a) m → Shows z v (moved_by c w v a) m
goes z w v a m c before after b e h = subst (λ p. Shows z v (moved w.frontier c p (v.phase c) a) m) (sym b) (subst (λ p. Shows z v (moved w.frontier c before p a) m) (sym e) h)
