-- The shards are compacted to the least number that is read: what a machine shows stays.
use Rattle.std.proofs.Common.{◌≡◌, ℕ, ◌<◌, ◌≤◌, true, length, refl, sym, ap, ◌∙◌, subst, arith, nat_eq, true≢false}
use Rattle.history.specs.declared.machine.Machine.{Machine}
use Rattle.history.specs.declared.phase.Phase.{Phase as CodePhase}
use Rattle.history.specs.declared.phase.Phase.TheVariants as code
use Rattle.history.specs.Begun.{IsLeastOf}
use Rattle.interleavings.specs.Order.{Arrangement}
use Rattle.history.specs.Replayed.{AreCompacted, IsShown, IsUnread, Shows, Thins, phase_at, reads_at, shard_at}
use Rattle.interleavings.specs.Spared.{IsLeastRead, IsSpared}
use Rattle.interleavings.specs.World.{Phase, Reading, Size, World}
use Rattle.interleavings.proofs.Basics.{Compared, same, other, compare, eq_self}
use Rattle.history.proofs.Mirrors.{floor_raised, mirrors_raised}

-- what is at most the number of each code phase that reads, is at most that of its phase
unread_shown : (low : ℕ) (p : CodePhase) (ph : Phase) → IsShown p ph → ((n : ℕ) → reads_at n p ≡ true → low ≤ n) → IsUnread low ph
unread_shown low (code.Reading n p r left) ph h f = subst (IsUnread low) (sym h.1.1.0) (f n (eq_self n))
unread_shown low _ ph h f = subst (IsUnread low) (sym h) tt

number_is : {m n : ℕ} → Compared m n → nat_eq m n ≡ true → m ≡ n
number_is (same e b) is = e
number_is (other ne b) is = absurd (true≢false (sym is ∙ b))

shown_unread : (low n : ℕ) (p : CodePhase) (ph : Phase) → IsShown p ph → reads_at n p ≡ true → IsUnread low ph → low ≤ n
shown_unread low n (code.Reading m p r left) ph h e unread = let le : low ≤ m = subst (IsUnread low) h.1.1.0 unread in let equal = number_is (compare m n) e in omega arith
shown_unread low n _ ph h e unread = absurd cc

spared_unread : (w : World) (k : ℕ) → IsSpared w k → (c : ℕ) → IsUnread k (w.phase c)
spared_unread w k spared c = by (w.phase c) refl
  where
    by : (ph : Phase) → w.phase c ≡ ph → IsUnread k ph
    by (Reading n p r parts found) at = spared.reads c n p r parts found at
    by ph at = tt

unread_spared : (w : World) (k : ℕ) → k ≤ w.floor → ((c : ℕ) → IsUnread k (w.phase c)) → IsSpared w k
unread_spared w k low unread = record { floor = low; reads = λ c n p r parts found at. subst (IsUnread k) at (unread c) }

module _ (m : Machine) (least : ℕ) (is : IsLeastOf m.callers.open_reads m.floor least) where
  module _ (z : Size) (w : World) (a : Arrangement) (sh : Shows z w a m) where
    unread : (c : ℕ) → IsUnread least (w.phase c)
    unread c = unread_shown least (phase_at m.callers c) (w.phase c) (sh.phases c) (λ n e. is.reads n c (sh.tracked n c ∙ e))

    low : least ≤ w.floor
    low = let le = is.low in let floor = sh.floor in omega arith

    least_read : IsLeastRead w least
    least_read = record {
      spared = unread_spared w least low unread;
      greatest = λ k spared. is.greatest k (let le = spared.floor in let floor = sh.floor in omega arith)
          (λ n c e. shown_unread k n (phase_at m.callers c) (w.phase c) (sh.phases c) (sym (sh.tracked n c) ∙ e) (spared_unread w k spared c));
    }

  -- the least has not risen
  pub thins_not : least ≤ m.compacted → Thins m m
  unfolding Thins
  thins_not le = λ z w a sh.
      let l = least_read z w a sh in
      let ge = l.greatest m.compacted (unread_spared w m.compacted sh.low sh.unread) in
      let equal : least ≡ m.compacted = omega arith in
      (sh, subst (IsLeastRead w) equal l)

  pub thins_by : (m' : Machine) → m.compacted < least → AreCompacted least (length m.shards.items) m.shards.items m'.shards.items → m' ≡ record m { shards = m'.shards; compacted = least } → Thins m m'
  unfolding Thins
  thins_by m' lt compacted e = λ z w a sh. (
    subst (λ x. Shows z w a x) (sym e) (record {
      capacity = sh.capacity;
      small = sh.small;
      frontier = sh.frontier;
      floor = sh.floor;
      place = sh.place;
      items = sh.items;
      order = sh.order;
      seats = sh.seats;
      phases = sh.phases;
      parked = sh.parked;
      tracked = sh.tracked;
      low = low z w a sh;
      unread = unread z w a sh;
      log = record {
        drawn_is = sh.log.drawn_is;
        filled = sh.log.filled;
        count = compacted.count ∙ sh.log.count;
        mirrors = λ s below. mirrors_raised _ _ least (compacted.each s (inside z w a sh s below)) (under z w a sh s below) (sh.log.mirrors s below);
        floors = λ s below. floor_raised _ _ least (compacted.each s (inside z w a sh s below)) (under z w a sh s below);
      };
    }),
    subst (IsLeastRead w) (sym (ap (λ (x : Machine). x.compacted) e)) (least_read z w a sh),
  )
    where
      inside : (z : Size) (w : World) (a : Arrangement) → Shows z w a m → (s : ℕ) → s < z.shards → s < length m.shards.items
      inside z w a sh s below = let count = sh.log.count in omega arith

      under : (z : Size) (w : World) (a : Arrangement) → Shows z w a m → (s : ℕ) → s < z.shards → (shard_at m.shards.items s).floor ≤ least
      under z w a sh s below = let floor = sh.log.floors s below in omega arith
