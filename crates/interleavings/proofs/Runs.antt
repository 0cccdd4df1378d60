-- Every run has a legal order.
use Rattle.std.proofs.Common.{ℕ, ◌<◌, List, [], ◌∷◌, refl, sym, subst, arith}
use Rattle.interleavings.specs.declared.event.Event.{Event}
use Rattle.interleavings.specs.declared.event.Event.TheVariants.{Call, Check, Reserve, Publish, Raise, Read, ReadAt, Compact, Part, Crash}
use Rattle.interleavings.specs.declared.event.Event.TheVariants as event
use Rattle.interleavings.specs.World.{Size, World, opening}
use Rattle.interleavings.specs.Step.{step}
use Rattle.interleavings.specs.Order.{Arrangement, arranged, arrangement, beginning, moved, moved_by, order}
use Rattle.interleavings.specs.Trace.{after, trace}
use Rattle.interleavings.specs.Linearization.{IsLegal}
use Rattle.interleavings.specs.Linearizable.{IsLinearizable}
use Rattle.interleavings.proofs.Invariant.{Ghost, Invariant, New}
use Rattle.interleavings.proofs.Arranged.{Holds, Moves, Shows}
use Rattle.interleavings.proofs.Quiets.{call_goes, check_goes, compact_goes, crash_goes, part_goes, read_at_goes, read_goes, reply_goes}
use Rattle.interleavings.proofs.Writes.{publish_goes, reserve_goes}
use Rattle.interleavings.proofs.Raises.{raise_goes}
use Rattle.interleavings.proofs.Forward.{legal}

-- after a caller's event
by_caller : (z : Size) (w : World) (a : Arrangement) (c : ℕ) (v : World) → Moves z w c (w.phase c) a v → Holds z v (moved_by c w v a)
by_caller z w a c v m = subst (λ ph. Holds z v (moved w.frontier c (w.phase c) ph a)) (sym m.entered) m.holds

-- each event keeps the invariant
pub step_goes : (z : Size) (w : World) (g : Ghost) (a : Arrangement) → 0 < z.shards → Invariant z w g → Shows g a → (e : Event) → Holds z (step z w e) (arranged w e (step z w e) a)
step_goes z w g a some iv sh (Call c q) = by_caller z w a c _ (call_goes z w g iv a sh c q (w.phase c) refl (iv.opens c))
step_goes z w g a some iv sh (Check c) = by_caller z w a c _ (check_goes z w g iv a sh c (w.phase c) refl (iv.phases c) (iv.opens c))
step_goes z w g a some iv sh (Reserve c) = by_caller z w a c _ (reserve_goes z w g iv a sh c (w.phase c) refl (iv.phases c) (iv.opens c))
step_goes z w g a some iv sh (Publish c) = by_caller z w a c _ (publish_goes z w g iv a sh c (w.phase c) refl (iv.phases c) (iv.opens c))
step_goes z w g a some iv sh Raise = raise_goes z w g iv a sh (w.log w.frontier) refl
step_goes z w g a some iv sh (Read c) = by_caller z w a c _ (read_goes z w g iv a sh c some (w.phase c) refl (iv.phases c) (iv.opens c))
step_goes z w g a some iv sh (ReadAt c) = by_caller z w a c _ (read_at_goes z w g iv a sh c some (w.phase c) refl (iv.phases c) (iv.opens c))
step_goes z w g a some iv sh (Compact c) = by_caller z w a c _ (compact_goes z w g iv a sh c (w.phase c) refl (iv.phases c) (iv.opens c))
step_goes z w g a some iv sh (Part c) = by_caller z w a c _ (part_goes z w g iv a sh c (w.phase c) refl (iv.phases c) (iv.opens c))
step_goes z w g a some iv sh (event.Reply c) = by_caller z w a c _ (reply_goes z w g iv a sh c (w.phase c) refl (iv.phases c) (iv.opens c))
step_goes z w g a some iv sh (Crash c) = by_caller z w a c _ (crash_goes z w g iv a sh c (w.phase c) refl (iv.phases c) (iv.opens c))

pub run_goes : (z : Size) → 0 < z.shards → (events : List Event) (w : World) (a : Arrangement) → Holds z w a → Holds z (after z w events) (arrangement z w a events)
run_goes z some [] w a h = h
run_goes z some (e ∷ es) w a h = run_goes z some es (step z w e) (arranged w e (step z w e) a) (step_goes z w h.0 a some h.1.0 h.1.1 e)

pub begins : (z : Size) → Holds z opening beginning
begins z = (
  record { fate = λ p. New; taker = λ i. 0; settled = λ k. 0; jobs = []; parked = [] },
  (
    record {
      within = omega arith;
      room = omega arith;
      standing = omega arith;
      above = λ i le. refl;
      bound = λ k. omega arith;
      state = refl;
      good = record {
        listed = λ j m. absurd m;
        once = tt;
        in_time = tt;
        known = λ p q st e. absurd cc;
        answered = λ at p r a. absurd a.replied;
        dated = λ i m. absurd m;
        history = record { rising = tt; paired = λ at c r m. absurd m; sequential = λ p q c r s m n lt. absurd m };
      };
      phases = λ c. tt;
      opens = λ c p r m. absurd m;
      writings = λ i t e. absurd cc;
      asides = λ p m. absurd m;
      apart = tt;
    },
    record { order = refl; parked = refl },
  ),
)

pub orders_are_legal : (z : Size) (events : List Event) → 0 < z.shards → IsLegal z.capacity (trace z events) (order z events)
orders_are_legal z events some =
    let h = run_goes z some events opening beginning (begins z) in
    let w = after z opening events in
    subst (λ o. IsLegal z.capacity w.trace o) h.1.1.order (legal z w.trace w.now h.0.jobs h.0.fate h.1.0.good)

pub runs_are_linearizable : (z : Size) (events : List Event) → 0 < z.shards → IsLinearizable z events
runs_are_linearizable z events some =
    let h = run_goes z some events opening beginning (begins z) in
    record {
      history = h.1.0.good.history;
      order = order z events;
      legal = orders_are_legal z events some;
    }
