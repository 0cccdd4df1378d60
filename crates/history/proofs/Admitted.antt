-- CallerPhases that are named for the first time, and the place of the next event.
use Rattle.std.proofs.Common.{◌≡◌, ℕ, suc, ◌+◌, true, false, cond, Option, Some, None, refl, sym, ap, ◌∙◌, subst, nat_eq, add-one, is_some, option_map}
use Rattle.requests.specs.declared.reply.Reply.{Reply}
use Rattle.history.specs.declared.callers.CallerPhases.{CallerPhases}
use Rattle.interleavings.specs.declared.event.Event.{Event}
use Rattle.history.specs.declared.machine.Machine.{Machine}
use Rattle.history.specs.declared.phase.Phase.TheVariants as code
use Rattle.interleavings.specs.declared.event.Event.TheVariants as event
use Rattle.interleavings.specs.Order.{Arrangement, arranged}
use Rattle.interleavings.specs.Step.{happens, later}
use Rattle.interleavings.specs.World.{Size, World}
use Rattle.history.specs.Replayed.{Does, Enters, IsAnswer, IsTracked, Keeps, Same, Shows, Stays, Steps, Thins, is_idle, named_phase, or_idle, phase_at}
use Rattle.interleavings.proofs.Basics.{Compared, same, other, compare}
use Rattle.history.proofs.Showing.{entered_own, entered_other, shows_named}

pub does_after : (e : Event) (m n k : Machine) → Keeps m n → Does e n k → Does e m k
unfolding Keeps Does
does_after e m n k keeps does = λ z w a sh facts. does z w a (keeps.1 z w a sh) facts

pub stays_twice : (m n k : Machine) → Stays m n → Stays n k → Stays m k
unfolding Keeps Stays
stays_twice m n k first second = ((second.0.0 ∙ first.0.0, λ z w a sh. second.0.1 z w a (first.0.1 z w a sh)), λ c. second.1 c ∙ first.1 c)

-- a caller that is named for the first time
pub admitted_same : (old new : CallerPhases) (c : ℕ) → named_phase old c ≡ None → Enters old new c code.Idle → (d : ℕ) → phase_at new d ≡ phase_at old d
admitted_same old new c none e d = by (compare d c)
  where
    by : Compared d c → phase_at new d ≡ phase_at old d
    by (same x b) = ap (phase_at new) x ∙ entered_own old new c code.Idle e ∙ sym (ap (phase_at old) x ∙ ap or_idle none)
    by (other x b) = entered_other old new c code.Idle e d x

pub admits : (m m' : Machine) (c : ℕ) → named_phase m.callers c ≡ None → Enters m.callers m'.callers c code.Idle → m' ≡ record m { callers = m'.callers } → Keeps m m'
unfolding Keeps
admits m m' c none entering e = (ap (λ (x : Machine). x.compacted) e, λ z w a sh. subst (λ x. Shows z w a x) (sym e) (shows_named z w a m sh m'.callers (admitted_same m.callers m'.callers c none entering) entering.1))

-- a caller was admitted, its event is refused, and the caller is forgotten
pub dismisses : (m l n k : Machine) (c : ℕ) → named_phase m.callers c ≡ None → Enters m.callers l.callers c code.Idle → l ≡ record m { callers = l.callers } → Stays l n
    → ((d : ℕ) → named_phase k.callers d ≡ cond (nat_eq d c) None (named_phase n.callers d)) → (is_idle (phase_at n.callers c) ≡ true → IsTracked n.callers → IsTracked k.callers) → k ≡ record n { callers = k.callers } → Stays m k
unfolding Keeps Stays
dismisses m l n k c none entering l_is stays gone tracks k_is = (
  (
    ap (λ (x : Machine). x.compacted) k_is ∙ stays.0.0 ∙ admitted.0,
    λ z w a sh. subst (λ x. Shows z w a x) (sym k_is) (shows_named z w a n (stays.0.1 z w a (admitted.1 z w a sh)) k.callers (λ d. alike d (compare d c)) (tracks (ap is_idle now_idle))),
  ),
  λ d. known d (compare d c),
)
  where
    admitted : Keeps m l
    admitted = admits m l c none entering l_is

    now_idle : phase_at n.callers c ≡ code.Idle
    now_idle = ap or_idle (stays.1 c) ∙ entered_own m.callers l.callers c code.Idle entering

    alike : (d : ℕ) → Compared d c → phase_at k.callers d ≡ phase_at n.callers d
    alike d (same x b) = ap or_idle (gone d ∙ ap (λ t. cond t None (named_phase n.callers d)) b) ∙ sym (ap (phase_at n.callers) x ∙ now_idle)
    alike d (other x b) = ap or_idle (gone d ∙ ap (λ t. cond t None (named_phase n.callers d)) b)

    known : (d : ℕ) → Compared d c → named_phase k.callers d ≡ named_phase m.callers d
    known d (same x b) = gone d ∙ ap (λ t. cond t None (named_phase n.callers d)) b ∙ sym (ap (named_phase m.callers) x ∙ none)
    known d (other x b) = gone d ∙ ap (λ t. cond t None (named_phase n.callers d)) b ∙ stays.1 d ∙ entering.0 d ∙ ap (λ t. cond t (Some code.Idle) (named_phase m.callers d)) b

-- the order does not depend on the place of the event
placed : (w v : World) (a : Arrangement) (e : Event) → arranged w e (later v) a ≡ arranged w e v a
placed w v a (event.Call c r) = refl
placed w v a (event.Check c) = refl
placed w v a (event.Reserve c) = refl
placed w v a (event.Publish c) = refl
placed w v a event.Raise = refl
placed w v a (event.Read c) = refl
placed w v a (event.ReadAt c) = refl
placed w v a (event.Compact c) = refl
placed w v a (event.Part c) = refl
placed w v a (event.Reply c) = refl
placed w v a (event.Crash c) = refl

later_shown : (z : Size) (v : World) (a : Arrangement) (n : Machine) → Shows z v a n → Shows z (later v) a (record n { now_at = n.now_at + 1 })
later_shown z v a n h = record {
  capacity = h.capacity;
  small = h.small;
  frontier = h.frontier;
  floor = h.floor;
  items = h.items;
  order = h.order;
  log = h.log;
  seats = h.seats;
  phases = h.phases;
  parked = h.parked;
  tracked = h.tracked;
  low = h.low;
  unread = h.unread;
  place = add-one n.now_at ∙ ap suc h.place;
}

-- the event has its place, and the shards are compacted
pub steps_by : (e : Event) (m n k l : Machine) → Does e m n → k ≡ record n { now_at = n.now_at + 1 } → Thins k l → Steps e m l
unfolding Does Steps Thins
steps_by e m n k l does is thins = λ z w a sh facts.
    let v : World = happens z w e in
    thins z (later v) (arranged w e (later v) a) (subst (λ x. Shows z (later v) (arranged w e (later v) a) x) (sym is)
    (subst (λ b. Shows z (later v) b (record n { now_at = n.now_at + 1 })) (sym (placed w v a e)) (later_shown z v (arranged w e v a) n (does z w a sh facts))))

-- the reply to a caller is that of the trace
pub answer_same : (e : Event) (m n k : Machine) (delivered : Option Reply) → k.items.items ≡ n.items.items → IsAnswer e m n delivered → IsAnswer e m k delivered
answer_same (event.Reply c) m n k delivered items answer = items ∙ answer
answer_same e m n k delivered items answer = answer

pub same_stays : (m m' : Machine) → Same m.callers m'.callers → m' ≡ record m { callers = m'.callers } → Stays m m'
unfolding Keeps Stays
same_stays m m' names e = ((ap (λ (x : Machine). x.compacted) e, λ z w a sh. subst (λ x. Shows z w a x) (sym e) (shows_named z w a m sh m'.callers (λ c. ap or_idle (names.0 c)) names.1)), names.0)

pub unnamed : {A B : Type 0} (f : A → B) (o : Option A) (n : Option B) → option_map f o ≡ n → is_some o ≡ false → n ≡ None
unnamed f None n e i = sym e
unnamed f (Some x) n e i = absurd cc
