-- The read of a shard, and a crash, do what the definition says.
use Rattle.std.proofs.Common.{◌≡◌, ℕ, ◌-◌, ◌<◌, List, [], ◌∷◌, length, set, Some, None, refl, sym, ap, ◌∙◌, subst, arith}
use Rattle.objects.specs.ShardOf.{shard_of}
use Rattle.plain_store.specs.Store.{Objects}
use Rattle.history.specs.declared.callers.CallerPhases.{CallerPhases}
use Rattle.interleavings.specs.declared.event.Event.TheVariants.{Crash, Part}
use Rattle.history.specs.declared.machine.Machine.{Machine}
use Rattle.history.specs.declared.phase.Phase.{Phase as CodePhase}
use Rattle.history.specs.declared.phase.Phase.TheVariants as code
use Rattle.history.specs.declared.phase.Writing.{Writing as CodeWriting}
use Rattle.interleavings.specs.Order.{Arrangement, moved, moved_by}
use Rattle.interleavings.specs.Step.{crashed, enters, part, with_part}
use Rattle.interleavings.specs.World.{Phase, Idle, Called, Holding, Drawn, Waiting, Reading, Gone, Size, World, changed, shard}
use Rattle.history.specs.Replayed.{Does, Enters, IsShown, IsUnread, Shows, gone_phase, holding_in, is_dropped, parted, phase_at, draw_of, writing_of}
use Rattle.interleavings.proofs.Basics.{Compared, same, other, compare, changed-same}
use Rattle.history.proofs.Showing.{entered_own, entered_other, released, shows_dropped, shows_entered, shows_named}
use Rattle.history.proofs.Stepping.{holding_code, holding_is, nothing, steps}

-- a caller that enters the phase that it has
pub same_phases : (old new : CallerPhases) (c : ℕ) → Enters old new c (phase_at old c) → (d : ℕ) → phase_at new d ≡ phase_at old d
same_phases old new c e d = by (compare d c)
  where
    by : Compared d c → phase_at new d ≡ phase_at old d
    by (same x b) = ap (phase_at new) x ∙ entered_own old new c (phase_at old c) e ∙ ap (phase_at old) (sym x)
    by (other x b) = entered_other old new c (phase_at old c) e d x

module _ (z : Size) (w : World) (a : Arrangement) (m : Machine) (sh : Shows z w a m) (c : ℕ) (cs : CallerPhases) where
  abbrev entered_machine : Machine
  entered_machine = record m { callers = cs }

  part_stays : (p : CodePhase) → phase_at m.callers c ≡ p → parted p ≡ p → Enters m.callers cs c (parted p) → part z w c (w.phase c) ≡ w → Shows z (part z w c (w.phase c)) (moved_by c w (part z w c (w.phase c)) a) entered_machine
  part_stays p at stays e is = nothing z w c a entered_machine _ is (shows_named z w a m sh cs (same_phases m.callers cs c (subst (λ x. Enters m.callers cs c x) (stays ∙ sym at) e)) e.1)

  part_reads : (n place : ℕ) (r : Rattle.requests.specs.declared.request.Request.Request) (left : ℕ) (parts : List ℕ) (found : Objects) → phase_at m.callers c ≡ code.Reading n place r left → w.phase c ≡ Reading n place r parts found → length parts ≡ left
      → Enters m.callers cs c (code.Reading n place r (left - 1)) → Shows z (part z w c (w.phase c)) (moved_by c w (part z w c (w.phase c)) a) entered_machine
  part_reads n place r left [] found at is count e =
      part_stays (code.Reading n place r left) at (ap (λ i. code.Reading n place r i) (omega arith)) e (ap (part z w c) is)
  part_reads n place r left (s ∷ parts) found at is count e =
      let to : Phase = Reading n place r parts (with_part z w.log n r s found) in
      steps z w c a entered_machine (enters w c to) _ (Reading n place r (s ∷ parts) found) to (ap (part z w c) is) is (changed-same w.phase c to)
      (shows_entered z w a m sh cs c (code.Reading n place r (left - 1)) to e (parts, (with_part z w.log n r s found, (refl, omega arith))) (sym (ap is_dropped at)) (subst (IsUnread m.compacted) is (sh.unread c)))

  part_by : (p : CodePhase) → phase_at m.callers c ≡ p → IsShown p (w.phase c) → Enters m.callers cs c (parted p) → Shows z (part z w c (w.phase c)) (moved_by c w (part z w c (w.phase c)) a) entered_machine
  part_by code.Idle at h e = part_stays code.Idle at refl e (ap (part z w c) h)
  part_by (code.Called p r) at h e = part_stays (code.Called p r) at refl e (ap (part z w c) h)
  part_by (code.Holding t) at h e = part_stays (code.Holding t) at refl e (ap (part z w c) h)
  part_by (code.Drawn d) at h e = part_stays (code.Drawn d) at refl e (ap (part z w c) h)
  part_by (code.Waiting s p r) at h e = part_stays (code.Waiting s p r) at refl e (ap (part z w c) h)
  part_by (code.Reading n p r left) at h e = part_reads n p r left h.0 h.1.0 at h.1.1.0 h.1.1.1 e
  part_by code.Gone at h e = part_stays code.Gone at refl e (ap (part z w c) h)
  part_by (code.Left d) at h e = part_stays (code.Left d) at refl e (ap (part z w c) h)
  part_by code.Dropped at h e = part_stays code.Dropped at refl e (ap (part z w c) h)

  crash_to : (p : CodePhase) → phase_at m.callers c ≡ p → (before to : Phase) → w.phase c ≡ before → Enters m.callers cs c (gone_phase p) → IsShown (gone_phase p) to → is_dropped (gone_phase p) ≡ is_dropped p
      → crashed z w c before ≡ enters w c to → moved w.frontier c before to a ≡ a → IsUnread m.compacted to → Shows z (crashed z w c (w.phase c)) (moved_by c w (crashed z w c (w.phase c)) a) entered_machine
  crash_to p at before to is e own stays goes_to arranged unread =
      steps z w c a entered_machine (enters w c to) _ before to (ap (crashed z w c) is ∙ goes_to) is (changed-same w.phase c to)
      (subst (λ b. Shows z (enters w c to) b entered_machine) (sym arranged) (shows_entered z w a m sh cs c (gone_phase p) to e own (stays ∙ sym (ap is_dropped at)) unread))

  crash_stays : (p : CodePhase) → phase_at m.callers c ≡ p → gone_phase p ≡ p → Enters m.callers cs c (gone_phase p) → crashed z w c (w.phase c) ≡ w → Shows z (crashed z w c (w.phase c)) (moved_by c w (crashed z w c (w.phase c)) a) entered_machine
  crash_stays p at stays e is = nothing z w c a entered_machine _ is (shows_named z w a m sh cs (same_phases m.callers cs c (subst (λ x. Enters m.callers cs c x) (stays ∙ sym at) e)) e.1)

  crash_by : (p : CodePhase) → phase_at m.callers c ≡ p → holding_in p ≡ None → IsShown p (w.phase c) → Enters m.callers cs c (gone_phase p) → Shows z (crashed z w c (w.phase c)) (moved_by c w (crashed z w c (w.phase c)) a) entered_machine
  crash_by code.Idle at denies h e = crash_to code.Idle at Idle (Gone None) h e refl refl refl refl tt
  crash_by (code.Called p r) at denies h e = crash_to (code.Called p r) at (Called p r) (Gone None) h e refl refl refl refl tt
  crash_by (code.Holding t) at denies h e = absurd cc
  crash_by (code.Drawn d) at denies h e = crash_to (code.Drawn d) at (Drawn (draw_of d)) (Gone (Some (draw_of d))) h e refl refl refl refl tt
  crash_by (code.Waiting s p r) at denies h e =
      steps z w c a entered_machine (enters w c (Gone None)) _ (Waiting s p r) (Gone None) (ap (crashed z w c) h) h (changed-same w.phase c (Gone None)) (shows_dropped z w a m sh cs c code.Dropped (Gone None) e refl refl tt)
  crash_by (code.Reading n p r left) at denies h e = crash_to (code.Reading n p r left) at (Reading n p r h.0 h.1.0) (Gone None) h.1.1.0 e refl refl refl refl tt
  crash_by code.Gone at denies h e = crash_stays code.Gone at refl e (ap (crashed z w c) h)
  crash_by (code.Left d) at denies h e = crash_stays (code.Left d) at refl e (ap (crashed z w c) h)
  crash_by code.Dropped at denies h e = crash_stays code.Dropped at refl e (ap (crashed z w c) h)

pub part_done : (m m' : Machine) (c : ℕ) → Enters m.callers m'.callers c (parted (phase_at m.callers c)) → m' ≡ record m { callers = m'.callers } → Does (Part c) m m'
unfolding Does
part_done m m' c entering e = λ z w a sh facts.
    subst (λ x. Shows z (part z w c (w.phase c)) (moved_by c w (part z w c (w.phase c)) a) x) (sym e) (part_by z w a m sh c m'.callers (phase_at m.callers c) refl (sh.phases c) entering)

pub crash_done : (m m' : Machine) (c : ℕ) → holding_in (phase_at m.callers c) ≡ None → Enters m.callers m'.callers c (gone_phase (phase_at m.callers c)) → m' ≡ record m { callers = m'.callers } → Does (Crash c) m m'
unfolding Does
crash_done m m' c denies entering e = λ z w a sh facts.
    subst (λ x. Shows z (crashed z w c (w.phase c)) (moved_by c w (crashed z w c (w.phase c)) a) x) (sym e) (crash_by z w a m sh c m'.callers (phase_at m.callers c) refl denies (sh.phases c) entering)

pub crash_held : (m m' : Machine) (c s : ℕ) (t : CodeWriting) → holding_in (phase_at m.callers c) ≡ Some t → s ≡ shard_of t.key (length m.shards.items) → s < length m.holders.items → m'.holders.items ≡ set m.holders.items s None
    → Enters m.callers m'.callers c (gone_phase (phase_at m.callers c)) → m' ≡ record m { holders = m'.holders; callers = m'.callers } → Does (Crash c) m m'
unfolding Does shard
crash_held m m' c s t phase_is is lt seats entering e = λ z w a sh facts.
    let here : w.phase c ≡ Holding (writing_of t) = holding_is (phase_at m.callers c) (w.phase c) t phase_is (sh.phases c) in
    let own : s ≡ shard z t.key = is ∙ ap (shard_of t.key) sh.log.count in
    let u : World = record w { holder = changed w.holder s None; phase = changed w.phase c (Gone None) } in
    let p = holding_code (phase_at m.callers c) t phase_is in
    let n : Machine = record m { callers = m'.callers } in
    let shown = shows_entered z w a m sh m'.callers c code.Gone (Gone None) (subst (λ x. Enters m.callers m'.callers c (gone_phase x)) p entering) refl (sym (ap is_dropped p)) tt in
    steps z w c a m' u _ (Holding (writing_of t)) (Gone None)
    (ap (crashed z w c) here ∙ ap (λ i. let x : World = record w { holder = changed w.holder i None; phase = changed w.phase c (Gone None) } in x) (sym own)) here (changed-same w.phase c (Gone None))
    (released z (record w { phase = changed w.phase c (Gone None) }) a n shown m' s None (let k = sh.seats.count in omega arith) seats e)
