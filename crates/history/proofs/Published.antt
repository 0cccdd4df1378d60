-- The publication of a write does what the definition says.
use Rattle.std.proofs.Common.{◌≡◌, ℕ, suc, ◌+◌, ◌<◌, List, length, set, Some, None, refl, sym, ap, ◌∙◌, subst, arith, add-one, get_or-set_same}
use Rattle.std.proofs.lemmas.Option.{same_Some}
use Rattle.objects.specs.ShardOf.{shard_of}
use Rattle.requests.specs.Change.{change_object, kept, version_of}
use Rattle.requests.specs.declared.version.Version.{Version}
use Rattle.versions.specs.Records.{IsAbove, version_at}
use Rattle.versions.specs.Shard as versions
use Rattle.versions.specs.Shard.{Shard}
use Rattle.interleavings.specs.declared.event.Event.TheVariants.{Publish}
use Rattle.history.specs.declared.machine.Machine.{Machine}
use Rattle.history.specs.declared.phase.Draw.{Draw as CodeDraw}
use Rattle.history.specs.declared.phase.Phase.{Phase as CodePhase}
use Rattle.history.specs.declared.phase.Phase.TheVariants as code
use Rattle.interleavings.specs.Facts.{Facts, draw_in, writing_in}
use Rattle.interleavings.specs.Log.{Writing}
use Rattle.interleavings.specs.Order.{Arrangement, moved_by}
use Rattle.interleavings.specs.Step.{published, accepted_reply}
use Rattle.interleavings.specs.World.{Phase, Draw, Drawn, Waiting, Gone, Size, World, changed, shard}
use Rattle.history.specs.Replayed.{Does, Enters, Fills, IsShown, IsUnread, Keeps, Shows, Stands, Stays, draw_of, drawn_in, is_dropped, phase_at, published_phase, shard_at}
use Rattle.interleavings.proofs.Basics.{changed-same}
use Rattle.history.proofs.Mirrors.{above_draw}
use Rattle.history.proofs.Showing.{shows_entered}
use Rattle.history.proofs.Stepping.{nothing, steps}

-- a caller with a draw is in one of two phases
pub data IsDrawing (p : CodePhase) (ph : Phase) (d : CodeDraw) : Type 0 where
  draws : p ≡ code.Drawn d → ph ≡ Drawn (draw_of d) → IsDrawing p ph d
  left : p ≡ code.Left d → ph ≡ Gone (Some (draw_of d)) → IsDrawing p ph d

pub drawing : (p : CodePhase) (ph : Phase) (d : CodeDraw) → drawn_in p ≡ Some d → IsShown p ph → IsDrawing p ph d
drawing (code.Drawn x) ph d e h = let i : x ≡ d = same_Some _ _ e in draws (ap code.Drawn i) (h ∙ ap (λ y. Drawn (draw_of y)) i)
drawing (code.Left x) ph d e h = let i : x ≡ d = same_Some _ _ e in left (ap code.Left i) (h ∙ ap (λ y. Gone (Some (draw_of y))) i)
drawing _ ph d e h = absurd cc

pub draw_is : (p : CodePhase) (ph : Phase) (d : CodeDraw) → IsDrawing p ph d → draw_in ph ≡ Some (draw_of d)
draw_is p ph d (draws a b) = ap draw_in b
draw_is p ph d (left a b) = ap draw_in b

pub writing_is : (p : CodePhase) (ph : Phase) (d : CodeDraw) → IsDrawing p ph d → writing_in ph ≡ Some (draw_of d).writing
writing_is p ph d (draws a b) = ap writing_in b
writing_is p ph d (left a b) = ap writing_in b

-- a number that is drawn is within the capacity
pub drawn_small : (m : Machine) (c : ℕ) (d : CodeDraw) → Stands m → drawn_in (phase_at m.callers c) ≡ Some d → (d.index < 1048576) × (d.index < length m.places.items)
drawn_small m c d st e =
    let w : World = st.1.0 in
    let sh : Shows st.0 w st.1.1.0 m = st.1.1.1.0 in
    let facts : Facts st.0 w = st.1.1.1.1 in
    let below = facts.below c (draw_of d) (draw_is (phase_at m.callers c) (w.phase c) d (drawing (phase_at m.callers c) (w.phase c) d e (sh.phases c))) in
    let drawn = sh.log.drawn_is in
    let room = facts.room in
    let small = sh.small in
    (omega arith, omega arith)

-- what is pushed is above all records of its shard
pub drawn_above : (m : Machine) (c : ℕ) (d : CodeDraw) (s : ℕ) → Stands m → drawn_in (phase_at m.callers c) ≡ Some d → s ≡ shard_of d.writing.key (length m.shards.items) → s < length m.shards.items → IsAbove (shard_at m.shards.items s).records (d.index + 1)
unfolding shard
drawn_above m c d s st e is lt =
    let z : Size = st.0 in
    let w : World = st.1.0 in
    let sh : Shows z w st.1.1.0 m = st.1.1.1.0 in
    let facts : Facts z w = st.1.1.1.1 in
    let own : shard z d.writing.key ≡ s = ap (shard_of d.writing.key) (sym sh.log.count) ∙ sym is in
    let below : s < z.shards = (let k = sh.log.count in omega arith) in
    let at = draw_is (phase_at m.callers c) (w.phase c) d (drawing (phase_at m.callers c) (w.phase c) d e (sh.phases c)) in
    subst (λ n. IsAbove (shard_at m.shards.items s).records n) (sym (add-one d.index)) (above_draw (sh.log.mirrors s below) (draw_of d) own (facts.latest c (draw_of d) at))

-- nothing is published of a caller without a draw
module _ (z : Size) (w : World) (c : ℕ) where
  not_drawn : (p : CodePhase) (ph : Phase) → drawn_in p ≡ None → IsShown p ph → published z w c ph ≡ w
  not_drawn (code.Drawn d) ph e h = absurd cc
  not_drawn (code.Reading n p q l) ph e h = ap (published z w c) h.1.1.0
  not_drawn (code.Left d) ph e h = absurd cc
  not_drawn _ ph e h = ap (published z w c) h

pub publish_nothing : (m : Machine) (c : ℕ) → drawn_in (phase_at m.callers c) ≡ None → Does (Publish c) m m
unfolding Does
publish_nothing m c none = λ z w a sh facts. nothing z w c a m _ (not_drawn z w c (phase_at m.callers c) (w.phase c) none (sh.phases c)) sh

-- room is made, the caller enters its next phase, and the write is filled in
pub publish_done : (m n k m' : Machine) (c s : ℕ) (d : CodeDraw) (v : Version) → drawn_in (phase_at m.callers c) ≡ Some d → s ≡ shard_of d.writing.key (length m.shards.items) → Stays m n → n.callers ≡ m.callers
    → Enters n.callers k.callers c (published_phase (phase_at n.callers c)) → k ≡ record n { callers = k.callers } → v ≡ version_of d.writing.change (d.index + 1) → Fills s d.index d.writing.place v k m' → Does (Publish c) m m'
unfolding Does Fills Keeps Stays shard
publish_done m n k m' c s d v phase_is is stays same entering k_is v_is fills = λ z w a sh facts.
    by z w a sh facts (drawing (phase_at m.callers c) (w.phase c) d phase_is (sh.phases c))
  where
    T : Writing
    T = (draw_of d).writing

    version_is : (z : Size) (w : World) (a : Arrangement) → Shows z w a m → Facts z w → IsDrawing (phase_at m.callers c) (w.phase c) d → v ≡ version_at T.key (kept T.change (suc d.index))
    version_is z w a sh facts at =
        v_is ∙ ap (version_of d.writing.change) (add-one d.index) ∙ ap (λ x. version_at x (kept d.writing.change (suc d.index))) (facts.fits c T (writing_is (phase_at m.callers c) (w.phase c) d at))

    own : (z : Size) (w : World) (a : Arrangement) → Shows z w a m → shard z T.key ≡ s
    own z w a sh = ap (shard_of T.key) (sym sh.log.count) ∙ sym is

    published_to : (z : Size) (w : World) (a : Arrangement) → Shows z w a m → (before to : CodePhase) → phase_at m.callers c ≡ before → published_phase before ≡ to → is_dropped to ≡ is_dropped before → (ph : Phase) → IsShown to ph → IsUnread n.compacted ph
        → Shows z (record w { phase = changed w.phase c ph }) a k
    published_to z w a sh before to at goes_to drop ph shown unread =
        let here : phase_at n.callers c ≡ before = ap (λ cs. phase_at cs c) same ∙ at in
        subst (λ x. Shows z (record w { phase = changed w.phase c ph }) a x) (sym k_is)
        (shows_entered z w a n (stays.0.1 z w a sh) k.callers c to ph (subst (λ x. Enters n.callers k.callers c x) (ap published_phase here ∙ goes_to) entering) shown (drop ∙ sym (ap is_dropped here)) unread)

    by : (z : Size) (w : World) (a : Arrangement) → Shows z w a m → Facts z w → IsDrawing (phase_at m.callers c) (w.phase c) d → Shows z (published z w c (w.phase c)) (moved_by c w (published z w c (w.phase c)) a) m'
    by z w a sh facts (draws p ph) =
        let at : IsDrawing (phase_at m.callers c) (w.phase c) d = draws p ph in
        let D : Draw = draw_of d in
        let drawn = draw_is (phase_at m.callers c) (w.phase c) d at in
        let to : Phase = Waiting (suc d.index) T.place (accepted_reply T.change (suc d.index)) in
        let next : code.Waiting (d.index + 1) d.writing.place (accepted_reply d.writing.change (d.index + 1)) ≡ code.Waiting (suc d.index) T.place (accepted_reply T.change (suc d.index)) = ap (λ i. code.Waiting i d.writing.place (accepted_reply d.writing.change i)) (add-one d.index) in
        let shown = published_to z w a sh (code.Drawn d) (code.Waiting (suc d.index) T.place (accepted_reply T.change (suc d.index))) p next refl to refl tt in
        let u : World = record w { log = changed w.log d.index (Some T); holder = changed w.holder s None; phase = changed w.phase c to } in
        steps z w c a m' u _ (Drawn D) to
        (ap (published z w c) ph ∙ ap (λ i. let x : World = record w { log = changed w.log d.index (Some T); holder = changed w.holder i None; phase = changed w.phase c to } in x) (own z w a sh)) ph (changed-same w.phase c to)
        (fills z (record w { phase = changed w.phase c to }) a T shown refl (version_is z w a sh facts at) (own z w a sh) (facts.below c D drawn) (facts.empty c D drawn) facts.above)
    by z w a sh facts (left p ph) =
        let at : IsDrawing (phase_at m.callers c) (w.phase c) d = left p ph in
        let D : Draw = draw_of d in
        let drawn = draw_is (phase_at m.callers c) (w.phase c) d at in
        let to : Phase = Gone None in
        let shown = published_to z w a sh (code.Left d) code.Gone p refl refl to refl tt in
        let u : World = record w { log = changed w.log d.index (Some T); holder = changed w.holder s None; phase = changed w.phase c to } in
        steps z w c a m' u _ (Gone (Some D)) to
        (ap (published z w c) ph ∙ ap (λ i. let x : World = record w { log = changed w.log d.index (Some T); holder = changed w.holder i None; phase = changed w.phase c to } in x) (own z w a sh)) ph (changed-same w.phase c to)
        (fills z (record w { phase = changed w.phase c to }) a T shown refl (version_is z w a sh facts at) (own z w a sh) (facts.below c D drawn) (facts.empty c D drawn) facts.above)

-- the object that is written has its key
pub drawn_fits : (m : Machine) (c : ℕ) (d : CodeDraw) → Stands m → drawn_in (phase_at m.callers c) ≡ Some d → (change_object d.writing.change).key ≡ d.writing.key
drawn_fits m c d st e =
    let w : World = st.1.0 in
    let sh : Shows st.0 w st.1.1.0 m = st.1.1.1.0 in
    let facts : Facts st.0 w = st.1.1.1.1 in
    facts.fits c (draw_of d).writing (writing_is (phase_at m.callers c) (w.phase c) d (drawing (phase_at m.callers c) (w.phase c) d e (sh.phases c)))

-- an element that was put
pub put_at_is : (xs : List Shard) (s : ℕ) (v : Shard) → s < length xs → shard_at (set xs s v) s ≡ v
put_at_is xs s v lt = get_or-set_same xs s v versions.opening lt
