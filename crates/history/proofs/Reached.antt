-- Machines that runs lead to.
use Rattle.std.proofs.Common.{◌≡◌, ◌+◌, List, [], ◌∷◌, ◌++◌, refl, sym, ap, ◌∙◌, subst, length-append}
use Rattle.interleavings.specs.declared.event.Event.{Event}
use Rattle.history.specs.declared.machine.Machine.{Machine}
use Rattle.interleavings.specs.Order.{Arrangement, arranged, arrangement, beginning}
use Rattle.interleavings.specs.Step.{step}
use Rattle.interleavings.specs.Trace.{after}
use Rattle.interleavings.specs.World.{Size, World, opening}
use Rattle.history.specs.Replayed.{IsRun, Keeps, Shows, Stands, Stays, Steps}
use Rattle.interleavings.specs.Spared.{IsLeastRead}
use Rattle.interleavings.proofs.Facts.{facts_after}

pub after_more : (z : Size) (es : List Event) (w : World) (e : Event) → after z w (es ++ e ∷ []) ≡ step z (after z w es) e
after_more z [] w e = refl
after_more z (x ∷ es) w e = after_more z es (step z w x) e

pub arrangement_more : (z : Size) (es : List Event) (w : World) (a : Arrangement) (e : Event) → arrangement z w a (es ++ e ∷ []) ≡ arranged (after z w es) e (step z (after z w es) e) (arrangement z w a es)
arrangement_more z [] w a e = refl
arrangement_more z (x ∷ es) w a e = arrangement_more z es (step z w x) (arranged w x (step z w x) a) e

pub run_stands : (z : Size) (es : List Event) (m : Machine) → IsRun z es m → Stands m
run_stands z es m run = (z, (after z opening es, (arrangement z opening beginning es, (run.shows, facts_after z run.some es))))

pub run_steps : (z : Size) (es : List Event) (e : Event) (m m' : Machine) → IsRun z es m → Steps e m m' → m'.now_at ≡ m.now_at + 1 → IsRun z (es ++ e ∷ []) m'
unfolding Steps
run_steps z es e m m' run steps place =
    let shown = steps z (after z opening es) (arrangement z opening beginning es) run.shows (facts_after z run.some es) in
    record {
      some = run.some;
      count = place ∙ ap (λ n. n + 1) run.count ∙ sym (length-append es (e ∷ []));
      shows = subst (λ w. Shows z w (arrangement z opening beginning (es ++ e ∷ [])) m') (sym (after_more z es opening e))
          (subst (λ a. Shows z (step z (after z opening es) e) a m') (sym (arrangement_more z es opening beginning e)) shown.0);
      compacted = subst (λ w. IsLeastRead w m'.compacted) (sym (after_more z es opening e)) shown.1;
    }

pub run_stays : (z : Size) (es : List Event) (m m' : Machine) → IsRun z es m → Stays m m' → IsRun z es m'
unfolding Keeps Stays
run_stays z es m m' run stays =
    let shown = stays.0.1 z (after z opening es) (arrangement z opening beginning es) run.shows in
    record { some = run.some; count = shown.place ∙ sym run.shows.place ∙ run.count; shows = shown; compacted = subst (IsLeastRead (after z opening es)) (sym stays.0.0) run.compacted }
