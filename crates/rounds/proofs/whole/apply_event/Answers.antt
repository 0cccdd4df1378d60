use Rattle.std.proofs.Common.{◌⊎◌, inl, ℕ, length, subst, sym}
use Rattle.std.specs.Prelude.{OnErr}
use Rattle.rounds.specs.Shown.{Shows}
use Rattle.rounds.specs.Reconciler.{Reconciler}
use Rattle.rounds.specs.World.{Matches, StandAt, World, happens}
use Rattle.rounds.proofs.Showing.{done_if, failed_if, idle_matches, outside_shows}
use Rattle.rounds.proofs.whole.apply_event.Goals as goal

pub returns-then-number-controllers-clause-fault :
    goal.returns-then-number-controllers-clause-fault
returns-then-number-controllers-clause-fault g c =
    subst (λ e. OnErr c.ask_number.result ((reconcilers : ℕ → Reconciler) (w : World)
    → Shows g.C.ControlLoop.reconciler g.C.ControlLoop.phase reconcilers (g.A.Api.store c.args.api.now) c.args.controllers.now c.args.taken.now.items w
    → StandAt g.C.ControlLoop.reconciler g.C.ControlLoop.phase c.ask_number.new.controllers reconcilers w.phases
    × (Matches (g.A.Api.store c.ask_number.new.api) c.ask_number.new.taken.items w
    ⊎ Matches (g.A.Api.store c.ask_number.new.api) c.ask_number.new.taken.items (happens (length c.args.controllers.now) reconcilers w e)))) (sym c.in-Ask.is) c.ask_number.ensures.fault

pub returns-then-number-controllers-2-clause-shows :
    goal.returns-then-number-controllers-2-clause-shows
returns-then-number-controllers-2-clause-shows g c = λ reconcilers w shows.
    subst (λ e. Shows g.C.ControlLoop.reconciler g.C.ControlLoop.phase reconcilers (g.A.Api.store c.args.api.now) c.crash_number.new.controllers c.args.taken.now.items
    (happens (length c.args.controllers.now) reconcilers w e)) (sym c.in-Crash.is)
    (c.crash_number.ensures.shows reconcilers (g.A.Api.store c.args.api.now) c.args.taken.now.items w shows)

pub returns-in-Outside-clause-shows : goal.returns-in-Outside-clause-shows
returns-in-Outside-clause-shows g c =
    done_if c.ask_outside.result _ _ _ c.ask_outside.ensures.taken c.ask_outside.ensures.taken (λ took again reconcilers w shows.
    subst (λ e. Shows g.C.ControlLoop.reconciler g.C.ControlLoop.phase reconcilers (g.A.Api.store c.ask_outside.new.api) c.args.controllers.now c.ask_outside.new.taken.items
    (happens (length c.args.controllers.now) reconcilers w e)) (sym c.in-Outside.is)
    (outside_shows g.C.ControlLoop.reconciler g.C.ControlLoop.phase reconcilers _ _ c.args.controllers.now _ _ w (length c.args.controllers.now) _ took shows))

pub returns-in-Outside-clause-fault : goal.returns-in-Outside-clause-fault
returns-in-Outside-clause-fault g c =
    failed_if c.ask_outside.result _ _ _ c.ask_outside.ensures.fault c.ask_outside.ensures.fault (λ idle again reconcilers w shows.
    (shows.controllers, inl (idle_matches g.C.ControlLoop.reconciler g.C.ControlLoop.phase reconcilers _ _ c.args.controllers.now _ _ w idle shows)))
