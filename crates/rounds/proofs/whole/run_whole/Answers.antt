use Rattle.std.proofs.Common.{◌+◌, ◌∙◌, inl, inr, ap, length, subst, take}
use Rattle.std.specs.Prelude.{slice_index_or}
use Rattle.rounds.specs.Shown.{Shows}
use Rattle.rounds.specs.World.{Matches, StandAt, World, happens, run, start}
use Rattle.rounds.proofs.Showing.{run_more, run_past, start_shows, still_idle, take_past, taken_or}
use Rattle.rounds.proofs.whole.run_whole.Goals as goal

pub returns-in-Err-clause-begun : goal.returns-in-Err-clause-begun
returns-in-Err-clause-begun g c = λ reconcilers made.
    let s = g.A.Api.store c.args.api.now in
    let count = length c.args.controllers.now in
    let i = c.loop-event.event-index in
    let w = run count reconcilers (start s) (take i c.args.events.now) in
    let shows = c.loop-event.invariant.2 reconcilers (start s) (start_shows g.C.ControlLoop.reconciler g.C.ControlLoop.phase reconcilers s c.args.controllers.now c.requires made) in
    elim (c.in-Err.ensures.fault reconcilers w shows).1 [
      | inl before ↦ (i, before)
      | inr more ↦ (
        i + 1,
        subst (Matches (g.A.Api.store c.apply_event.new.api) c.apply_event.new.taken.items)
            (ap (happens (length c.loop-event.controllers) reconcilers w) c.event-item.is
            ∙ ap (λ n. happens n reconcilers w (slice_index_or c.args.events.now i c.event-item.result)) c.loop-event.invariant.0
            ∙ run_more count reconcilers (start s) c.args.events.now i c.event-item.result c.loop-event-test.true) more,
      )
    ]

pub returns-in-Err-clause-reached : goal.returns-in-Err-clause-reached
returns-in-Err-clause-reached g c =
    taken_or (still_idle (g.A.Api.store c.args.api.now) (g.A.Api.store c.loop-event.api) (g.A.Api.store c.apply_event.new.api) c.loop-event.taken.items c.apply_event.new.taken.items
    c.loop-event.invariant.1 c.apply_event.ensures.reached)

pub returns-in-Err-clause-stopped : goal.returns-in-Err-clause-stopped
returns-in-Err-clause-stopped g c = λ reconcilers made.
    let s = g.A.Api.store c.args.api.now in
    let count = length c.args.controllers.now in
    let i = c.loop-event.event-index in
    let w = run count reconcilers (start s) (take i c.args.events.now) in
    let shows = c.loop-event.invariant.2 reconcilers (start s) (start_shows g.C.ControlLoop.reconciler g.C.ControlLoop.phase reconcilers s c.args.controllers.now c.requires made) in
    let fault = c.in-Err.ensures.fault reconcilers w shows in
    record {
      at = i;
      there = c.loop-event-test.true;
      stand = fault.0;
      matches = elim fault.1 [
        | inl before ↦ inl before
        | inr more ↦ inr (subst (Matches (g.A.Api.store c.apply_event.new.api) c.apply_event.new.taken.items)
            (ap (happens (length c.loop-event.controllers) reconcilers w) c.event-item.is
            ∙ ap (λ n. happens n reconcilers w (slice_index_or c.args.events.now i c.event-item.result)) c.loop-event.invariant.0
            ∙ run_more count reconcilers (start s) c.args.events.now i c.event-item.result c.loop-event-test.true) more)
      ];
    }

pub returns-in-Err-clause-promises : goal.returns-in-Err-clause-promises
returns-in-Err-clause-promises g c = λ reconcilers made sound reached.
    let begun = returns-in-Err-clause-begun g c reconcilers made in (
      begun.0,
      λ none. absurd cc,
      begun.1,
      c.runs_keep_promises.ensures (length c.args.controllers.now) reconcilers (g.A.Api.store c.args.api.now) reached (take begun.0 c.args.events.now) sound,
    )

pub loop-event-preserved : goal.loop-event-preserved
loop-event-preserved g c = (
  c.apply_event.ensures.many ∙ c.loop-event.invariant.0,
  still_idle (g.A.Api.store c.args.api.now) (g.A.Api.store c.loop-event.api) (g.A.Api.store c.apply_event.new.api) c.loop-event.taken.items c.apply_event.new.taken.items
      c.loop-event.invariant.1 c.apply_event.ensures.reached,
  λ reconcilers w shows.
      let count = length c.args.controllers.now in
      let i = c.loop-event.event-index in
      let now = run count reconcilers w (take i c.args.events.now) in
      subst (Shows g.C.ControlLoop.reconciler g.C.ControlLoop.phase reconcilers (g.A.Api.store c.apply_event.new.api) c.apply_event.new.controllers c.apply_event.new.taken.items)
      (ap (happens (length c.loop-event.controllers) reconcilers now) c.event-item.is
      ∙ ap (λ n. happens n reconcilers now (slice_index_or c.args.events.now i c.event-item.result)) c.loop-event.invariant.0
      ∙ run_more count reconcilers w c.args.events.now i c.event-item.result c.loop-event-test.true)
      (c.in_default.ensures.shows reconcilers now (c.loop-event.invariant.2 reconcilers w shows)),
)

pub returns-clause-whole : goal.returns-clause-whole
returns-clause-whole g c = λ none reconcilers made.
    let s = g.A.Api.store c.args.api.now in
    let count = length c.args.controllers.now in
    let shows = c.loop-event.invariant.2 reconcilers (start s) (start_shows g.C.ControlLoop.reconciler g.C.ControlLoop.phase reconcilers s c.args.controllers.now c.requires made) in
    subst (Matches (g.A.Api.store c.loop-event.api) c.loop-event.taken.items)
    (run_past count reconcilers (start s) c.args.events.now c.loop-event.event-index c.loop-event-test.false) shows.matches

pub returns-clause-begun : goal.returns-clause-begun
returns-clause-begun g c = λ reconcilers made.
    let s = g.A.Api.store c.args.api.now in
    let shows = c.loop-event.invariant.2 reconcilers (start s) (start_shows g.C.ControlLoop.reconciler g.C.ControlLoop.phase reconcilers s c.args.controllers.now c.requires made) in
    (c.loop-event.event-index, shows.matches)

pub returns-clause-stand : goal.returns-clause-stand
returns-clause-stand g c = λ none reconcilers made.
    let s = g.A.Api.store c.args.api.now in
    let count = length c.args.controllers.now in
    let shows = c.loop-event.invariant.2 reconcilers (start s) (start_shows g.C.ControlLoop.reconciler g.C.ControlLoop.phase reconcilers s c.args.controllers.now c.requires made) in
    subst (λ (w : World). StandAt g.C.ControlLoop.reconciler g.C.ControlLoop.phase c.loop-event.controllers reconcilers w.phases)
    (run_past count reconcilers (start s) c.args.events.now c.loop-event.event-index c.loop-event-test.false) shows.controllers

pub returns-clause-promises : goal.returns-clause-promises
unfolding returns-clause-begun
returns-clause-promises g c = λ reconcilers made sound reached.
    let begun = returns-clause-begun g c reconcilers made in (
      begun.0,
      λ none. take_past c.args.events.now c.loop-event.event-index c.loop-event-test.false,
      begun.1,
      c.runs_keep_promises.ensures (length c.args.controllers.now) reconcilers (g.A.Api.store c.args.api.now) reached (take begun.0 c.args.events.now) sound,
    )

pub returns-clause-reached : goal.returns-clause-reached
returns-clause-reached g c = taken_or c.loop-event.invariant.1
