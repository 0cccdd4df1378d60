use Rattle.std.proofs.Common.{◌+◌, ◌<◌, ◌∙◌, Bool, List, inl, inr, ℕ, ap, arith, length, refl, rules, subst, sym, take}
use Rattle.std.specs.Prelude.{IsErrOf, Ok, slice_index_or}
use Rattle.std.proofs.lemmas.List.{take_all}
use Rattle.std.proofs.lemmas.List.FromFn.{length-range_with_len}
use Rattle.interleavings.specs.Linearization.{IsLegal}
use Rattle.interleavings.specs.World.{Size}
use Rattle.plain_store.specs.Reached.{most_revisions}
use Rattle.history.specs.After.{IsAfter}
use Rattle.history.specs.declared.replay_error.ReplayError.TheVariants.{BadCapacity, BadShards}
use Rattle.cluster_runs.specs.declared.cluster.Cluster.{Cluster as Program}
use Rattle.cluster_runs.specs.declared.event.ClusterEvent.{ClusterEvent}
use Rattle.cluster_runs.specs.Cluster.{Cluster, happens, run, start}
use Rattle.cluster_runs.specs.Ran.{StopsAt}
use Rattle.rounds.specs.Phase.{Phase}
use Rattle.rounds.specs.Reconciler.{Reconciler}
use Rattle.cluster_runs.specs.Shown.{HasTaken, Shows, Stay}
use Rattle.cluster_runs.proofs.Calling.{owned_by}
use Rattle.cluster_runs.proofs.Showing.{at_err, has_begun, run_more, shown_stand, start_shows, still_stand, used_grow, within}
use Rattle.cluster_runs.proofs.run.run_cluster.Goals as goal

pub returns-in_err-callers-clause-too_many : goal.returns-in_err-callers-clause-too_many
returns-in_err-callers-clause-too_many g c = λ failed reconcilers made.
    let z : Size = record { capacity = c.args.capacity; shards = c.args.shards } in
    let count = length c.args.controllers.now in
    let many = c.in_err-callers.ensures.too_many (search (rules, failed)) in
    let less = used_grow z count reconcilers (start count) c.args.events.now 0 in
    let all = length-range_with_len 0 count in
    omega (arith, many, less, all)

pub returns-in_err-replay-clause-stopped : goal.returns-in_err-replay-clause-stopped
returns-in_err-replay-clause-stopped g c = at_err c.from_residual.result _ (λ reconcilers made. inl refl)

pub returns-in_err-callers-clause-stopped : goal.returns-in_err-callers-clause-stopped
returns-in_err-callers-clause-stopped g c = at_err c.from_residual-in_err-callers.result _ (λ reconcilers made. inl refl)

pub returns-in_err-callers-clause-filled : goal.returns-in_err-callers-clause-filled
returns-in_err-callers-clause-filled g c = λ failed few reconcilers made.
    let many = c.in_err-callers.ensures.too_many (search (rules, failed)) in
    absurd (omega (arith, many, few))

stands : {X : Type 0} (reconciler : X → Reconciler) (phase : X → Phase) (is_waiting : X → Bool) (z : Size) (reconcilers : ℕ → Reconciler) (n : ℕ) (events : List ClusterEvent) (at : ℕ)
    (program : Program) (before now : List X) → at < length events → Stay reconciler phase before now
    → Shows reconciler phase is_waiting z reconcilers (run z n reconcilers (start n) (take at events)) program before → StopsAt reconciler phase z n reconcilers events now at
stands reconciler phase is_waiting z reconcilers n events at program before now there stay shows =
    let k = run z n reconcilers (start n) (take at events) in
    record { there = there; stand = still_stand reconciler phase before now reconcilers k.phases stay (shown_stand reconciler phase is_waiting z reconcilers k program before shows) }

pub returns-in_err-apply_event-clause-stopped : goal.returns-in_err-apply_event-clause-stopped
returns-in_err-apply_event-clause-stopped g c =
    at_err c.from_residual-in_err-apply_event.result _ (λ reconcilers made. inr (
      c.loop-event.event-index,
      stands g.C.ControlLoop.reconciler g.C.ControlLoop.phase g.C.ControlLoop.is_waiting (record { capacity = c.args.capacity; shards = c.args.shards }) reconcilers
          (length c.args.controllers.now) c.args.events.now c.loop-event.event-index c.loop-event.cluster c.loop-event.controllers c.apply_event.new.controllers
          c.loop-event-test.true c.in_err-apply_event.ensures.stays (c.loop-event.invariant.3 reconcilers made),
    ))

pub returns-in_err-apply_event-clause-filled : goal.returns-in_err-apply_event-clause-filled
returns-in_err-apply_event-clause-filled g c = λ failed few reconcilers made.
    let z : Size = record { capacity = c.args.capacity; shards = c.args.shards } in
    let count = length c.args.controllers.now in
    let es = c.args.events.now in
    let i = c.loop-event.event-index in
    let k = run z count reconcilers (start count) (take i es) in
    let shows = c.loop-event.invariant.3 reconcilers made in
    let many = c.in_err-apply_event.ensures.too_many (search (rules, failed)) z reconcilers k shows in
    let next = ap (happens z (length c.loop-event.controllers) reconcilers k) c.event-item.is
    ∙ ap (λ n. happens z n reconcilers k (slice_index_or es i c.event-item.result)) c.loop-event.invariant.0
    ∙ run_more z count reconcilers (start count) es i c.event-item.result c.loop-event-test.true in (
      i,
      stands g.C.ControlLoop.reconciler g.C.ControlLoop.phase g.C.ControlLoop.is_waiting z reconcilers count es i c.loop-event.cluster c.loop-event.controllers c.apply_event.new.controllers
          c.loop-event-test.true c.in_err-apply_event.ensures.stays shows,
      record { few = shows.0.1.few; many = subst (λ (v : Cluster). 4096 < length v.used) next many },
    )

pub returns-in_err-apply_event-clause-unbegun : goal.returns-in_err-apply_event-clause-unbegun
returns-in_err-apply_event-clause-unbegun g c = λ refused.
    absurd (has_begun c.from_residual-in_err-apply_event.result (length c.args.controllers.now) c.in_ok-callers.callers (search rules) c.in_ok-callers.ensures.callers refused)

pub returns-clause-unbegun : goal.returns-clause-unbegun
returns-clause-unbegun g c = λ refused. absurd (has_begun (Ok _) (length c.args.controllers.now) c.in_ok-callers.callers tt c.in_ok-callers.ensures.callers refused)

pub loop-event-init : goal.loop-event-init
unfolding HasTaken
loop-event-init g c =
    let z : Size = record { capacity = c.args.capacity; shards = c.args.shards } in
    let are = c.in_ok-callers.ensures.callers in
    let opened = c.in_ok-replay.ensures.opened in
    let none = c.new-2.ensures.items in (
      refl,
      sym are.count_is,
      (z, subst (λ l. IsAfter z l c.in_ok-replay.replay) (sym none) opened),
      λ reconcilers made.
          start_shows g.C.ControlLoop.reconciler g.C.ControlLoop.phase g.C.ControlLoop.is_waiting z reconcilers
          (record { replay = c.in_ok-replay.replay; callers = c.in_ok-callers.callers; events = c.new-2.result }) c.args.controllers.now c.requires made opened none are,
    )

pub returns-in_err-apply_event-clause-too_many : goal.returns-in_err-apply_event-clause-too_many
returns-in_err-apply_event-clause-too_many g c = λ failed reconcilers made.
    let z : Size = record { capacity = c.args.capacity; shards = c.args.shards } in
    let count = length c.args.controllers.now in
    let es = c.args.events.now in
    let i = c.loop-event.event-index in
    let k = run z count reconcilers (start count) (take i es) in
    let many = c.in_err-apply_event.ensures.too_many (search (rules, failed)) z reconcilers k (c.loop-event.invariant.3 reconcilers made) in
    let next = ap (happens z (length c.loop-event.controllers) reconcilers k) c.event-item.is
    ∙ ap (λ n. happens z n reconcilers k (slice_index_or es i c.event-item.result)) c.loop-event.invariant.0
    ∙ run_more z count reconcilers (start count) es i c.event-item.result c.loop-event-test.true in
    let same = ap (λ (v : Cluster). length v.used) next in
    let less = used_grow z count reconcilers (start count) es (i + 1) in
    omega (arith, many, same, less)

pub loop-event-preserved : goal.loop-event-preserved
loop-event-preserved g c =
    let z : Size = record { capacity = c.args.capacity; shards = c.args.shards } in
    let count = length c.args.controllers.now in
    let es = c.args.events.now in
    let i = c.loop-event.event-index in
    let kept = c.loop-event.invariant in
    let many = c.in_ok-apply_event.ensures.consistent.many in (
      many ∙ kept.0,
      many ∙ kept.1 ∙ sym c.in_ok-apply_event.ensures.consistent.present,
      c.in_ok-apply_event.ensures.consistent.follows,
      λ reconcilers made.
          let k = run z count reconcilers (start count) (take i es) in
          subst (λ v. Shows g.C.ControlLoop.reconciler g.C.ControlLoop.phase g.C.ControlLoop.is_waiting z reconcilers v c.apply_event.new.self c.apply_event.new.controllers)
          (ap (happens z (length c.loop-event.controllers) reconcilers k) c.event-item.is
          ∙ ap (λ n. happens z n reconcilers k (slice_index_or es i c.event-item.result)) kept.0
          ∙ run_more z count reconcilers (start count) es i c.event-item.result c.loop-event-test.true)
          (c.in_ok-apply_event.ensures.shows z reconcilers k (kept.3 reconcilers made)),
    )

pub returns-clause-run : goal.returns-clause-run
returns-clause-run g c = λ reconcilers made.
    let z : Size = record { capacity = c.args.capacity; shards = c.args.shards } in
    let count = length c.args.controllers.now in
    let all = take_all c.loop-event.event-index c.args.events.now c.loop-event-test.false in
    let shows = subst (λ l. Shows g.C.ControlLoop.reconciler g.C.ControlLoop.phase g.C.ControlLoop.is_waiting z reconcilers (run z count reconcilers (start count) l) c.loop-event.cluster c.loop-event.controllers)
    all (c.loop-event.invariant.3 reconcilers made) in
    let k = run z count reconcilers (start count) c.args.events.now in
    record {
      handed = shows.0.0.events_are;
      run_is = c.finish.ensures z _ shows.0.0.taken;
      owned = owned_by (length c.loop-event.controllers) k c.loop-event.cluster.callers shows.0.1;
      few = shows.0.1.few;
    }

pub returns-clause-stand : goal.returns-clause-stand
returns-clause-stand g c = λ reconcilers made.
    let z : Size = record { capacity = c.args.capacity; shards = c.args.shards } in
    let count = length c.args.controllers.now in
    let k = run z count reconcilers (start count) c.args.events.now in
    let all = take_all c.loop-event.event-index c.args.events.now c.loop-event-test.false in
    let shows = subst (λ l. Shows g.C.ControlLoop.reconciler g.C.ControlLoop.phase g.C.ControlLoop.is_waiting z reconcilers (run z count reconcilers (start count) l) c.loop-event.cluster c.loop-event.controllers)
    all (c.loop-event.invariant.3 reconcilers made) in
    shown_stand g.C.ControlLoop.reconciler g.C.ControlLoop.phase g.C.ControlLoop.is_waiting z reconcilers k c.loop-event.cluster c.loop-event.controllers shows

not_err : {T E : Type 0} (x : T) (e : E) → IsErrOf (Ok x) e → ⊥
not_err x e is = cc

pub returns-clause-promises : goal.returns-clause-promises
returns-clause-promises g c = λ reconcilers made sound.
    let z : Size = record { capacity = c.args.capacity; shards = c.args.shards } in
    let count = length c.args.controllers.now in
    let all = take_all c.loop-event.event-index c.args.events.now c.loop-event-test.false in
    let shows = subst (λ l. Shows g.C.ControlLoop.reconciler g.C.ControlLoop.phase g.C.ControlLoop.is_waiting z reconcilers (run z count reconcilers (start count) l) c.loop-event.cluster c.loop-event.controllers)
    all (c.loop-event.invariant.3 reconcilers made) in
    let run_is = c.finish.ensures z _ shows.0.0.taken in
    let some = within z.shards 64 (λ bad. not_err c.in_ok-replay.replay BadShards (c.in_ok-replay.ensures.bad_shards.1 bad)) in
    let room = within z.capacity most_revisions (λ bad. not_err c.in_ok-replay.replay BadCapacity (c.in_ok-replay.ensures.bad_capacity.1 (some.0, some.1, bad))) in
    c.clusters_keep_promises.ensures z count reconcilers c.args.events.now c.finish.result.order.items some.0 room.0 room.1 sound
    (subst (λ l. IsLegal z.capacity l c.finish.result.order.items) run_is.trace_is run_is.legal)
