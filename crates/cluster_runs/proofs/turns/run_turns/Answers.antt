use Rattle.std.proofs.Common.{◌+◌, arith, length, rules, subst, sym}
use Rattle.std.specs.Prelude.{IsErrOf, Ok}
use Rattle.std.proofs.lemmas.List.FromFn.{length-range_with_len}
use Rattle.interleavings.specs.Linearization.{IsLegal}
use Rattle.interleavings.specs.World.{Size}
use Rattle.plain_store.specs.Reached.{most_revisions}
use Rattle.history.specs.After.{IsAfter}
use Rattle.history.specs.declared.replay_error.ReplayError.TheVariants.{BadCapacity, BadShards}
use Rattle.cluster_runs.specs.Cluster.{start}
use Rattle.rounds.proofs.Showing.{fresh_stand}
use Rattle.cluster_runs.specs.Ran.{cluster_after}
use Rattle.cluster_runs.specs.Shown.{HasTaken}
use Rattle.cluster_runs.specs.Turns.{events_of_turns}
use Rattle.cluster_runs.proofs.Calling.{owned_by}
use Rattle.cluster_runs.proofs.Showing.{at_err, has_begun, shown_stand, start_shows, used_grow, within}
use Rattle.cluster_runs.proofs.Turning.{goes_all, goes_ends, goes_stops}
use Rattle.cluster_runs.proofs.turns.run_turns.Goals as goal

pub returns-in_err-callers-clause-too_many : goal.returns-in_err-callers-clause-too_many
returns-in_err-callers-clause-too_many g c = λ failed reconcilers made.
    let z : Size = record { capacity = c.args.capacity; shards = c.args.shards } in
    let count = length c.args.controllers.now in
    let many = c.in_err-callers.ensures.too_many (search (rules, failed)) in
    let less = used_grow z count reconcilers (start count) (events_of_turns z count reconcilers c.args.namespaces.now c.args.turns.now) 0 in
    let all = length-range_with_len 0 count in
    omega (arith, many, less, all)

pub returns-in_err-replay-clause-stopped : goal.returns-in_err-replay-clause-stopped
returns-in_err-replay-clause-stopped g c =
    at_err c.from_residual.result _ (λ reconcilers made. (0, fresh_stand g.C.ControlLoop.reconciler g.C.ControlLoop.phase reconcilers c.args.controllers.now c.requires made))

pub returns-in_err-callers-clause-stopped : goal.returns-in_err-callers-clause-stopped
returns-in_err-callers-clause-stopped g c =
    at_err c.from_residual-in_err-callers.result _ (λ reconcilers made. (0, fresh_stand g.C.ControlLoop.reconciler g.C.ControlLoop.phase reconcilers c.args.controllers.now c.requires made))

pub apply_turns-requires : goal.apply_turns-requires
unfolding HasTaken
apply_turns-requires g c =
    let z : Size = record { capacity = c.args.capacity; shards = c.args.shards } in record {
      present = sym c.in_ok-callers.ensures.callers.count_is;
      follows = (z, subst (λ l. IsAfter z l c.in_ok-replay.replay) (sym c.new-2.ensures.items) c.in_ok-replay.ensures.opened);
    }

pub returns-in_err-ends-clause-stopped : goal.returns-in_err-ends-clause-stopped
returns-in_err-ends-clause-stopped g c =
    at_err c.from_residual-in_err-ends.result _ (λ reconcilers made.
    let z : Size = record { capacity = c.args.capacity; shards = c.args.shards } in
    (goes_stops g.C.ControlLoop.reconciler g.C.ControlLoop.phase g.C.ControlLoop.is_waiting z reconcilers c.args.namespaces.now c.args.turns.now (record { replay = c.in_ok-replay.replay; callers = c.in_ok-callers.callers; events = c.new-2.result }) c.args.controllers.now c.apply_turns.new.controllers (start_shows g.C.ControlLoop.reconciler g.C.ControlLoop.phase g.C.ControlLoop.is_waiting z reconcilers (record { replay = c.in_ok-replay.replay; callers = c.in_ok-callers.callers; events = c.new-2.result }) c.args.controllers.now c.requires made c.in_ok-replay.ensures.opened c.new-2.ensures.items c.in_ok-callers.ensures.callers) c.in_err-ends.field-0.0 c.in_err-ends.ensures.goes_along.halts).0)

pub returns-in_err-ends-clause-filled : goal.returns-in_err-ends-clause-filled
returns-in_err-ends-clause-filled g c = λ failed few reconcilers made.
    let z : Size = record { capacity = c.args.capacity; shards = c.args.shards } in
    (goes_stops g.C.ControlLoop.reconciler g.C.ControlLoop.phase g.C.ControlLoop.is_waiting z reconcilers c.args.namespaces.now c.args.turns.now (record { replay = c.in_ok-replay.replay; callers = c.in_ok-callers.callers; events = c.new-2.result }) c.args.controllers.now c.apply_turns.new.controllers (start_shows g.C.ControlLoop.reconciler g.C.ControlLoop.phase g.C.ControlLoop.is_waiting z reconcilers (record { replay = c.in_ok-replay.replay; callers = c.in_ok-callers.callers; events = c.new-2.result }) c.args.controllers.now c.requires made c.in_ok-replay.ensures.opened c.new-2.ensures.items c.in_ok-callers.ensures.callers) c.in_err-ends.field-0.0 c.in_err-ends.ensures.goes_along.halts).1 (search (rules, failed))

pub returns-in_err-ends-clause-too_many : goal.returns-in_err-ends-clause-too_many
returns-in_err-ends-clause-too_many g c = λ failed reconcilers made.
    let z : Size = record { capacity = c.args.capacity; shards = c.args.shards } in
    let count = length c.args.controllers.now in
    let full = (goes_stops g.C.ControlLoop.reconciler g.C.ControlLoop.phase g.C.ControlLoop.is_waiting z reconcilers c.args.namespaces.now c.args.turns.now (record { replay = c.in_ok-replay.replay; callers = c.in_ok-callers.callers; events = c.new-2.result }) c.args.controllers.now c.apply_turns.new.controllers (start_shows g.C.ControlLoop.reconciler g.C.ControlLoop.phase g.C.ControlLoop.is_waiting z reconcilers (record { replay = c.in_ok-replay.replay; callers = c.in_ok-callers.callers; events = c.new-2.result }) c.args.controllers.now c.requires made c.in_ok-replay.ensures.opened c.new-2.ensures.items c.in_ok-callers.ensures.callers) c.in_err-ends.field-0.0 c.in_err-ends.ensures.goes_along.halts).1 (search (rules, failed)) in
    let many = full.2.many in
    let less = used_grow z count reconcilers (start count) (events_of_turns z count reconcilers c.args.namespaces.now c.args.turns.now) (full.0 + 1) in
    omega (arith, many, less)

pub returns-in_err-callers-clause-filled : goal.returns-in_err-callers-clause-filled
returns-in_err-callers-clause-filled g c = λ failed few reconcilers made.
    let many = c.in_err-callers.ensures.too_many (search (rules, failed)) in
    absurd (omega (arith, many, few))

pub returns-in_err-ends-clause-unbegun : goal.returns-in_err-ends-clause-unbegun
returns-in_err-ends-clause-unbegun g c = λ refused.
    absurd (has_begun c.from_residual-in_err-ends.result (length c.args.controllers.now) c.in_ok-callers.callers (search rules) c.in_ok-callers.ensures.callers refused)

pub returns-clause-unbegun : goal.returns-clause-unbegun
returns-clause-unbegun g c = λ refused. absurd (has_begun (Ok _) (length c.args.controllers.now) c.in_ok-callers.callers tt c.in_ok-callers.ensures.callers refused)

pub returns-clause-run : goal.returns-clause-run
returns-clause-run g c = λ reconcilers made.
    let z : Size = record { capacity = c.args.capacity; shards = c.args.shards } in
    let count = length c.args.controllers.now in
    let shows = goes_all g.C.ControlLoop.reconciler g.C.ControlLoop.phase g.C.ControlLoop.is_waiting z reconcilers c.args.namespaces.now c.args.turns.now (record { replay = c.in_ok-replay.replay; callers = c.in_ok-callers.callers; events = c.new-2.result }) c.args.controllers.now c.apply_turns.new.controllers (start_shows g.C.ControlLoop.reconciler g.C.ControlLoop.phase g.C.ControlLoop.is_waiting z reconcilers (record { replay = c.in_ok-replay.replay; callers = c.in_ok-callers.callers; events = c.new-2.result }) c.args.controllers.now c.requires made c.in_ok-replay.ensures.opened c.new-2.ensures.items c.in_ok-callers.ensures.callers) c.apply_turns.new.self c.in_ok-ends.ensures.goes_along.leads in
    record {
      handed = shows.0.0.events_are;
      run_is = c.finish.ensures z _ shows.0.0.taken;
      owned = owned_by (length c.apply_turns.new.controllers) (cluster_after z count reconcilers (events_of_turns z count reconcilers c.args.namespaces.now c.args.turns.now)) c.apply_turns.new.self.callers shows.0.1;
      few = shows.0.1.few;
    }

pub returns-clause-stand : goal.returns-clause-stand
returns-clause-stand g c = λ reconcilers made.
    let z : Size = record { capacity = c.args.capacity; shards = c.args.shards } in
    let count = length c.args.controllers.now in
    shown_stand g.C.ControlLoop.reconciler g.C.ControlLoop.phase g.C.ControlLoop.is_waiting z reconcilers (cluster_after z count reconcilers (events_of_turns z count reconcilers c.args.namespaces.now c.args.turns.now)) c.apply_turns.new.self c.apply_turns.new.controllers
    (goes_all g.C.ControlLoop.reconciler g.C.ControlLoop.phase g.C.ControlLoop.is_waiting z reconcilers c.args.namespaces.now c.args.turns.now (record { replay = c.in_ok-replay.replay; callers = c.in_ok-callers.callers; events = c.new-2.result }) c.args.controllers.now c.apply_turns.new.controllers (start_shows g.C.ControlLoop.reconciler g.C.ControlLoop.phase g.C.ControlLoop.is_waiting z reconcilers (record { replay = c.in_ok-replay.replay; callers = c.in_ok-callers.callers; events = c.new-2.result }) c.args.controllers.now c.requires made c.in_ok-replay.ensures.opened c.new-2.ensures.items c.in_ok-callers.ensures.callers) c.apply_turns.new.self c.in_ok-ends.ensures.goes_along.leads)

not_err : {T E : Type 0} (x : T) (e : E) → IsErrOf (Ok x) e → ⊥
not_err x e is = cc

pub returns-clause-promises : goal.returns-clause-promises
returns-clause-promises g c = λ reconcilers made sound.
    let z : Size = record { capacity = c.args.capacity; shards = c.args.shards } in
    let count = length c.args.controllers.now in
    let shows = goes_all g.C.ControlLoop.reconciler g.C.ControlLoop.phase g.C.ControlLoop.is_waiting z reconcilers c.args.namespaces.now c.args.turns.now (record { replay = c.in_ok-replay.replay; callers = c.in_ok-callers.callers; events = c.new-2.result }) c.args.controllers.now c.apply_turns.new.controllers (start_shows g.C.ControlLoop.reconciler g.C.ControlLoop.phase g.C.ControlLoop.is_waiting z reconcilers (record { replay = c.in_ok-replay.replay; callers = c.in_ok-callers.callers; events = c.new-2.result }) c.args.controllers.now c.requires made c.in_ok-replay.ensures.opened c.new-2.ensures.items c.in_ok-callers.ensures.callers) c.apply_turns.new.self c.in_ok-ends.ensures.goes_along.leads in
    let run_is = c.finish.ensures z _ shows.0.0.taken in
    let some = within z.shards 64 (λ bad. not_err c.in_ok-replay.replay BadShards (c.in_ok-replay.ensures.bad_shards.1 bad)) in
    let room = within z.capacity most_revisions (λ bad. not_err c.in_ok-replay.replay BadCapacity (c.in_ok-replay.ensures.bad_capacity.1 (some.0, some.1, bad))) in
    c.clusters_keep_promises.ensures z count reconcilers (events_of_turns z count reconcilers c.args.namespaces.now c.args.turns.now) c.finish.result.order.items some.0 room.0 room.1 sound
    (subst (λ l. IsLegal z.capacity l c.finish.result.order.items) run_is.trace_is run_is.legal)

pub returns-clause-ends : goal.returns-clause-ends
returns-clause-ends g c = λ reconcilers made.
    let z : Size = record { capacity = c.args.capacity; shards = c.args.shards } in
    goes_ends g.C.ControlLoop.reconciler g.C.ControlLoop.phase g.C.ControlLoop.is_waiting z reconcilers c.args.namespaces.now c.args.turns.now (record { replay = c.in_ok-replay.replay; callers = c.in_ok-callers.callers; events = c.new-2.result }) c.args.controllers.now c.apply_turns.new.controllers (start_shows g.C.ControlLoop.reconciler g.C.ControlLoop.phase g.C.ControlLoop.is_waiting z reconcilers (record { replay = c.in_ok-replay.replay; callers = c.in_ok-callers.callers; events = c.new-2.result }) c.args.controllers.now c.requires made c.in_ok-replay.ensures.opened c.new-2.ensures.items c.in_ok-callers.ensures.callers) c.in_ok-ends.ends.items c.in_ok-ends.ensures.ends
