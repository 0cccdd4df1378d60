use Rattle.std.proofs.Common.{◌≡◌, ◌<◌, length, map, subst, sym, ap, ◌∙◌}
use Rattle.std.specs.Prelude.{IsErrOf, Result}
use Rattle.std.proofs.lemmas.Result.{IfOk-weaker}
use Rattle.plain_store.specs.Reached.{most_revisions}
use Rattle.cluster_runs.specs.Ordered.{OrderKeepsPromises, entries_in}
use Rattle.cluster_runs.specs.Ran.{IsClusterRun, cluster_after}
use Rattle.cluster_runs.specs.Turns.{ends_of_turns, events_of_turns}
use Rattle.cluster_runs.specs.declared.fault.ClusterFault.TheVariants.{BadCapacity, BadShards, TooManyCallers}
use Rattle.cluster_runs.proofs.Showing.{within}
use Rattle.controllers.specs.Cluster.{namespaces_of, reconciler_for, reconciler_named, size_of}
use Rattle.controllers.specs.Controller.{reconciler_of}
use Rattle.controllers.specs.InTurn.{PodsComeInTurn}
use Rattle.controllers.proofs.Named.{made_named, same_length, sets_named, sound_named}
use Rattle.controllers.proofs.Turns.{pods_in_turn}
use Rattle.controllers.proofs.by_turns.run_turns.Goals as goal

pub returns-clause-run : goal.returns-clause-run
returns-clause-run c =
    let sets = c.args.spec.now.sets.items in
    let made = ap (map reconciler_of) c.as_mut_slice.ensures.value ∙ c.in_ok-controllers.ensures.made ∙ ap (map reconciler_for) c.as_slice.ensures.value in
    let many = same_length reconciler_of reconciler_for _ sets made in
    let spaces = c.as_slice-3.result.now in
    let spaces_are : spaces ≡ namespaces_of sets = c.as_slice-3.ensures.value ∙ c.in_ok-namespaces.ensures ∙ ap namespaces_of c.as_slice-2.ensures.value in
    IfOk-weaker c.run_turns.result _ _
    (λ found run. subst (λ l. IsClusterRun (size_of c.args.spec.now) (length sets) (reconciler_named sets) (events_of_turns (size_of c.args.spec.now) (length sets) (reconciler_named sets) l c.args.turns.now) found.run) spaces_are (subst (λ n. IsClusterRun (size_of c.args.spec.now) n (reconciler_named sets) (events_of_turns (size_of c.args.spec.now) n (reconciler_named sets) spaces c.args.turns.now) found.run) many (run (reconciler_named sets) (made_named _ sets made))))
    c.run_turns.ensures.run

pub returns-clause-ends : goal.returns-clause-ends
returns-clause-ends c =
    let sets = c.args.spec.now.sets.items in
    let made = ap (map reconciler_of) c.as_mut_slice.ensures.value ∙ c.in_ok-controllers.ensures.made ∙ ap (map reconciler_for) c.as_slice.ensures.value in
    let many = same_length reconciler_of reconciler_for _ sets made in
    let spaces = c.as_slice-3.result.now in
    let spaces_are : spaces ≡ namespaces_of sets = c.as_slice-3.ensures.value ∙ c.in_ok-namespaces.ensures ∙ ap namespaces_of c.as_slice-2.ensures.value in
    IfOk-weaker c.run_turns.result _ _
    (λ found ends. subst (λ l. found.ends.items ≡ ends_of_turns (size_of c.args.spec.now) (length sets) (reconciler_named sets) l c.args.turns.now) spaces_are (subst (λ n. found.ends.items ≡ ends_of_turns (size_of c.args.spec.now) n (reconciler_named sets) spaces c.args.turns.now) many (ends (reconciler_named sets) (made_named _ sets made))))
    c.run_turns.ensures.ends

pub returns-clause-promises : goal.returns-clause-promises
returns-clause-promises c =
    let sets = c.args.spec.now.sets.items in
    let made = ap (map reconciler_of) c.as_mut_slice.ensures.value ∙ c.in_ok-controllers.ensures.made ∙ ap (map reconciler_for) c.as_slice.ensures.value in
    let many = same_length reconciler_of reconciler_for _ sets made in
    let spaces = c.as_slice-3.result.now in
    let spaces_are : spaces ≡ namespaces_of sets = c.as_slice-3.ensures.value ∙ c.in_ok-namespaces.ensures ∙ ap namespaces_of c.as_slice-2.ensures.value in
    IfOk-weaker c.run_turns.result _ _
    (λ found kept. subst (λ l. OrderKeepsPromises (size_of c.args.spec.now) (reconciler_named sets) (cluster_after (size_of c.args.spec.now) (length sets) (reconciler_named sets) (events_of_turns (size_of c.args.spec.now) (length sets) (reconciler_named sets) l c.args.turns.now)) found.run.run.order.items) spaces_are (subst (λ n. OrderKeepsPromises (size_of c.args.spec.now) (reconciler_named sets) (cluster_after (size_of c.args.spec.now) n (reconciler_named sets) (events_of_turns (size_of c.args.spec.now) n (reconciler_named sets) spaces c.args.turns.now)) found.run.run.order.items) many (kept (reconciler_named sets) (made_named _ sets made) (sound_named sets))))
    c.run_turns.ensures.promises

pub returns-clause-in_turn : goal.returns-clause-in_turn
returns-clause-in_turn c =
    let sets = c.args.spec.now.sets.items in
    let made = ap (map reconciler_of) c.as_mut_slice.ensures.value ∙ c.in_ok-controllers.ensures.made ∙ ap (map reconciler_for) c.as_slice.ensures.value in
    let many = same_length reconciler_of reconciler_for _ sets made in
    let spaces = c.as_slice-3.result.now in
    let spaces_are : spaces ≡ namespaces_of sets = c.as_slice-3.ensures.value ∙ c.in_ok-namespaces.ensures ∙ ap namespaces_of c.as_slice-2.ensures.value in
    IfOk-weaker c.run_turns.result _ _
    (λ found kept. subst (λ l. PodsComeInTurn (reconciler_named sets) (entries_in (size_of c.args.spec.now) (cluster_after (size_of c.args.spec.now) (length sets) (reconciler_named sets) (events_of_turns (size_of c.args.spec.now) (length sets) (reconciler_named sets) l c.args.turns.now)) found.run.run.order.items)) spaces_are (subst (λ n. PodsComeInTurn (reconciler_named sets) (entries_in (size_of c.args.spec.now) (cluster_after (size_of c.args.spec.now) n (reconciler_named sets) (events_of_turns (size_of c.args.spec.now) n (reconciler_named sets) spaces c.args.turns.now)) found.run.run.order.items)) many (pods_in_turn (reconciler_named sets) _ (sets_named sets) (kept (reconciler_named sets) (made_named _ sets made) (sound_named sets)).creates)))
    c.run_turns.ensures.promises

one_reason : {T E : Type 0} (r : Result T E) (d e : E) → IsErrOf r d → IsErrOf r e → d ≡ e
one_reason r d e one two = let same = sym one ∙ two in cc

pub returns-clause-bad_capacity : goal.returns-clause-bad_capacity
returns-clause-bad_capacity c = c.run_turns.ensures.bad_capacity.0

pub returns-clause-too_many : goal.returns-clause-too_many
returns-clause-too_many c = λ is.
    let sets = c.args.spec.now.sets.items in
    let made = ap (map reconciler_of) c.as_mut_slice.ensures.value ∙ c.in_ok-controllers.ensures.made ∙ ap (map reconciler_for) c.as_slice.ensures.value in
    let many = same_length reconciler_of reconciler_for _ sets made in
    let spaces = c.as_slice-3.result.now in
    let spaces_are : spaces ≡ namespaces_of sets = c.as_slice-3.ensures.value ∙ c.in_ok-namespaces.ensures ∙ ap namespaces_of c.as_slice-2.ensures.value in
    let some = within c.args.spec.now.shards 64 (λ bad. let both : BadShards ≡ TooManyCallers = one_reason c.run_turns.result _ _ (c.run_turns.ensures.bad_shards.1 bad) is in cc) in
    let room = within c.args.spec.now.capacity most_revisions
    (λ bad. let both : BadCapacity ≡ TooManyCallers = one_reason c.run_turns.result _ _ (c.run_turns.ensures.bad_capacity.1 (some.0, some.1, bad)) is in cc) in (
      some.0,
      some.1,
      room.0,
      room.1,
      subst (λ l. 4096 < length (cluster_after (size_of c.args.spec.now) (length sets) (reconciler_named sets) (events_of_turns (size_of c.args.spec.now) (length sets) (reconciler_named sets) l c.args.turns.now)).used) spaces_are (subst (λ n. 4096 < length (cluster_after (size_of c.args.spec.now) n (reconciler_named sets) (events_of_turns (size_of c.args.spec.now) n (reconciler_named sets) spaces c.args.turns.now)).used) many (c.run_turns.ensures.too_many is (reconciler_named sets) (made_named _ sets made))),
    )
