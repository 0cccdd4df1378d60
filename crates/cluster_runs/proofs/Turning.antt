-- A run over turns.
use Rattle.std.proofs.Common.{◌≡◌, ◌<◌, ◌≤◌, ◌+◌, ◌++◌, ◌∷◌, [], ℕ, Bool, List, None, length, take, sym, ap, ◌∙◌, subst, arith}
use Rattle.std.proofs.Math.Seq.{take-append-add, take-append_seam}
use Rattle.std.proofs.lemmas.List.{append-nil, length-append}
use Rattle.interleavings.specs.World.{Size}
use Rattle.rounds.specs.Phase.{Phase}
use Rattle.rounds.specs.Reconciler.{Reconciler}
use Rattle.rounds.specs.World.{StandAt}
use Rattle.cluster_runs.specs.declared.event.ClusterEvent.{ClusterEvent}
use Rattle.cluster_runs.specs.Cluster.{Cluster, run, start}
use Rattle.cluster_runs.specs.Leading.{ComesTo, FillsUp, Halts, Leads}
use Rattle.cluster_runs.specs.Ran.{IsTooMany, StopsAt, cluster_after}
use Rattle.cluster_runs.specs.Shown.{Shows}
use Rattle.cluster_runs.specs.Turns.{course_of_all, ends_of_turns, events_of_turns, nothing}
use Rattle.cluster_runs.specs.declared.cluster.Cluster.{Cluster as Program}
use Rattle.cluster_runs.specs.declared.fault.ClusterFault.{ClusterFault}
use Rattle.cluster_runs.specs.declared.fault.ClusterFault.TheVariants.{TooManyCallers}
use Rattle.cluster_runs.specs.declared.turn.Turn.{Turn}
use Rattle.cluster_runs.proofs.Showing.{run-append}

-- there is an event that fills up
past : (z : Size) (n : ℕ) (reconcilers : ℕ → Reconciler) (k : Cluster) (es fs : List ClusterEvent) → FillsUp z n reconcilers k fs → length es < length (es ++ fs)
past z n reconcilers k es [] fills = let few = fills.few in let many = fills.many in absurd (omega (arith, few, many))
past z n reconcilers k es (f ∷ fs) fills = let all = length-append es (f ∷ fs) in omega (arith, all)

module _ {X : Type 0} (reconciler : X → Reconciler) (phase : X → Phase) (is_waiting : X → Bool) (z : Size) (reconcilers : ℕ → Reconciler) (namespaces : List (List ℕ)) (turns : List Turn)
    (old : Program) (before now : List X) (shows : Shows reconciler phase is_waiting z reconcilers (start (length before)) old before) where
  pub goes_all : (new : Program) → Leads reconciler phase is_waiting (course_of_all None namespaces turns) nothing old new before now
      → Shows reconciler phase is_waiting z reconcilers (cluster_after z (length before) reconcilers (events_of_turns z (length before) reconcilers namespaces turns)) new now
  unfolding events_of_turns
  goes_all new leads =
      let one = leads z reconcilers (start (length before)) shows in
      subst (λ l. Shows reconciler phase is_waiting z reconcilers (run z (length before) reconcilers (start (length before)) l) new now) (sym (one.whole_is ∙ append-nil one.done)) one.holds

  pub goes_ends : (ends : List ℕ) → ComesTo reconciler phase is_waiting namespaces turns ends old before → ends ≡ ends_of_turns z (length before) reconcilers namespaces turns
  unfolding ends_of_turns
  goes_ends ends comes = comes z reconcilers (start (length before)) shows

  pub goes_stops : (fault : ClusterFault) → Halts reconciler phase is_waiting fault (course_of_all None namespaces turns) old before now
      → ((m : ℕ) × StandAt reconciler phase now reconcilers (cluster_after z (length before) reconcilers (take m (events_of_turns z (length before) reconcilers namespaces turns))).phases)
      × (fault ≡ TooManyCallers → (m : ℕ) × StopsAt reconciler phase z (length before) reconcilers (events_of_turns z (length before) reconcilers namespaces turns) now m
      × IsTooMany z (length before) reconcilers (events_of_turns z (length before) reconcilers namespaces turns) m)
  unfolding events_of_turns
  goes_stops fault halts =
      let n = length before in
      let come = halts.1 z reconcilers (start n) shows in
      let v = run z n reconcilers (start n) come.done in
      let left = (halts.0 z n reconcilers v).0 in
      let all = (course_of_all None namespaces turns z n reconcilers (start n)).0 in
      let m = length come.done in
      let first : take m all ≡ come.done = ap (take m) come.whole_is ∙ take-append_seam come.done left in
      let next : take (m + 1) all ≡ come.done ++ take 1 left = ap (take (m + 1)) come.whole_is ∙ take-append-add come.done left 1 in
      let stand = subst (λ l. StandAt reconciler phase now reconcilers (run z n reconcilers (start n) l).phases) (sym first) come.holds.0 in (
        (m, stand),
        λ is.
            let fills = come.holds.1 is in (
              m,
              record { there = subst (λ l. m < length l) (sym come.whole_is) (past z n reconcilers v come.done left fills); stand = stand },
              record {
                few = subst (λ l. length (run z n reconcilers (start n) l).used ≤ 4096) (sym first) fills.few;
                many = subst (λ l. 4096 < length (run z n reconcilers (start n) l).used) (sym next)
                    (subst (λ (w : Cluster). 4096 < length w.used) (sym (run-append z n reconcilers (start n) come.done (take 1 left))) fills.many);
              },
            ),
      )
