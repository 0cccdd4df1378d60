-- Requests that are sent or continued while the store is quiet leave it quiet, and no caller waits that did not wait
-- before.
use Rattle.std.proofs.Common.{◌≡◌, ◌<◌, ◌≤◌, ◌+◌, ◌++◌, [], ℕ, zero, suc, Bool, true, false, cond, List, Option, Some, None, nat_lt, is_some, refl, sym, ap, ◌∙◌, subst, ltb-true}
use Rattle.requests.specs.declared.request.Request.{Request}
use Rattle.requests.specs.declared.reply.Reply.{Reply}
use Rattle.interleavings.specs.declared.trace.Item.{Item}
use Rattle.interleavings.specs.declared.trace.Item.TheVariants as item
use Rattle.interleavings.specs.declared.event.Event.{Event}
use Rattle.interleavings.specs.declared.event.Event.TheVariants as event
use Rattle.interleavings.specs.Order.{arrangement, beginning}
use Rattle.interleavings.specs.World.{Phase, Idle, Called, Holding, Drawn, Waiting, Reading, Gone, Size, World, opening}
use Rattle.interleavings.proofs.Arranged.{Holds}
use Rattle.interleavings.proofs.Basics.{Compared, same, other, compare}
use Rattle.interleavings.proofs.Invariant.{Opens}
use Rattle.interleavings.proofs.Runs.{begins, run_goes}
use Rattle.history.specs.NextStep.{can_rise, goes_on, next_step}
use Rattle.history.specs.CallerPhase.{caller_phase_of}
use Rattle.rounds.specs.Phase.{asks}
use Rattle.rounds.specs.Reconciler.{Reconciler}
use Rattle.rounds.specs.Transcript.{Incarnation}
use Rattle.cluster_runs.specs.declared.event.ClusterEvent.{ClusterEvent}
use Rattle.cluster_runs.specs.declared.event.ClusterEvent.TheVariants.{Next, Outside}
use Rattle.cluster_runs.specs.Cluster.{Cluster, hand, happens, is_idle, is_used, run, start, with_next, with_outside}
use Rattle.cluster_runs.specs.Turns.{Course, asked, asked_as, carried, carried_in, event_and, followed_by, is_idle_at, most_steps, nothing, step_and}
use Rattle.cluster_runs.proofs.Showing.{run-append}
use Rattle.cluster_runs.proofs.Steps.{Keeps, run_kept, start_kept}
use Rattle.quiet_runs.specs.Quiet.{EndsQuiet, IsAtRest, IsQuiet, KeepsQuiet, StaysQuiet, is_open, steps_of_a_request, world_of}
use Rattle.quiet_runs.proofs.Asked.{controllers_are_answered, others_are_answered}
use Rattle.quiet_runs.proofs.Open.{quiet_answers}

abbrev pub Outcome : Type 0
Outcome = List ClusterEvent × Option Reply

pub begins_at_rest : IsAtRest opening
begins_at_rest = record { quiet = record { free = λ s. refl; passed = refl }; idle = λ n. refl }

pub nothing_moves : (z : Size) (k : Cluster) → IsQuiet (world_of z k) → StaysQuiet z k k
nothing_moves z k quiet = record { quiet = quiet; idle = λ n was. was; callers = refl }

and_then : (z : Size) (k middle now : Cluster) → StaysQuiet z k middle → StaysQuiet z middle now → StaysQuiet z k now
and_then z k middle now one two = record { quiet = two.quiet; idle = λ n was. two.idle n (one.idle n was); callers = two.callers ∙ one.callers }

idle_is : (ph : Phase) → is_idle ph ≡ true → ph ≡ Idle
idle_is Idle is = refl
idle_is (Called p r) is = absurd cc
idle_is (Holding t) is = absurd cc
idle_is (Drawn d) is = absurd cc
idle_is (Waiting saw p r) is = absurd cc
idle_is (Reading number p q parts found) is = absurd cc
idle_is (Gone left) is = absurd cc

abbrev next_from : Size → World → ℕ → Phase → Option Event
next_from z w n ph = goes_on (λ s. is_some (w.holder s)) w.frontier (can_rise w) n (caller_phase_of z.shards ph)

module _ (z : Size) (count : ℕ) (reconcilers : ℕ → Reconciler) where
  -- a caller that has sent nothing has no next step
  stays : (fuel n : ℕ) (k : Cluster) → next_step z (world_of z k) n ≡ None → carried_in fuel n z count reconcilers k ≡ ([], None)
  unfolding carried_in
  stays zero n k none = refl
  stays (suc fuel) n k none = ap (λ s. step_and s (carried_in fuel n) z count reconcilers k) none

  idle_stays : (n : ℕ) (k : Cluster) (ph : Phase) → (world_of z k).phase n ≡ ph → is_open ph ≡ false → next_step z (world_of z k) n ≡ None
  idle_stays n k Idle at is = ap (next_from z (world_of z k) n) at
  idle_stays n k (Gone None) at is = ap (next_from z (world_of z k) n) at
  idle_stays n k (Gone (Some d)) at is = ap (next_from z (world_of z k) n) at
  idle_stays n k (Called p r) at is = absurd cc
  idle_stays n k (Holding t) at is = absurd cc
  idle_stays n k (Drawn d) at is = absurd cc
  idle_stays n k (Waiting saw p r) at is = absurd cc
  idle_stays n k (Reading number p q parts found) at is = absurd cc

  pub none_carried : (n : ℕ) (k : Cluster) → is_open ((world_of z k).phase n) ≡ false → carried n z count reconcilers k ≡ ([], None)
  unfolding carried
  none_carried n k is = stays most_steps n k (idle_stays n k ((world_of z k).phase n) refl is)

  -- the course leaves the store quiet
  abbrev pub Calms : Course → Type 0
  Calms course = (k : Cluster) → Keeps z reconcilers count k → IsQuiet (world_of z k) → StaysQuiet z k (run z count reconcilers k (course z count reconcilers k).0)

  pub calms_all : (course : Course) → Calms course → KeepsQuiet z count reconcilers course
  calms_all course calms events quiet = calms (run z count reconcilers (start count) events) (run_kept z reconcilers count (start count) (start_kept z reconcilers count) events) quiet

  pub calms_if : (b : Bool) (o : Outcome) (k : Cluster) → IsQuiet (world_of z k) → StaysQuiet z k (run z count reconcilers k o.0)
      → StaysQuiet z k (run z count reconcilers k (cond b o ([], None)).0)
  calms_if true o k quiet then = then
  calms_if false o k quiet then = nothing_moves z k quiet

  pub calms_nothing : Calms nothing
  calms_nothing k kept quiet = nothing_moves z k quiet

  pub calms_then : (first : Course) (next : Option Reply → Course) → Calms first → ((o : Option Reply) → Calms (next o)) → Calms (followed_by first next)
  calms_then first next one two k kept quiet =
      let o = first z count reconcilers k in
      let middle = run z count reconcilers k o.0 in
      let stays = one k kept quiet in
      subst (StaysQuiet z k) (sym (run-append z count reconcilers k o.0 (next o.1 z count reconcilers middle).0))
      (and_then z k middle _ stays (two o.1 middle (run_kept z reconcilers count k kept o.0) stays.quiet))

  -- ---- a reply
  ends_quiet : (k : Cluster) (calls : List Item) (n most : ℕ) (o : Outcome) → EndsQuiet z k calls n most o.0 o.1 (run z count reconcilers k o.0) → StaysQuiet z k (run z count reconcilers k o.0)
  ends_quiet k calls n most o ends = record { quiet = ends.quiet; idle = λ m was. go m was (compare m n); callers = ends.callers }
    where
      go : (m : ℕ) → (world_of z k).phase m ≡ Idle → Compared m n → (world_of z (run z count reconcilers k o.0)).phase m ≡ Idle
      go m was (same e b) = ap (λ i. (world_of z (run z count reconcilers k o.0)).phase i) e ∙ ends.idle
      go m was (other ne b) = ends.others m ne ∙ was

  -- a caller with an open request has called it, and so was used
  open_used : (k : Cluster) → Keeps z reconcilers count k → (n : ℕ) (ph : Phase) → Opens (world_of z k).trace n ph → is_open ph ≡ true → is_used k n ≡ true
  open_used k kept n Idle opens asks = absurd cc
  open_used k kept n (Called p q) opens asks = kept.seen (item.Call p n opens.request) opens.called
  open_used k kept n (Holding t) opens asks = kept.seen (item.Call t.place n opens.request) opens.called
  open_used k kept n (Drawn d) opens asks = kept.seen (item.Call d.writing.place n opens.request) opens.called
  open_used k kept n (Waiting s p r) opens asks = kept.seen (item.Call p n opens.request) opens.called
  open_used k kept n (Reading number p q parts found) opens asks = kept.seen (item.Call p n opens.request) opens.called
  open_used k kept n (Gone left) opens asks = absurd cc

  module _ (some : 0 < z.shards) (few : z.shards ≤ 64) where
    pub carried_calms : (n : ℕ) → Calms (carried n)
    carried_calms n k kept quiet = go (is_open ((world_of z k).phase n)) refl
      where
        go : (b : Bool) → is_open ((world_of z k).phase n) ≡ b → StaysQuiet z k (run z count reconcilers k (carried n z count reconcilers k).0)
        go false is = subst (λ (o : Outcome). StaysQuiet z k (run z count reconcilers k o.0)) (sym (none_carried n k is)) (nothing_moves z k quiet)
        go true is =
            let h : Holds z (world_of z k) (arrangement z opening beginning k.events) = run_goes z some k.events opening beginning (begins z) in
            ends_quiet k [] n (steps_of_a_request z) (carried n z count reconcilers k)
            (quiet_answers z count reconcilers k n quiet (open_used k kept n ((world_of z k).phase n) (h.1.0.opens n) is) some few is)

    pub asked_calms : (c : ℕ) → Calms (asked c)
    asked_calms c k kept quiet = there (nat_lt c count) refl
      where
        -- the call is none
        carries : happens z count reconcilers k (Next c) ≡ k → StaysQuiet z k (run z count reconcilers k (asked c z count reconcilers k).0)
        carries is = subst (λ (x : Cluster). StaysQuiet z k (run z count reconcilers x (carried (x.callers c) z count reconcilers x).0)) (sym is) (carried_calms (k.callers c) k kept quiet)

        calls : (b : Bool) → is_idle_at z k (k.callers c) ≡ b → nat_lt c count ≡ true → StaysQuiet z k (run z count reconcilers k (asked c z count reconcilers k).0)
        calls true is low =
            ends_quiet k _ (k.callers c) (steps_of_a_request z + 1) (asked c z count reconcilers k)
            (controllers_are_answered z count reconcilers some few k kept c (ltb-true c count low) quiet (idle_is ((world_of z k).phase (k.callers c)) is))
        calls false is low =
            carries (ap (λ b. cond b (with_next z reconcilers k c) k) low ∙ ap (λ b. cond b (hand k (event.Call (k.callers c) (asks (reconcilers c) (k.phases c)))) k) is)

        there : (b : Bool) → nat_lt c count ≡ b → StaysQuiet z k (run z count reconcilers k (asked c z count reconcilers k).0)
        there true is = calls (is_idle_at z k (k.callers c)) refl is
        there false is = carries (ap (λ b. cond b (with_next z reconcilers k c) k) is)

    pub asked_as_calms : (n : ℕ) (r : Request) → Calms (asked_as n r)
    asked_as_calms n r k kept quiet = go (is_idle_at z k n) refl
      where
        by : (who : Option Incarnation) → k.incarnations n ≡ who → (world_of z k).phase n ≡ Idle
            → StaysQuiet z k (run z count reconcilers k (event_and (Outside n r) (carried n) z count reconcilers k).0)
        by None is idle =
            let shape : asked_as n r z count reconcilers k ≡ event_and (Outside n r) (carried n) z count reconcilers k = ap (λ ph. cond (is_idle ph) (event_and (Outside n r) (carried n) z count reconcilers k) ([], None)) idle in
            subst (λ (o : Outcome). StaysQuiet z k (run z count reconcilers k o.0)) shape
            (ends_quiet k _ n (steps_of_a_request z + 1) (asked_as n r z count reconcilers k) (others_are_answered z count reconcilers some few k n r quiet idle is))
        by (Some incarnation) is idle =
            subst (λ (x : Cluster). StaysQuiet z k (run z count reconcilers x (carried n z count reconcilers x).0)) (sym (ap (with_outside k n r) is)) (carried_calms n k kept quiet)

        go : (b : Bool) → is_idle_at z k n ≡ b → StaysQuiet z k (run z count reconcilers k (asked_as n r z count reconcilers k).0)
        go true is =
            subst (λ b. StaysQuiet z k (run z count reconcilers k (cond b (event_and (Outside n r) (carried n) z count reconcilers k) ([], None)).0)) (sym is)
            (by (k.incarnations n) refl (idle_is ((world_of z k).phase n) is))
        go false is =
            subst (λ b. StaysQuiet z k (run z count reconcilers k (cond b (event_and (Outside n r) (carried n) z count reconcilers k) ([], None)).0)) (sym is) (nothing_moves z k quiet)

-- ---- one after another, from clusters that runs reach
pub keeps_then : (z : Size) (count : ℕ) (reconcilers : ℕ → Reconciler) (first : Course) (next : Option Reply → Course) → KeepsQuiet z count reconcilers first
    → ((delivered : Option Reply) → KeepsQuiet z count reconcilers (next delivered)) → KeepsQuiet z count reconcilers (followed_by first next)
keeps_then z count reconcilers first next one two events quiet =
    let k = run z count reconcilers (start count) events in
    let o = first z count reconcilers k in
    let middle = run z count reconcilers k o.0 in
    let all : run z count reconcilers (start count) (events ++ o.0) ≡ middle = run-append z count reconcilers (start count) events o.0 in
    let stays = one events quiet in
    subst (StaysQuiet z k) (sym (run-append z count reconcilers k o.0 (next o.1 z count reconcilers middle).0))
    (and_then z k middle _ stays
    (subst (λ (x : Cluster). StaysQuiet z x (run z count reconcilers x (next o.1 z count reconcilers x).0)) all
    (two o.1 (events ++ o.0) (subst (λ (x : Cluster). IsQuiet (world_of z x)) (sym all) stays.quiet))))
