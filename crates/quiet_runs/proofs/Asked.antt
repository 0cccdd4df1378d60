-- A request that is sent while the store is quiet gets its reply, which is that of the plain store.
use Rattle.std.proofs.Common.{◌≡◌, ◌<◌, ◌≤◌, ◌+◌, ◌∷◌, ◌++◌, [], ℕ, Bool, true, false, cond, List, Option, Some, None, refl, sym, ap, ◌∙◌, subst, append_assoc, arith, lt-ltb}
use Rattle.requests.specs.declared.request.Request.{Request}
use Rattle.requests.specs.declared.reply.Reply.{Reply}
use Rattle.plain_store.specs.Store.{step}
use Rattle.interleavings.specs.declared.event.Event.TheVariants as event
use Rattle.interleavings.specs.declared.trace.Item.TheVariants as item
use Rattle.interleavings.specs.Step.{called, later}
use Rattle.interleavings.specs.Trace.{after}
use Rattle.interleavings.specs.World.{Called, Idle, Size, World, opening}
use Rattle.interleavings.proofs.Basics.{changed-other, changed-same, eq_self}
use Rattle.rounds.specs.Phase.{Phase, asks}
use Rattle.rounds.specs.Reconciler.{Reconciler}
use Rattle.cluster_runs.specs.declared.event.ClusterEvent.{ClusterEvent}
use Rattle.cluster_runs.specs.declared.event.ClusterEvent.TheVariants.{Next, Outside}
use Rattle.cluster_runs.specs.Cluster.{Cluster, controller_at, controller_by, hand, happens, hears, is_idle, is_used, run, with_next, with_outside, with_used}
use Rattle.cluster_runs.specs.Turns.{Course, asked, asked_as, carried, event_and}
use Rattle.cluster_runs.proofs.Calling.{among_first}
use Rattle.cluster_runs.proofs.Steps.{Keeps}
use Rattle.cluster_runs.proofs.Traces.{after_more}
use Rattle.quiet_runs.specs.Quiet.{Answers, EndsQuiet, IsQuiet, is_open, steps_of_a_request, world_of}
use Rattle.quiet_runs.specs.Plain.{AnswersPlainly, DoesAsPlain, phases_after, plain_of}
use Rattle.quiet_runs.proofs.Ends.{Ended, Ends, now_of}
use Rattle.quiet_runs.proofs.Open.{Carried, called_ends, quiet_answers}
use Rattle.quiet_runs.proofs.Plain.{store_is}

-- a caller that begins to be used
module _ (k : Cluster) (n : ℕ) where
  used_events : (with_used k n).events ≡ k.events
  used_events = go (is_used k n)
    where
      go : (b : Bool) → (cond b k (record k { used = n ∷ k.used })).events ≡ k.events
      go true = refl
      go false = refl

  used_callers : (with_used k n).callers ≡ k.callers
  used_callers = go (is_used k n)
    where
      go : (b : Bool) → (cond b k (record k { used = n ∷ k.used })).callers ≡ k.callers
      go true = refl
      go false = refl

  used_incarnations : (with_used k n).incarnations ≡ k.incarnations
  used_incarnations = go (is_used k n)
    where
      go : (b : Bool) → (cond b k (record k { used = n ∷ k.used })).incarnations ≡ k.incarnations
      go true = refl
      go false = refl

  used_phases : (with_used k n).phases ≡ k.phases
  used_phases = go (is_used k n)
    where
      go : (b : Bool) → (cond b k (record k { used = n ∷ k.used })).phases ≡ k.phases
      go true = refl
      go false = refl

  used_now : is_used (with_used k n) n ≡ true
  used_now = go (is_used k n) refl
    where
      go : (b : Bool) → is_used k n ≡ b → is_used (cond b k (record k { used = n ∷ k.used })) n ≡ true
      go true is = is
      go false is = among_first n k.used

module _ (z : Size) (count : ℕ) (reconcilers : ℕ → Reconciler) (some : 0 < z.shards) (few : z.shards ≤ 64) where
  -- after an event that is the caller's call
  module _ (k : Cluster) (n : ℕ) (r : Request) (e : ClusterEvent) (next : Course) (quiet : IsQuiet (world_of z k))
      (world : world_of z (happens z count reconcilers k e) ≡ later (called (world_of z k) n r Idle)) (used : is_used (happens z count reconcilers k e) n ≡ true)
      (carries : next z count reconcilers (happens z count reconcilers k e) ≡ carried n z count reconcilers (happens z count reconcilers k e)) where
    x : Cluster
    x = happens z count reconcilers k e

    at : (world_of z (happens z count reconcilers k e)).phase n ≡ Called (world_of z k).now r
    at = ap (λ (w : World). w.phase n) world ∙ changed-same (world_of z k).phase n (Called (world_of z k).now r)

    quiet_now : IsQuiet (world_of z (happens z count reconcilers k e))
    quiet_now = subst IsQuiet (sym world) (record { free = quiet.free; passed = quiet.passed })

    pub called_then : (happens z count reconcilers k e).callers ≡ k.callers
        → Answers (event_and e next) (item.Call (world_of z k).now n r ∷ []) n (steps_of_a_request z + 1) z count reconcilers k
    called_then callers =
        more (subst (λ (o : List ClusterEvent × Option Reply). EndsQuiet z y [] n (steps_of_a_request z) o.0 o.1 (run z count reconcilers y o.0)) (sym carries)
        (quiet_answers z count reconcilers y n quiet_now used some few (ap is_open at)))
      where
        y : Cluster
        y = happens z count reconcilers k e

        more : Answers next [] n (steps_of_a_request z) z count reconcilers (happens z count reconcilers k e)
            → Answers (event_and e next) (item.Call (world_of z k).now n r ∷ []) n (steps_of_a_request z + 1) z count reconcilers k
        more o = record {
          reply = o.reply;
          at = o.at;
          told = o.told;
          shown = o.shown ∙ ap (λ (w : World). w.trace ++ item.Reply o.at n o.reply ∷ []) world
              ∙ append_assoc (world_of z k).trace (item.Call (world_of z k).now n r ∷ []) (item.Reply o.at n o.reply ∷ []);
          idle = o.idle;
          others = λ m ne. o.others m ne ∙ ap (λ (w : World). w.phase m) world ∙ changed-other (world_of z k).phase n (Called (world_of z k).now r) m ne;
          callers = o.callers ∙ callers;
          quiet = o.quiet;
          few = (let less = o.few in omega (arith, less));
        }

    -- the reply is that of the plain store
    pub called_plainly : (phases : ℕ → Phase) → (happens z count reconcilers k e).incarnations ≡ k.incarnations
        → (hears reconcilers (happens z count reconcilers k e) (controller_at (happens z count reconcilers k e) n) (Some (step (plain_of z k) r).1)).phases ≡ phases
        → AnswersPlainly (event_and e next) r phases z count reconcilers k
    called_plainly phases incarnations heard = more (subst (λ (o : List ClusterEvent × Option Reply). Ended z count reconcilers n y used (steps_of_a_request z) (step (plain_of z k) r) o.0 o.1 (run z count reconcilers y o.0)) (sym carries) ended)
      where
        y : Cluster
        y = happens z count reconcilers k e

        same : now_of z (world_of z (happens z count reconcilers k e)) ≡ plain_of z k
        same = ap (now_of z) world ∙ sym (store_is z (world_of z k))

        ended : Carried z count reconcilers (happens z count reconcilers k e) n quiet_now used some few (step (plain_of z k) r)
        ended =
            subst (λ s. Carried z count reconcilers y n quiet_now used some few (step s r)) same
            (called_ends z count reconcilers y n quiet_now used some few (world_of z k).now r at)

        more : Ends z count reconcilers n (happens z count reconcilers k e) used (steps_of_a_request z) (step (plain_of z k) r) next (happens z count reconcilers k e)
            → AnswersPlainly (event_and e next) r phases z count reconcilers k
        more o = record {
          told = o.told;
          left = store_is z (world_of z (run z count reconcilers y (next z count reconcilers y).0)) ∙ o.left;
          phases = o.phases ∙ heard;
          incarnations = o.incarnations ∙ incarnations;
        }

  -- ---- a controller
  module _ (k : Cluster) (kept : Keeps z reconcilers count k) (c : ℕ) (low : c < count) (quiet : IsQuiet (world_of z k)) (idle : (world_of z k).phase (k.callers c) ≡ Idle) where
    abbrev r : Request
    r = asks (reconcilers c) (k.phases c)

    calls : happens z count reconcilers k (Next c) ≡ hand k (event.Call (k.callers c) (asks (reconcilers c) (k.phases c)))
    calls =
        ap (λ b. cond b (with_next z reconcilers k c) k) (lt-ltb c count low)
        ∙ ap (λ ph. cond (is_idle ph) (hand k (event.Call (k.callers c) r)) k) idle

    world : world_of z (happens z count reconcilers k (Next c)) ≡ later (called (world_of z k) (k.callers c) (asks (reconcilers c) (k.phases c)) Idle)
    world =
        ap (world_of z) calls ∙ after_more z opening k.events (event.Call (k.callers c) r)
        ∙ ap (λ ph. later (called (world_of z k) (k.callers c) r ph)) idle

    used : is_used (happens z count reconcilers k (Next c)) (k.callers c) ≡ true
    used = ap (λ (j : Cluster). is_used j (k.callers c)) calls ∙ kept.known (k.callers c) _ (kept.live c low)

    carries : carried ((happens z count reconcilers k (Next c)).callers c) z count reconcilers (happens z count reconcilers k (Next c)) ≡ carried (k.callers c) z count reconcilers (happens z count reconcilers k (Next c))
    carries = ap (λ (j : Cluster). carried (j.callers c) z count reconcilers (happens z count reconcilers k (Next c))) calls

    abbrev own : Course
    own = λ z count reconcilers k. carried (k.callers c) z count reconcilers k

    pub controllers_are_answered : Answers (asked c) (item.Call (world_of z k).now (k.callers c) (asks (reconcilers c) (k.phases c)) ∷ []) (k.callers c) (steps_of_a_request z + 1) z count reconcilers k
    controllers_are_answered = called_then k (k.callers c) r (Next c) own quiet world used carries (ap (λ (j : Cluster). j.callers) calls)

    is_controller : controller_at k (k.callers c) ≡ Some c
    is_controller = ap (controller_by k (k.callers c)) (kept.live c low) ∙ ap (λ b. cond b (Some c) None) (eq_self (k.callers c))

    pub controllers_are_answered_plainly : AnswersPlainly (asked c) (asks (reconcilers c) (k.phases c)) (phases_after z reconcilers k c) z count reconcilers k
    controllers_are_answered_plainly =
        let reply : Reply = (step (plain_of z k) r).1 in
        called_plainly k (k.callers c) r (Next c) own quiet world used carries (phases_after z reconcilers k c)
        (ap (λ (j : Cluster). j.incarnations) calls)
        (ap (λ (j : Cluster). (hears reconcilers j (controller_at j (k.callers c)) (Some reply)).phases) calls
        ∙ ap (λ o. (hears reconcilers (hand k (event.Call (k.callers c) r)) o (Some reply)).phases) is_controller)

  -- ---- another client
  module _ (k : Cluster) (n : ℕ) (r : Request) (quiet : IsQuiet (world_of z k)) (idle : (world_of z k).phase n ≡ Idle) (nobody : k.incarnations n ≡ None) where
    shape : asked_as n r z count reconcilers k ≡ event_and (Outside n r) (carried n) z count reconcilers k
    shape = ap (λ ph. cond (is_idle ph) (event_and (Outside n r) (carried n) z count reconcilers k) ([], None)) idle

    calls_as : happens z count reconcilers k (Outside n r) ≡ hand (with_used k n) (event.Call n r)
    calls_as = ap (with_outside k n r) nobody

    world_as : world_of z (happens z count reconcilers k (Outside n r)) ≡ later (called (world_of z k) n r Idle)
    world_as =
        ap (world_of z) calls_as ∙ after_more z opening (with_used k n).events (event.Call n r) ∙ ap (λ es. later (called (after z opening es) n r ((after z opening es).phase n))) (used_events k n)
        ∙ ap (λ ph. later (called (world_of z k) n r ph)) idle

    used_as : is_used (happens z count reconcilers k (Outside n r)) n ≡ true
    used_as = ap (λ (j : Cluster). is_used j n) calls_as ∙ used_now k n

    pub others_are_answered : Answers (asked_as n r) (item.Call (world_of z k).now n r ∷ []) n (steps_of_a_request z + 1) z count reconcilers k
    others_are_answered =
        subst (λ (o : List ClusterEvent × Option Reply). EndsQuiet z k (item.Call (world_of z k).now n r ∷ []) n (steps_of_a_request z + 1) o.0 o.1 (run z count reconcilers k o.0)) (sym shape)
        (called_then k n r (Outside n r) (carried n) quiet world_as used_as refl (ap (λ (j : Cluster). j.callers) calls_as ∙ used_callers k n))

    -- no controller handles it
    unheard : (reply : Reply) → (hears reconcilers (hand (with_used k n) (event.Call n r)) (controller_at (hand (with_used k n) (event.Call n r)) n) (Some reply)).phases ≡ k.phases
    unheard reply =
        let j : Cluster = hand (with_used k n) (event.Call n r) in
        ap (λ o. (hears reconcilers j (controller_by j n o) (Some reply)).phases) (ap (λ f. f n) (used_incarnations k n) ∙ nobody) ∙ used_phases k n

    pub others_are_answered_plainly : AnswersPlainly (asked_as n r) r k.phases z count reconcilers k
    others_are_answered_plainly =
        let reply : Reply = (step (plain_of z k) r).1 in
        subst (λ (o : List ClusterEvent × Option Reply). DoesAsPlain z k r k.phases o.1 (run z count reconcilers k o.0)) (sym shape)
        (called_plainly k n r (Outside n r) (carried n) quiet world_as used_as refl k.phases
        (ap (λ (j : Cluster). j.incarnations) calls_as ∙ used_incarnations k n)
        (ap (λ (j : Cluster). (hears reconcilers j (controller_at j n) (Some reply)).phases) calls_as ∙ unheard reply))
