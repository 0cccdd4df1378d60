-- Step by step towards a reply: what each step leaves as it was, and how the course ends.
use Rattle.std.proofs.Common.{◌≡◌, ◌≢◌, ◌≤◌, ◌++◌, ◌∷◌, [], ℕ, suc, true, cond, nat_eq, List, drop, length, Option, Some, None, refl, sym, ap, ◌∙◌, subst, arith}
use Rattle.std.specs.List.{list_any}
use Rattle.std.proofs.Math.Seq.{drop-append_seam}
use Rattle.requests.specs.declared.reply.Reply.{Reply}
use Rattle.plain_store.specs.Store.{Store}
use Rattle.interleavings.specs.declared.event.Event.{Event}
use Rattle.interleavings.specs.declared.event.Event.TheVariants as event
use Rattle.interleavings.specs.declared.trace.Item.TheVariants as item
use Rattle.interleavings.specs.Step.{happens, later, step, with_reply}
use Rattle.interleavings.specs.Trace.{after, reply_in, trace}
use Rattle.interleavings.specs.World.{Idle, Size, World, opening}
use Rattle.interleavings.proofs.Basics.{changed-other, changed-same}
use Rattle.interleavings.proofs.Plainly.{plainly}
use Rattle.history.specs.NextStep.{next_step}
use Rattle.rounds.specs.Reconciler.{Reconciler}
use Rattle.cluster_runs.specs.declared.event.ClusterEvent.{ClusterEvent}
use Rattle.cluster_runs.specs.declared.event.ClusterEvent.TheVariants.{Step}
use Rattle.cluster_runs.specs.Cluster.{Cluster, controller_at, delivered, hand, hears, is_used, run, with_step}
use Rattle.cluster_runs.specs.Cluster as cluster
use Rattle.cluster_runs.specs.Turns.{Course, carried_in, event_and, reply_of, reply_to, step_and, step_by}
use Rattle.cluster_runs.proofs.Traces.{after_more}
use Rattle.quiet_runs.specs.Quiet.{IsQuiet, world_of}

-- the plain store that the world makes up
abbrev pub now_of : Size → World → Store
now_of z w = plainly z w.log w.floor w.frontier

-- a reply that a controller handles changes neither the events nor the callers
module _ (reconcilers : ℕ → Reconciler) (k : Cluster) where
  heard_events : (c : Option ℕ) (o : Option Reply) → (hears reconcilers k c o).events ≡ k.events
  heard_events (Some c) (Some reply) = refl
  heard_events (Some c) None = refl
  heard_events None o = refl

  heard_used : (c : Option ℕ) (o : Option Reply) → (hears reconcilers k c o).used ≡ k.used
  heard_used (Some c) (Some reply) = refl
  heard_used (Some c) None = refl
  heard_used None o = refl

  heard_callers : (c : Option ℕ) (o : Option Reply) → (hears reconcilers k c o).callers ≡ k.callers
  heard_callers (Some c) (Some reply) = refl
  heard_callers (Some c) None = refl
  heard_callers None o = refl

  heard_incarnations : (c : Option ℕ) (o : Option Reply) → (hears reconcilers k c o).incarnations ≡ k.incarnations
  heard_incarnations (Some c) (Some reply) = refl
  heard_incarnations (Some c) None = refl
  heard_incarnations None o = refl

  -- what was passed to the store does not matter
  heard_phases : (events : List Event) (c : Option ℕ) (o : Option Reply) → (hears reconcilers (record k { events = events }) c o).phases ≡ (hears reconcilers k c o).phases
  heard_phases events (Some c) (Some reply) = refl
  heard_phases events (Some c) None = refl
  heard_phases events None o = refl

module _ (z : Size) (count : ℕ) (reconcilers : ℕ → Reconciler) (n : ℕ) (k0 : Cluster) (there : is_used k0 n ≡ true) where
  -- a cluster on the way, whose world is this one: of what k0 had, only the caller has moved
  pub record OnWay (k : Cluster) (w : World) : Type 0 where
    pub world : after z opening k.events ≡ w
    pub alike : k ≡ record k0 { events = k.events }
    pub others : (m : ℕ) → m ≢ n → w.phase m ≡ (world_of z k0).phase m
    pub traced : w.trace ≡ (world_of z k0).trace

  -- This reply has come, after so many events at most, and the world makes up this plain store.
  pub record Ended (most : ℕ) (end : Store × Reply) (events : List ClusterEvent) (ending : Option Reply) (now : Cluster) : Type 0 where
    pub at : ℕ
    pub told : ending ≡ Some end.1
    pub left : now_of z (world_of z now) ≡ end.0
    pub shown : (world_of z now).trace ≡ (world_of z k0).trace ++ item.Reply at n end.1 ∷ []
    pub idle : (world_of z now).phase n ≡ Idle
    pub others : (m : ℕ) → m ≢ n → (world_of z now).phase m ≡ (world_of z k0).phase m
    pub used : now.used ≡ k0.used
    pub callers : now.callers ≡ k0.callers
    pub incarnations : now.incarnations ≡ k0.incarnations
    pub phases : now.phases ≡ (hears reconcilers k0 (controller_at k0 n) (Some end.1)).phases
    pub quiet : IsQuiet (world_of z now)
    pub few : length events ≤ most

  abbrev pub Ends : ℕ → Store × Reply → Course → Cluster → Type 0
  Ends most end course k = let o = course z count reconcilers k in Ended most end o.0 o.1 (run z count reconcilers k o.0)

  pub within : (less most : ℕ) (end : Store × Reply) (course : Course) (k : Cluster) → less ≤ most → Ends less end course k → Ends most end course k
  within less most end course k le e = record {
    at = e.at;
    told = e.told;
    left = e.left;
    shown = e.shown;
    idle = e.idle;
    others = e.others;
    used = e.used;
    callers = e.callers;
    incarnations = e.incarnations;
    phases = e.phases;
    quiet = e.quiet;
    few = (let few = e.few in omega (arith, few, le));
  }

  still_used : (k : Cluster) (w : World) → OnWay k w → is_used k n ≡ true
  still_used k w way = ap (λ (x : Cluster). list_any (λ m. nat_eq m n) x.used) way.alike ∙ there

  -- a step of the caller, or of the frontier, that shows nothing
  pub record IsInner (e : Event) : Type 0 where
    pub silent : reply_of e ≡ None
    pub handed : (k : Cluster) → is_used k n ≡ true → with_step z reconcilers k e ≡ hand k e

  pub goes : (fuel most : ℕ) (end : Store × Reply) (k : Cluster) (w v : World) (e : Event) → OnWay k w → next_step z w n ≡ Some e → IsInner e → happens z w e ≡ v
      → ((m : ℕ) → m ≢ n → v.phase m ≡ w.phase m) → v.trace ≡ w.trace → ((j : Cluster) → OnWay j (later v) → Ends most end (carried_in fuel n) j)
      → Ends (suc most) end (carried_in (suc fuel) n) k
  unfolding carried_in
  goes fuel most end k w v e way next inner is others traced rest =
      subst (λ o. Ended (suc most) end o.0 o.1 (run z count reconcilers k o.0)) (sym shape)
      (subst (λ x. Ended (suc most) end (Step e ∷ (carried_in fuel n z count reconcilers x).0) (carried_in fuel n z count reconcilers x).1 (run z count reconcilers x (carried_in fuel n z count reconcilers x).0))
      (sym handed) (more (rest (hand k e) on)))
    where
      handed : cluster.happens z count reconcilers k (Step e) ≡ hand k e
      handed = inner.handed k (still_used k w way)

      shape : carried_in (suc fuel) n z count reconcilers k ≡ event_and (Step e) (carried_in fuel n) z count reconcilers k
      shape =
          ap (λ s. step_and s (carried_in fuel n) z count reconcilers k) (ap (λ x. next_step z x n) way.world ∙ next)
          ∙ ap (λ r. step_by e r (carried_in fuel n) z count reconcilers k) inner.silent

      on : OnWay (hand k e) (later v)
      on = record {
        world = after_more z opening k.events e ∙ ap (λ x. step z x e) way.world ∙ ap later is;
        alike = ap (λ (x : Cluster). record x { events = k.events ++ e ∷ [] }) way.alike;
        others = λ m ne. others m ne ∙ way.others m ne;
        traced = traced ∙ way.traced;
      }

      more : Ends most end (carried_in fuel n) (hand k e)
          → Ended (suc most) end (Step e ∷ (carried_in fuel n z count reconcilers (hand k e)).0) (carried_in fuel n z count reconcilers (hand k e)).1
          (run z count reconcilers (hand k e) (carried_in fuel n z count reconcilers (hand k e)).0)
      more o = record {
        at = o.at;
        told = o.told;
        left = o.left;
        shown = o.shown;
        idle = o.idle;
        others = o.others;
        used = o.used;
        callers = o.callers;
        incarnations = o.incarnations;
        phases = o.phases;
        quiet = o.quiet;
        few = (let few = o.few in omega (arith, few));
      }

  -- the reply
  abbrev heard_in : Cluster → Cluster
  heard_in k = hand (hears reconcilers k (controller_at k n) (delivered z k.events (event.Reply n))) (event.Reply n)

  pub replies : (fuel : ℕ) (k : Cluster) (w : World) (reply : Reply) → OnWay k w → IsQuiet w → next_step z w n ≡ Some (event.Reply n) → happens z w (event.Reply n) ≡ with_reply w n reply
      → Ends 1 (now_of z w, reply) (carried_in (suc fuel) n) k
  unfolding carried_in delivered
  replies fuel k w reply way quiet next is =
      subst (λ o. Ended 1 end o.0 o.1 (run z count reconcilers k o.0)) (sym shape)
      (subst (λ b. Ended 1 end (Step (event.Reply n) ∷ []) (cond b (delivered z k.events (event.Reply n)) None) (cond b (heard_in k) k)) (sym (still_used k w way)) ended)
    where
      end : Store × Reply
      end = (now_of z w, reply)

      shape : carried_in (suc fuel) n z count reconcilers k ≡ reply_to n z count reconcilers k
      shape = ap (λ s. step_and s (carried_in fuel n) z count reconcilers k) (ap (λ x. next_step z x n) way.world ∙ next)

      world : after z opening (k.events ++ event.Reply n ∷ []) ≡ later (with_reply w n reply)
      world = after_more z opening k.events (event.Reply n) ∙ ap (λ x. step z x (event.Reply n)) way.world ∙ ap later is

      world_heard : world_of z (heard_in k) ≡ later (with_reply w n reply)
      world_heard = ap (λ es. after z opening (es ++ event.Reply n ∷ [])) (heard_events reconcilers k (controller_at k n) (delivered z k.events (event.Reply n))) ∙ world

      traces : trace z (k.events ++ event.Reply n ∷ []) ≡ trace z k.events ++ item.Reply w.now n reply ∷ []
      traces = ap (λ (x : World). x.trace) world ∙ ap (λ (x : World). x.trace ++ item.Reply w.now n reply ∷ []) (sym way.world)

      told : delivered z k.events (event.Reply n) ≡ Some reply
      told = ap (λ l. reply_in (drop (length (trace z k.events)) l)) traces ∙ ap reply_in (drop-append_seam (trace z k.events) (item.Reply w.now n reply ∷ []))

      phases : (heard_in k).phases ≡ (hears reconcilers k0 (controller_at k0 n) (Some reply)).phases
      phases =
          ap (λ o. (hears reconcilers k (controller_at k n) o).phases) told
          ∙ ap (λ (x : Cluster). (hears reconcilers x (controller_at x n) (Some reply)).phases) way.alike
          ∙ heard_phases reconcilers k0 k.events (controller_at k0 n) (Some reply)

      ended : Ended 1 end (Step (event.Reply n) ∷ []) (delivered z k.events (event.Reply n)) (heard_in k)
      ended = record {
        at = w.now;
        told = told;
        left = ap (now_of z) world_heard;
        shown = ap (λ (x : World). x.trace) world_heard ∙ ap (λ l. l ++ item.Reply w.now n reply ∷ []) way.traced;
        idle = ap (λ (x : World). x.phase n) world_heard ∙ changed-same w.phase n Idle;
        others = λ m ne. ap (λ (x : World). x.phase m) world_heard ∙ changed-other w.phase n Idle m ne ∙ way.others m ne;
        used = heard_used reconcilers k (controller_at k n) (delivered z k.events (event.Reply n)) ∙ ap (λ (x : Cluster). x.used) way.alike;
        callers = heard_callers reconcilers k (controller_at k n) (delivered z k.events (event.Reply n)) ∙ ap (λ (x : Cluster). x.callers) way.alike;
        incarnations = heard_incarnations reconcilers k (controller_at k n) (delivered z k.events (event.Reply n)) ∙ ap (λ (x : Cluster). x.incarnations) way.alike;
        phases = phases;
        quiet = subst IsQuiet (sym world_heard) (record { free = quiet.free; passed = quiet.passed });
        few = omega arith;
      }
