-- Each event of a cluster keeps what is kept.
use Rattle.std.proofs.Common.{◌≡◌, ◌<◌, ◌==◌, inl, inr, ℕ, Bool, true, false, cond, List, [], ◌∷◌, ◌++◌, length, drop, Option, Some, None, refl, sym, ap, subst, ◌∙◌, eq-eqb, ne_eqb, append-nil, arith}
use Rattle.std.specs.Prelude.{nat_lt, ◌&&◌, ◌||◌}
use Rattle.std.specs.List.{range_with_len}
use Rattle.std.proofs.Math.Seq.{drop-append_seam}
use Rattle.std.proofs.lemmas.Bool.{lt-ltb, ltb-true}
use Rattle.std.proofs.lemmas.List.Folds.{list_any_at}
use Rattle.std.proofs.lemmas.List.FromFn.{get_or-range_with_len, length-range_with_len}
use Rattle.std.proofs.lemmas.Option.{none-some, same_Some}
use Rattle.requests.specs.declared.request.Request.{Request}
use Rattle.requests.specs.declared.reply.Reply.{Reply}
use Rattle.interleavings.specs.declared.event.Event.{Event}
use Rattle.interleavings.specs.declared.event.Event.TheVariants as event
use Rattle.interleavings.specs.declared.trace.Item.{Item}
use Rattle.interleavings.specs.declared.trace.Item.TheVariants as item
use Rattle.interleavings.specs.Step.{step}
use Rattle.interleavings.specs.Trace.{after, reply_in, trace}
use Rattle.interleavings.specs.World.{Size, World, opening}
use Rattle.interleavings.proofs.Basics.{Compared, same, other, compare, eq_self}
use Rattle.rounds.specs.Phase.{asks, takes}
use Rattle.rounds.specs.Reconciler.{Reconciler}
use Rattle.rounds.specs.Transcript.{Incarnation}
use Rattle.rounds.specs.World.{put}
use Rattle.cluster_runs.specs.declared.event.ClusterEvent.{ClusterEvent}
use Rattle.cluster_runs.specs.declared.event.ClusterEvent.TheVariants.{Next, Outside, Step, Crash}
use Rattle.cluster_runs.specs.Cluster.{Cluster, controller_at, controller_by, first_incarnation, hand, hand_if, happens, hears, is_idle, is_nobody, is_used, lowest_unused, run, start, delivered, with_crash, with_next, with_outside, with_step}
use Rattle.cluster_runs.proofs.Heard.{next_asked}
use Rattle.cluster_runs.proofs.Kept.{IsKept, among, call_kept, crash_kept, reply_kept, used_kept}
use Rattle.cluster_runs.proofs.Traces.{after_more, call_trace, check_trace, compact_trace, crash_trace, part_trace, publish_trace, raise_trace, read_at_trace, read_trace, reply_trace, reserve_trace}
use Rattle.cluster_runs.proofs.Unused.{lowest_is_unused}

module _ (z : Size) (reconcilers : ℕ → Reconciler) (count : ℕ) where
  abbrev pub Keeps : Cluster → Type 0
  Keeps k = IsKept reconcilers count k.phases k.crashes k.callers k.used k.incarnations (trace z k.events)

  trace_more : (events : List Event) (e : Event) → trace z (events ++ e ∷ []) ≡ (step z (after z opening events) e).trace
  trace_more events e = ap (λ (w : World). w.trace) (after_more z opening events e)

  -- ---- one event more
  module _ (k : Cluster) (kept : Keeps k) where
    abbrev w : World
    w = after z opening k.events

    abbrev items : List Item
    items = trace z k.events

    abbrev KeepsOver : List Item → Type 0
    KeepsOver more = IsKept reconcilers count k.phases k.crashes k.callers k.used k.incarnations more

    -- nothing is added to the trace
    quiet_kept : (e : Event) → (step z w e).trace ≡ items → Keeps (hand k e)
    quiet_kept e alike = subst KeepsOver (sym (trace_more k.events e ∙ alike)) kept

    quiet_if : (b : Bool) (e : Event) → (step z w e).trace ≡ items → Keeps (hand_if b k e)
    quiet_if true e alike = quiet_kept e alike
    quiet_if false e alike = kept

    called_kept : (n : ℕ) (r : Request) → is_used k n ≡ true
        → ((incarnation : Incarnation) → k.incarnations n ≡ Some incarnation → r ≡ next_asked (reconcilers incarnation.controller) n items)
        → Keeps (hand k (event.Call n r))
    called_kept n r is asked =
        elim (call_trace z w n r (w.phase n)) [
          | inl called ↦ subst KeepsOver (sym (trace_more k.events (event.Call n r) ∙ called))
              (call_kept reconcilers count k.phases k.crashes k.callers k.used k.incarnations items kept w.now n r is asked)
          | inr alike ↦ quiet_kept (event.Call n r) alike
        ]

    -- ---- a controller
    next_kept : (c : ℕ) → c < count → (b : Bool) → Keeps (cond b (hand k (event.Call (k.callers c) (asks (reconcilers c) (k.phases c)))) k)
    next_kept c low false = kept
    next_kept c low true = called_kept (k.callers c) (asks (reconcilers c) (k.phases c)) (kept.known (k.callers c) _ (kept.live c low)) asked
      where
        asked : (incarnation : Incarnation) → k.incarnations (k.callers c) ≡ Some incarnation
            → asks (reconcilers c) (k.phases c) ≡ next_asked (reconcilers incarnation.controller) (k.callers c) items
        asked incarnation is =
            let mine = same_Some (record { controller = c; crashes = k.crashes c }) incarnation (sym (kept.live c low) ∙ is) in
            ap (asks (reconcilers c)) (kept.phases_are c low)
            ∙ ap (λ (l : Incarnation). next_asked (reconcilers l.controller) (k.callers c) items) mine

    crashed_kept : (c : ℕ) → Keeps (with_crash k c)
    crashed_kept c =
        subst (IsKept reconcilers count _ _ _ _ _) (sym (trace_more k.events (event.Crash (k.callers c)) ∙ crash_trace z w (k.callers c) (w.phase (k.callers c))))
        (crash_kept reconcilers count k.phases k.crashes k.callers k.used k.incarnations items kept c (lowest_unused k) (lowest_is_unused k))

    -- ---- a reply
    module _ (n : ℕ) where
      present_is : (c : ℕ) → c < count → n ≡ k.callers c → controller_at k n ≡ Some c
      present_is c low e =
          ap (controller_by k n) (ap k.incarnations e ∙ kept.live c low)
          ∙ ap (λ b. cond b (Some c) None) (ap (λ m. k.callers c == m) e ∙ eq_self (k.callers c))

      present_has : (c : ℕ) → controller_at k n ≡ Some c → n ≡ k.callers c
      present_has c is = by (k.incarnations n) is
        where
          by : (incarnation : Option Incarnation) → controller_by k n incarnation ≡ Some c → n ≡ k.callers c
          by None is = absurd (none-some c is)
          by (Some incarnation) is = go (compare (k.callers incarnation.controller) n)
            where
              go : Compared (k.callers incarnation.controller) n → n ≡ k.callers c
              go (same e b) = sym e ∙ ap k.callers (same_Some incarnation.controller c (sym (ap (λ t. cond t (Some incarnation.controller) None) b) ∙ is))
              go (other ne b) = absurd (none-some c (sym (ap (λ t. cond t (Some incarnation.controller) None) b) ∙ is))

      heard_kept : (a : Reply) (who : Option ℕ) → controller_at k n ≡ who → is_used k n ≡ true
          → (step z w (event.Reply n)).trace ≡ items ++ item.Reply w.now n a ∷ []
          → Keeps (hand (hears reconcilers k who (Some a)) (event.Reply n))
      heard_kept a None present used grown =
          subst KeepsOver (sym (trace_more k.events (event.Reply n) ∙ grown))
          (reply_kept reconcilers count k.phases k.crashes k.callers k.used k.incarnations items kept w.now n a k.phases used goes)
        where
          goes : (c : ℕ) → c < count → k.phases c ≡ cond (n == k.callers c) (takes (reconcilers c) (k.phases c) a) (k.phases c)
          goes c low =
              sym (ap (λ b. cond b (takes (reconcilers c) (k.phases c) a) (k.phases c))
              (ne_eqb n (k.callers c) (λ e. absurd (none-some c (sym present ∙ present_is c low e)))))
      heard_kept a (Some d) present used grown =
          let now = put k.phases d (takes (reconcilers d) (k.phases d) a) in
          subst (IsKept reconcilers count now k.crashes k.callers k.used k.incarnations) (sym (trace_more k.events (event.Reply n) ∙ grown))
          (reply_kept reconcilers count k.phases k.crashes k.callers k.used k.incarnations items kept w.now n a now used (λ c low. goes c low (compare c d)))
        where
          goes : (c : ℕ) → c < count → Compared c d → put k.phases d (takes (reconcilers d) (k.phases d) a) c ≡ cond (n == k.callers c) (takes (reconcilers c) (k.phases c) a) (k.phases c)
          goes c low (same e b) =
              ap (λ t. cond t (takes (reconcilers d) (k.phases d) a) (k.phases c)) b
              ∙ ap (λ i. takes (reconcilers i) (k.phases i) a) (sym e)
              ∙ sym (ap (λ t. cond t (takes (reconcilers c) (k.phases c) a) (k.phases c)) (eq-eqb n (k.callers c) (present_has d present ∙ ap k.callers (sym e))))
          goes c low (other ne b) =
              ap (λ t. cond t (takes (reconcilers d) (k.phases d) a) (k.phases c)) b
              ∙ sym (ap (λ t. cond t (takes (reconcilers c) (k.phases c) a) (k.phases c))
              (ne_eqb n (k.callers c) (λ e. ne (same_Some c d (sym (present_is c low e) ∙ present)))))

      delivered_reply : (a : Reply) → (step z w (event.Reply n)).trace ≡ items ++ item.Reply w.now n a ∷ []
          → delivered z k.events (event.Reply n) ≡ Some a
      unfolding delivered
      delivered_reply a grown =
          ap (λ l. reply_in (drop (length items) l)) (trace_more k.events (event.Reply n) ∙ grown)
          ∙ ap reply_in (drop-append_seam items (item.Reply w.now n a ∷ []))

      delivered_nothing : (step z w (event.Reply n)).trace ≡ items → delivered z k.events (event.Reply n) ≡ None
      unfolding delivered
      delivered_nothing alike =
          ap (λ l. reply_in (drop (length items) l)) (trace_more k.events (event.Reply n) ∙ alike ∙ sym (append-nil items))
          ∙ ap reply_in (drop-append_seam items [])

      unheard : (who : Option ℕ) → hears reconcilers k who None ≡ k
      unheard None = refl
      unheard (Some c) = refl

      replied_kept : (b : Bool) → is_used k n ≡ b → Keeps (cond b (hand (hears reconcilers k (controller_at k n) (delivered z k.events (event.Reply n))) (event.Reply n)) k)
      replied_kept true used =
          elim (reply_trace z w n (w.phase n)) [
            | inl delivering ↦ subst (λ a. Keeps (hand (hears reconcilers k (controller_at k n) a) (event.Reply n))) (sym (delivered_reply delivering.0 delivering.1))
                (heard_kept delivering.0 (controller_at k n) refl used delivering.1)
            | inr alike ↦ subst (λ (v : Cluster). Keeps (hand v (event.Reply n)))
                (sym (ap (hears reconcilers k (controller_at k n)) (delivered_nothing alike) ∙ unheard (controller_at k n))) (quiet_kept (event.Reply n) alike)
          ]
      replied_kept false unused = kept

    stepped_kept : (e : Event) → Keeps (with_step z reconcilers k e)
    stepped_kept (event.Call n r) = kept
    stepped_kept (event.Check n) = quiet_if (is_used k n) (event.Check n) (check_trace z w n (w.phase n))
    stepped_kept (event.Reserve n) = quiet_if (is_used k n) (event.Reserve n) (reserve_trace z w n (w.phase n))
    stepped_kept (event.Publish n) = quiet_if (is_used k n) (event.Publish n) (publish_trace z w n (w.phase n))
    stepped_kept event.Raise = quiet_kept event.Raise (raise_trace w (w.log w.frontier))
    stepped_kept (event.Read n) = quiet_if (is_used k n) (event.Read n) (read_trace z w n (w.phase n))
    stepped_kept (event.ReadAt n) = quiet_if (is_used k n) (event.ReadAt n) (read_at_trace z w n (w.phase n))
    stepped_kept (event.Compact n) = quiet_if (is_used k n) (event.Compact n) (compact_trace z w n (w.phase n))
    stepped_kept (event.Part n) = quiet_if (is_used k n) (event.Part n) (part_trace z w n (w.phase n))
    stepped_kept (event.Reply n) = replied_kept n (is_used k n) refl
    stepped_kept (event.Crash n) =
        quiet_if (is_used k n && is_nobody (controller_at k n)) (event.Crash n) (crash_trace z w n (w.phase n))

  -- ---- other clients
  outside_kept : (k : Cluster) → Keeps k → (n : ℕ) (r : Request) (incarnation : Option Incarnation) → k.incarnations n ≡ incarnation → Keeps (with_outside k n r incarnation)
  outside_kept k kept n r (Some incarnation) is = kept
  outside_kept k kept n r None is = go (is_used k n) refl
    where
      nobody : (incarnation : Incarnation) → k.incarnations n ≡ Some incarnation → r ≡ next_asked (reconcilers incarnation.controller) n (trace z k.events)
      nobody incarnation has = absurd (none-some incarnation (sym is ∙ has))

      go : (b : Bool) → is_used k n ≡ b → Keeps (hand (cond b k (record k { used = n ∷ k.used })) (event.Call n r))
      go true used = called_kept k kept n r used nobody
      go false unused =
          called_kept (record k { used = n ∷ k.used }) (used_kept reconcilers count k.phases k.crashes k.callers k.used k.incarnations (trace z k.events) kept n) n r
          (ap (λ b. b || is_used k n) (eq_self n)) nobody

  -- ---- a run
  next_if : (k : Cluster) → Keeps k → (c : ℕ) (b : Bool) → nat_lt c count ≡ b → Keeps (cond b (with_next z reconcilers k c) k)
  next_if k kept c true low = next_kept k kept c (ltb-true c count low) (is_idle ((after z opening k.events).phase (k.callers c)))
  next_if k kept c false high = kept

  crash_if : (k : Cluster) → Keeps k → (c : ℕ) (b : Bool) → Keeps (cond b (with_crash k c) k)
  crash_if k kept c true = crashed_kept k kept c
  crash_if k kept c false = kept

  happens_kept : (k : Cluster) → Keeps k → (e : ClusterEvent) → Keeps (happens z count reconcilers k e)
  happens_kept k kept (Next c) = next_if k kept c (nat_lt c count) refl
  happens_kept k kept (Outside n r) = outside_kept k kept n r (k.incarnations n) refl
  happens_kept k kept (Step e) = stepped_kept k kept e
  happens_kept k kept (Crash c) = crash_if k kept c (nat_lt c count)

  pub run_kept : (k : Cluster) → Keeps k → (es : List ClusterEvent) → Keeps (run z count reconcilers k es)
  run_kept k kept [] = kept
  run_kept k kept (e ∷ es) = run_kept (happens z count reconcilers k e) (happens_kept k kept e) es

  -- ---- the start
  record IsFirst (n : ℕ) (incarnation : Incarnation) : Type 0 where
    low : n < count
    incarnation_is : record { controller = n; crashes = 0 } ≡ incarnation

  is_first : (n : ℕ) (incarnation : Incarnation) → first_incarnation count n ≡ Some incarnation → IsFirst n incarnation
  is_first n incarnation is = go (nat_lt n count) refl is
    where
      go : (b : Bool) → nat_lt n count ≡ b → cond b (Some (record { controller = n; crashes = 0 })) None ≡ Some incarnation → IsFirst n incarnation
      go true low is = record { low = ltb-true n count low; incarnation_is = same_Some _ incarnation is }
      go false high is = absurd (none-some incarnation is)

  among_range : (n : ℕ) → n < count → among (range_with_len 0 count) n ≡ true
  among_range n low =
      list_any_at (λ m. m == n) (range_with_len 0 count) n 0 (let many = length-range_with_len 0 count in omega (arith, many, low))
      (eq-eqb _ n (get_or-range_with_len 0 count n 0 low ∙ omega arith))

  pub start_kept : Keeps (start count)
  start_kept = record {
    asked = λ n incarnation is. tt;
    phases_are = λ c low. refl;
    live = λ c low. ap (λ b. cond b (Some (record { controller = c; crashes = 0 })) None) (lt-ltb c count low);
    born = λ n incarnation is. let none = ap (λ (l : Incarnation). l.crashes) (is_first n incarnation is).incarnation_is in omega (arith, none);
    alone = λ n m incarnation is also. ap (λ (l : Incarnation). l.controller) ((is_first n incarnation is).incarnation_is ∙ sym (is_first m incarnation also).incarnation_is);
    known = λ n incarnation is. among_range n (is_first n incarnation is).low;
    seen = λ i at. absurd at;
  }
