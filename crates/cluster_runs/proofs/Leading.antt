-- Courses, event by event and one after another.
use Rattle.std.proofs.Common.{◌≡◌, ◌<◌, ◌≤◌, ◌+◌, ◌-◌, ◌++◌, ◌∷◌, [], ℕ, suc, Bool, List, length, Option, None, refl, sym, ap, ◌∙◌, subst, append_assoc, arith, cond, get_or, lt-ltb}
use Rattle.std.specs.Prelude.{IfErr, IfOk, Result, Err}
use Rattle.std.proofs.lemmas.List.{append-nil}
use Rattle.std.proofs.lemmas.Result.{IfErr-weaker, IfOk-weaker}
use Rattle.requests.specs.declared.reply.Reply.{Reply}
use Rattle.interleavings.specs.declared.event.Event.{Event}
use Rattle.interleavings.specs.declared.event.Event.TheVariants as event
use Rattle.interleavings.specs.Trace.{after}
use Rattle.interleavings.specs.World.{Size, opening}
use Rattle.history.specs.NextStep.{next_step}
use Rattle.rounds.specs.Phase.{Phase}
use Rattle.rounds.specs.Reconciler.{Reconciler}
use Rattle.cluster_runs.specs.declared.event.ClusterEvent.{ClusterEvent}
use Rattle.cluster_runs.specs.declared.event.ClusterEvent.TheVariants.{Step}
use Rattle.cluster_runs.specs.Cluster.{Cluster, happens, run}
use Rattle.cluster_runs.specs.Leading.{Claim, Comes, FillsUp, GoesAlong, Halts, HasCome, IsShownAs, Leads, StandsStill}
use Rattle.cluster_runs.specs.Shown.{Exceeds, Happens, KeepsCallers, Shows, Stay, StaysConsistent, Tells}
use Rattle.cluster_runs.specs.Turns.{Course, carried, carried_in, ends_with, event_and, followed_by, most_steps, nothing, reply_to, run_of, step_and}
use Rattle.cluster_runs.specs.declared.cluster.Cluster.{Cluster as Program}
use Rattle.cluster_runs.specs.declared.fault.ClusterFault.{ClusterFault}
use Rattle.cluster_runs.specs.declared.fault.ClusterFault.TheVariants.{TooManyCallers}
use Rattle.cluster_runs.proofs.Showing.{present_at, run-append, shown_stand, still_stand}

abbrev Outcome : Type 0
Outcome = List ClusterEvent × Option Reply

fills_on : (z : Size) (n : ℕ) (reconcilers : ℕ → Reconciler) (k : Cluster) (es fs : List ClusterEvent) → FillsUp z n reconcilers k es → FillsUp z n reconcilers k (es ++ fs)
fills_on z n reconcilers k [] fs fills = let few = fills.few in let many = fills.many in absurd (omega (arith, few, many))
fills_on z n reconcilers k (e ∷ es) fs fills = record { few = fills.few; many = fills.many }

module _ {X : Type 0} (reconciler : X → Reconciler) (phase : X → Phase) (is_waiting : X → Bool) where
  pub self_leads : (a : Course) (old : Program) (before : List X) → Leads reconciler phase is_waiting a a old old before before
  self_leads a old before z reconcilers k shows = record { done = []; whole_is = refl; delivered_is = refl; holds = shows }

  -- onward, over the cluster that it led to
  pub come_on : (claim : Claim) (z : Size) (n : ℕ) (reconcilers : ℕ → Reconciler) (k : Cluster) (a b c : Course) (mid : Program) (between : List X) → length between ≡ n
      → HasCome (IsShownAs reconciler phase is_waiting mid between) z n reconcilers k a b → Comes reconciler phase is_waiting claim b c mid between → HasCome claim z n reconcilers k a c
  come_on claim z n reconcilers k a b c mid between same one comes =
      let middle = run z n reconcilers k one.done in
      let two : HasCome claim z n reconcilers middle b c = subst (λ m. HasCome claim z m reconcilers middle b c) same (comes z reconcilers middle one.holds) in
      let all : run z n reconcilers k (one.done ++ two.done) ≡ run z n reconcilers middle two.done = run-append z n reconcilers k one.done two.done in
      record {
        done = one.done ++ two.done;
        whole_is = one.whole_is ∙ ap (λ l. one.done ++ l) two.whole_is ∙ sym (append_assoc one.done two.done (c z n reconcilers (run z n reconcilers middle two.done)).0)
            ∙ ap (λ v. (one.done ++ two.done) ++ (c z n reconcilers v).0) (sym all);
        delivered_is = one.delivered_is ∙ two.delivered_is ∙ ap (λ v. (c z n reconcilers v).1) (sym all);
        holds = subst (λ v. claim z n reconcilers v) (sym all) two.holds;
      }

  pub comes_on : (claim : Claim) (a b c : Course) (old mid : Program) (before between : List X) → length between ≡ length before
      → Leads reconciler phase is_waiting a b old mid before between → Comes reconciler phase is_waiting claim b c mid between → Comes reconciler phase is_waiting claim a c old before
  comes_on claim a b c old mid before between same leads comes z reconcilers k shows =
      come_on claim z (length before) reconcilers k a b c mid between same (leads z reconcilers k shows) comes

  pub leads_on : (a b c : Course) (old mid new : Program) (before between now : List X) → length between ≡ length before
      → Leads reconciler phase is_waiting a b old mid before between → Leads reconciler phase is_waiting b c mid new between now → Leads reconciler phase is_waiting a c old new before now
  leads_on a b c old mid new before between now = comes_on (IsShownAs reconciler phase is_waiting new now) a b c old mid before between

  abbrev pub AreSame : (a b : Course) → Program → List X → Type 0
  AreSame a b old before =
      (z : Size) (reconcilers : ℕ → Reconciler) (k : Cluster) → Shows reconciler phase is_waiting z reconcilers k old before → a z (length before) reconcilers k ≡ b z (length before) reconcilers k

  -- the same course by another name
  pub comes_as : (claim : Claim) (a b c : Course) (old : Program) (before : List X) → AreSame a b old before
      → Comes reconciler phase is_waiting claim b c old before → Comes reconciler phase is_waiting claim a c old before
  comes_as claim a b c old before same comes z reconcilers k shows =
      let one = comes z reconcilers k shows in
      let is = same z reconcilers k shows in
      record { done = one.done; whole_is = ap (λ (o : Outcome). o.0) is ∙ one.whole_is; delivered_is = ap (λ (o : Outcome). o.1) is ∙ one.delivered_is; holds = one.holds }

  pub ends_as : (a b : Course) (old : Program) (before : List X) → AreSame a b old before → Leads reconciler phase is_waiting a b old old before before
  ends_as a b old before same z reconcilers k shows =
      let is = same z reconcilers k shows in
      record { done = []; whole_is = ap (λ (o : Outcome). o.0) is; delivered_is = ap (λ (o : Outcome). o.1) is; holds = shows }

  pub event_leads : (e : ClusterEvent) (next : Course) (old new : Program) (before now : List X) → Happens reconciler phase is_waiting e old new before now
      → Leads reconciler phase is_waiting (event_and e next) next old new before now
  event_leads e next old new before now happens z reconcilers k shows = record { done = e ∷ []; whole_is = refl; delivered_is = refl; holds = happens z reconcilers k shows }

  pub event_halts : (fault : ClusterFault) (e : ClusterEvent) (next : Course) (old : Program) (before now : List X) → Stay reconciler phase before now
      → (fault ≡ TooManyCallers → Exceeds reconciler phase is_waiting e old before) → Halts reconciler phase is_waiting fault (event_and e next) old before now
  event_halts fault e next old before now stay exceeds = (
    event_and e next,
    λ z reconcilers k shows. record {
      done = [];
      whole_is = refl;
      delivered_is = refl;
      holds = (
        still_stand reconciler phase before now reconcilers k.phases stay (shown_stand reconciler phase is_waiting z reconcilers k old before shows),
        λ is. record { few = shows.0.1.few; many = exceeds is z reconcilers k shows },
      );
    },
  )

  -- the same of a reply
  pub reply_leads : (n : ℕ) (delivered : Option Reply) (old new : Program) (before now : List X) → Happens reconciler phase is_waiting (Step (event.Reply n)) old new before now
      → Tells reconciler phase is_waiting n delivered old before → Leads reconciler phase is_waiting (reply_to n) (ends_with delivered) old new before now
  reply_leads n delivered old new before now happens tells z reconcilers k shows =
      record { done = Step (event.Reply n) ∷ []; whole_is = refl; delivered_is = tells z reconcilers k shows; holds = happens z reconcilers k shows }

  pub reply_halts : (fault : ClusterFault) (n : ℕ) (old : Program) (before now : List X) → Stay reconciler phase before now
      → (fault ≡ TooManyCallers → Exceeds reconciler phase is_waiting (Step (event.Reply n)) old before) → Halts reconciler phase is_waiting fault (reply_to n) old before now
  reply_halts fault n old before now stay exceeds = (
    reply_to n,
    λ z reconcilers k shows. record {
      done = [];
      whole_is = refl;
      delivered_is = refl;
      holds = (
        still_stand reconciler phase before now reconcilers k.phases stay (shown_stand reconciler phase is_waiting z reconcilers k old before shows),
        λ is. record { few = shows.0.1.few; many = exceeds is z reconcilers k shows },
      );
    },
  )

  -- a fault while nothing has happened
  pub still_halts : (fault : ClusterFault) (a : Course) (old : Program) (before now : List X) → Stay reconciler phase before now → (fault ≡ TooManyCallers → ⊥)
      → Halts reconciler phase is_waiting fault a old before now
  still_halts fault a old before now stay other = (
    a,
    λ z reconcilers k shows. record {
      done = [];
      whole_is = refl;
      delivered_is = refl;
      holds = (still_stand reconciler phase before now reconcilers k.phases stay (shown_stand reconciler phase is_waiting z reconcilers k old before shows), λ is. absurd (other is));
    },
  )

  pub first_leads : (a : Course) (reply : Option Reply) (next : Option Reply → Course) (old new : Program) (before now : List X)
      → Leads reconciler phase is_waiting a (ends_with reply) old new before now → Leads reconciler phase is_waiting (followed_by a next) (next reply) old new before now
  first_leads a reply next old new before now leads z reconcilers k shows =
      let n = length before in
      let one = leads z reconcilers k shows in
      let r = (a z n reconcilers k).1 in
      let all : (a z n reconcilers k).0 ≡ one.done = one.whole_is ∙ append-nil one.done in
      record {
        done = one.done;
        whole_is = ap (λ l. l ++ (next r z n reconcilers (run z n reconcilers k l)).0) all
            ∙ ap (λ o. one.done ++ (next o z n reconcilers (run z n reconcilers k one.done)).0) one.delivered_is;
        delivered_is = ap (λ l. (next r z n reconcilers (run z n reconcilers k l)).1) all ∙ ap (λ o. (next o z n reconcilers (run z n reconcilers k one.done)).1) one.delivered_is;
        holds = one.holds;
      }

  pub first_halts : (fault : ClusterFault) (a : Course) (next : Option Reply → Course) (old : Program) (before now : List X) → Halts reconciler phase is_waiting fault a old before now
      → Halts reconciler phase is_waiting fault (followed_by a next) old before now
  first_halts fault a next old before now halts = (
    followed_by halts.0 next,
    λ z reconcilers k shows.
        let n = length before in
        let one = halts.1 z reconcilers k shows in
        let v = run z n reconcilers k one.done in
        let r = (a z n reconcilers k).1 in
        let left = halts.0 z n reconcilers v in
        let then : Cluster → Outcome = λ w. next left.1 z n reconcilers w in
        let both = run-append z n reconcilers k one.done left.0 in
        record {
          done = one.done;
          whole_is = ap (λ l. l ++ (next r z n reconcilers (run z n reconcilers k l)).0) one.whole_is
              ∙ ap (λ o. (one.done ++ left.0) ++ (next o z n reconcilers (run z n reconcilers k (one.done ++ left.0))).0) one.delivered_is
              ∙ append_assoc one.done left.0 (then (run z n reconcilers k (one.done ++ left.0))).0
              ∙ ap (λ w. one.done ++ (left.0 ++ (then w).0)) both;
          delivered_is = ap (λ l. (next r z n reconcilers (run z n reconcilers k l)).1) one.whole_is
              ∙ ap (λ o. (next o z n reconcilers (run z n reconcilers k (one.done ++ left.0))).1) one.delivered_is
              ∙ ap (λ w. (then w).1) both;
          holds = (one.holds.0, λ is. fills_on z n reconcilers v left.0 (then (run z n reconcilers v left.0)).0 (one.holds.1 is));
        },
  )

  pub halts_on : (fault : ClusterFault) (a b : Course) (old mid : Program) (before between now : List X) → length between ≡ length before
      → Leads reconciler phase is_waiting a b old mid before between → Halts reconciler phase is_waiting fault b mid between now → Halts reconciler phase is_waiting fault a old before now
  halts_on fault a b old mid before between now same leads halts =
      (halts.0, comes_on (StandsStill reconciler phase is_waiting fault halts.0 now) a b halts.0 old mid before between same leads halts.1)

  pub halts_as : (fault : ClusterFault) (a b : Course) (old : Program) (before now : List X) → AreSame a b old before
      → Halts reconciler phase is_waiting fault b old before now → Halts reconciler phase is_waiting fault a old before now
  halts_as fault a b old before now same halts =
      (halts.0, comes_as (StandsStill reconciler phase is_waiting fault halts.0 now) a b halts.0 old before same halts.1)

  -- a call that fails on the way
  pub goes_no_further : {T : Type 0} {a : Course} {left : T → Course} {old new : Program} {before now : List X} {r : Result T ClusterFault} (fault : ClusterFault) → r ≡ Err fault
      → StaysConsistent old new before now r → Halts reconciler phase is_waiting fault a old before now → GoesAlong reconciler phase is_waiting a left old new before now r
  goes_no_further {T} {a} {left} {old} {new} {before} {now} {r} fault is kept halts = record {
    consistent = kept;
    leads = subst (λ s. IfOk s (λ done. Leads reconciler phase is_waiting a (left done) old new before now)) (sym is) tt;
    halts = subst (λ s. IfErr s (λ fault. Halts reconciler phase is_waiting fault a old before now)) (sym is) halts;
  }

  -- a call that follows a course, by another name of it
  pub goes_as : {T : Type 0} {b : Course} {left : T → Course} {old new : Program} {before now : List X} {r : Result T ClusterFault} (a : Course) → AreSame a b old before
      → GoesAlong reconciler phase is_waiting b left old new before now r → GoesAlong reconciler phase is_waiting a left old new before now r
  goes_as {T} {b} {left} {old} {new} {before} {now} {r} a same goes = record {
    consistent = goes.consistent;
    leads = IfOk-weaker r _ _ (λ done. comes_as (IsShownAs reconciler phase is_waiting new now) a b (left done) old before same) goes.leads;
    halts = IfErr-weaker r _ _ (λ fault. halts_as fault a b old before now same) goes.halts;
  }

  -- a call that continues along a course
  pub goes_on : {T : Type 0} {b : Course} {left : T → Course} {old mid new : Program} {before between now : List X} {r : Result T ClusterFault} (a : Course)
      → length between ≡ length before → KeepsCallers old mid → Leads reconciler phase is_waiting a b old mid before between
      → GoesAlong reconciler phase is_waiting b left mid new between now r → GoesAlong reconciler phase is_waiting a left old new before now r
  goes_on {T} {b} {left} {old} {mid} {new} {before} {between} {now} {r} a same keeps leads goes = record {
    consistent = record {
      many = goes.consistent.many ∙ same;
      present = goes.consistent.present ∙ keeps;
      follows = goes.consistent.follows;
      reasons = goes.consistent.reasons;
    };
    leads = IfOk-weaker r _ _ (λ done. leads_on a b (left done) old mid new before between now same leads) goes.leads;
    halts = IfErr-weaker r _ _ (λ fault. halts_on fault a b old mid before between now same leads) goes.halts;
  }

-- ---- carrying

pub carries_on : (steps n : ℕ) (z : Size) (count : ℕ) (reconcilers : ℕ → Reconciler) (k : Cluster) (step : Option Event) → step ≡ next_step z (after z opening k.events) n
    → carried_in (suc steps) n z count reconcilers k ≡ step_and step (carried_in steps n) z count reconcilers k
unfolding carried_in
carries_on steps n z count reconcilers k step is = ap (λ o. step_and o (carried_in steps n) z count reconcilers k) (sym is)

one_less : (m i : ℕ) → i < m → m - i ≡ suc (m - (i + 1))
one_less m i low = omega arith

none_left : (m i : ℕ) → m ≤ i → m - i ≡ 0
none_left m i past = omega arith

-- what is left of a count-down at an iteration
module _ {X : Type 0} (reconciler : X → Reconciler) (phase : X → Phase) (is_waiting : X → Bool) (whole : Course) (left : ℕ → Course) (most : ℕ) where
  abbrev pub GoneFar : ℕ → (old new : Program) → (before now : List X) → Type 0
  GoneFar i old new before now = Leads reconciler phase is_waiting whole (left (most - i)) old new before now

  pub far_at : (i : ℕ) (old mid : Program) (before between : List X) → i < most → GoneFar i old mid before between
      → Leads reconciler phase is_waiting whole (left (suc (most - (i + 1)))) old mid before between
  far_at i old mid before between low leads = subst (λ s. Leads reconciler phase is_waiting whole (left s) old mid before between) (one_less most i low) leads

  pub far_begins : (old : Program) (before : List X) → Leads reconciler phase is_waiting whole (left most) old old before before → GoneFar 0 old old before before
  far_begins old before leads =
      let all : most - 0 ≡ most = omega arith in subst (λ m. Leads reconciler phase is_waiting whole (left m) old old before before) (sym all) leads

  pub far_on : (i : ℕ) (next : Course) (old mid new : Program) (before between now : List X) → i < most → length between ≡ length before → GoneFar i old mid before between
      → Leads reconciler phase is_waiting (left (suc (most - (i + 1)))) next mid new between now → Leads reconciler phase is_waiting whole next old new before now
  far_on i next old mid new before between now low same leads more =
      leads_on reconciler phase is_waiting whole (left (suc (most - (i + 1)))) next old mid new before between now same (far_at i old mid before between low leads) more

  pub far_halts : (i : ℕ) (fault : ClusterFault) (old mid : Program) (before between now : List X) → i < most → length between ≡ length before → GoneFar i old mid before between
      → Halts reconciler phase is_waiting fault (left (suc (most - (i + 1)))) mid between now → Halts reconciler phase is_waiting fault whole old before now
  far_halts i fault old mid before between now low same leads halts =
      halts_on reconciler phase is_waiting fault whole (left (suc (most - (i + 1)))) old mid before between now same (far_at i old mid before between low leads) halts

  pub far_ends : (i : ℕ) (old new : Program) (before now : List X) → left 0 ≡ nothing → most ≤ i → GoneFar i old new before now → Leads reconciler phase is_waiting whole nothing old new before now
  far_ends i old new before now none past leads =
      subst (λ b. Leads reconciler phase is_waiting whole b old new before now) (ap left (none_left most i past) ∙ none) leads

module _ {X : Type 0} (reconciler : X → Reconciler) (phase : X → Phase) (is_waiting : X → Bool) where
  pub carrying_begins : (n : ℕ) (old : Program) (before : List X) → Leads reconciler phase is_waiting (carried n) (carried_in most_steps n) old old before before
  unfolding carried
  carrying_begins n old before = self_leads reconciler phase is_waiting (carried n) old before

pub none_carried : (n : ℕ) → carried_in 0 n ≡ nothing
unfolding carried_in
none_carried n = refl

-- if the controller exists, the steps for its open request
pub runs_carried : {X : Type 0} (reconciler : X → Reconciler) (phase : X → Phase) (is_waiting : X → Bool) (c n : ℕ) (old : Program) (before : List X) → c < length before
    → n ≡ get_or old.callers.present.items c n
    → (z : Size) (reconcilers : ℕ → Reconciler) (k : Cluster) → Shows reconciler phase is_waiting z reconcilers k old before
    → run_of c z (length before) reconcilers k ≡ carried n z (length before) reconcilers k
runs_carried reconciler phase is_waiting c n old before low at z reconcilers k shows =
    let mine : n ≡ k.callers c = present_at (length before) k old shows.0.1 c n low at in
    ap (λ b. cond b (carried (k.callers c) z (length before) reconcilers k) ([], None)) (lt-ltb c (length before) low)
    ∙ ap (λ m. carried m z (length before) reconcilers k) (sym mine)
