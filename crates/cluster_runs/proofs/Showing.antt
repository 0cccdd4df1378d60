-- The program's state shows the cluster after each event.
use Rattle.std.proofs.Common.{◌≡◌, ◌≢◌, ◌⊎◌, inl, inr, ◌==◌, ◌&&◌, ◌<◌, ◌≤◌, ◌+◌, take, ℕ, zero, suc, Bool, true, false, cond, List, [], ◌∷◌, ◌++◌, drop, length, map, Option, Some, None, refl, sym, ap, subst, ◌∙◌, arith, get_or, lt-ltb}
use Rattle.std.specs.Prelude.{slice_get, slice_set, slice_index_or, IfSome, nat_lt, is_some, option_map, Result, Ok, Err, IfErr, IsErrOf, OnErr, OnOk}
use Rattle.history.proofs.Pieces.{get_any, on_ok_by}
use Rattle.std.specs.List.{AllByRecursion}
use Rattle.std.proofs.lemmas.Bool.{false≢true}
use Rattle.std.proofs.Math.Seq.{drop-append_seam}
use Rattle.std.proofs.lemmas.List.{length-set, take-append-drop, take_more}
use Rattle.std.proofs.lemmas.List.FromFn.{length-range_with_len}
use Rattle.std.proofs.lemmas.Option.{none-some, same_Some, slice_get-map}
use Rattle.requests.specs.declared.request.Request.{Request}
use Rattle.requests.specs.declared.reply.Reply.{Reply}
use Rattle.interleavings.specs.declared.event.Event.{Event}
use Rattle.interleavings.specs.declared.event.Event.TheVariants as event
use Rattle.interleavings.specs.Step.{step}
use Rattle.interleavings.specs.Trace.{after, reply_in, trace}
use Rattle.interleavings.specs.World.{Idle, Size, World, opening}
use Rattle.interleavings.specs.World as world
use Rattle.interleavings.proofs.Basics.{Compared, Least, above, atmost, compare, eq_self, least, other, same}
use Rattle.history.specs.After.{IsAfter, IsReplyTo}
use Rattle.history.specs.Named.{callers, named}
use Rattle.interleavings.specs.Callers.{named_by}
use Rattle.history.specs.Replayed.{delivered_at}
use Rattle.history.specs.declared.replaying.Replay.{Replay}
use Rattle.history.proofs.Reached.{after_more}
use Rattle.rounds.specs.Phase.{Phase, asks, reading_set, takes}
use Rattle.rounds.specs.Reconciler.{Reconciler}
use Rattle.rounds.specs.Transcript.{Incarnation}
use Rattle.rounds.specs.World.{AreMadeOf, StandAt, put}
use Rattle.cluster_runs.specs.declared.event.ClusterEvent.{ClusterEvent}
use Rattle.cluster_runs.specs.declared.event.ClusterEvent.TheVariants.{Next, Outside, Step, Crash}
use Rattle.cluster_runs.specs.Cluster.{Cluster, controller_at, controller_by, hand, hand_if, happens, hears, is_idle, is_nobody, is_used, lowest_unused, run, start, delivered, with_crash, with_next, with_outside, with_step, with_used}
use Rattle.cluster_runs.specs.UsedCallers.{AreCallers, owner}
use Rattle.cluster_runs.specs.Shown.{Applies, Becomes, Follows, Hands, Happens, Hears, HoldsEvents, IsCluster, Overfills, Shows, Stands, Stay}
use Rattle.cluster_runs.specs.Faults.{IsShort}
use Rattle.cluster_runs.specs.declared.callers.UsedCallers.{UsedCallers}
use Rattle.cluster_runs.specs.declared.cluster.Cluster.{Cluster as Program}
use Rattle.cluster_runs.specs.declared.fault.ClusterFault.{ClusterFault}
use Rattle.cluster_runs.specs.declared.fault.ClusterFault.TheVariants.{BadCapacity, BadShards, TooManyCallers}
use Rattle.cluster_runs.proofs.Kept.{among, put_other, put_same}
use Rattle.cluster_runs.proofs.Calling.{among_first, among_later, not_among}
use Rattle.cluster_runs.proofs.Naming.{all_more, all_named, few_callers}
use Rattle.cluster_runs.proofs.Standing.{goes_on, idle_stays, others_stay, delivered_was_busy}

-- ---- the events that were handled

step_more : (z : Size) (events : List Event) (e : Event) (n : ℕ) → (after z opening (events ++ e ∷ [])).phase n ≡ (step z (after z opening events) e).phase n
step_more z events e n = ap (λ (w : World). w.phase n) (after_more z events opening e)

module _ (z : Size) (events : List Event) (used : List ℕ) (items : List Event) (replay : Replay) (holds : HoldsEvents z events used items replay) where
  events_more : (e : Event) (old new : Program) → old.events.items ≡ items → old.replay ≡ replay → Hands e old new → IfSome (named_by e) (λ n. among used n ≡ true)
      → HoldsEvents z (events ++ e ∷ []) used new.events.items new.replay
  events_more e old new alike was hands calls = record {
    events_are = hands.events ∙ ap (λ l. l ++ e ∷ []) (alike ∙ holds.events_are);
    taken = hands.taken z events (subst (IsAfter z events) (sym was) holds.taken);
    names = all_named (λ n. among used n ≡ true) events e holds.names calls;
    idle = λ n fresh. step_more z events e n ∙ others_stay z (after z opening events) e n (unnamed n fresh) ∙ holds.idle n fresh;
  }
    where
      unnamed : (n : ℕ) → among used n ≡ false → named_by e ≢ Some n
      unnamed n fresh is = false≢true (sym fresh ∙ subst (λ o. IfSome o (λ n. among used n ≡ true)) is calls)

  events_wider : (n : ℕ) → HoldsEvents z events (n ∷ used) items replay
  events_wider n = record {
    events_are = holds.events_are;
    taken = holds.taken;
    names = all_more (λ m. among used m ≡ true) (λ m. among (n ∷ used) m ≡ true) (named [] events) (λ m there. among_later n used m there) holds.names;
    idle = λ m fresh. holds.idle m (not_among n used m fresh).1;
  }

  -- so many callers that the store refuses were used before
  few_named : (e : Event) → length used ≤ 4096 → IfSome (named_by e) (λ n. among used n ≡ true) → 4096 < callers (events ++ e ∷ []) → ⊥
  few_named e few named many =
      let less = few_callers (events ++ e ∷ []) used (all_named (λ n. among used n ≡ true) events e holds.names named) in omega (arith, less, few, many)

named_used : (e : Event) (n : ℕ) (used : List ℕ) → named_by e ≡ Some n → among used n ≡ true → IfSome (named_by e) (λ m. among used m ≡ true)
named_used e n used is there = subst (λ o. IfSome o (λ m. among used m ≡ true)) (sym is) there

-- ---- the program's cluster

pub cluster_more : (z : Size) (count : ℕ) (k : Cluster) (old new : Program) (e : Event) → IsCluster z count k old → Hands e old new
    → IfSome (named_by e) (λ n. is_used k n ≡ true) → IsCluster z count (hand k e) new
cluster_more z count k old new e is hands named =
    (events_more z k.events k.used _ _ is.0 e old new refl refl hands named, subst (AreCallers count k) (sym hands.callers) is.1)

pub cluster_few : (z : Size) (count : ℕ) (k : Cluster) (program : Program) (e : Event) → IsCluster z count k program
    → IfSome (named_by e) (λ n. is_used k n ≡ true) → 4096 < callers (k.events ++ e ∷ []) → ⊥
cluster_few z count k program e is named many = few_named z k.events k.used _ _ is.0 e is.1.few named many

pub used_named : (k : Cluster) (e : Event) (n : ℕ) → named_by e ≡ Some n → is_used k n ≡ true → IfSome (named_by e) (λ m. is_used k m ≡ true)
used_named k e n is there = named_used e n k.used is there

pub if_used : (z : Size) (count : ℕ) (k : Cluster) (e : Event) (program : Program) (b : Bool) → b ≡ true → IsCluster z count (hand k e) program → IsCluster z count (hand_if b k e) program
if_used z count k e program b is shows = subst (λ b. IsCluster z count (hand_if b k e) program) (sym is) shows

pub hand_used : (b : Bool) (k : Cluster) (e : Event) → (hand_if b k e).used ≡ k.used
hand_used true k e = refl
hand_used false k e = refl

pub present_at : (count : ℕ) (k : Cluster) (program : Program) → AreCallers count k program.callers → (c n : ℕ) → c < count → n ≡ get_or program.callers.present.items c n → n ≡ k.callers c
present_at count k program are c n low is = get_any program.callers.present.items c n 0 (let many = are.count_is in omega (arith, many, low)) is ∙ are.present_is c low

-- a crash of a caller that is no controller's now
pub gone_more : (z : Size) (count : ℕ) (k : Cluster) (n : ℕ) (program : Program) → is_some (controller_at k n) ≡ false → IsCluster z count (hand_if (is_used k n) k (event.Crash n)) program
    → IsCluster z count (hand_if (is_used k n && is_nobody (controller_at k n)) k (event.Crash n)) program
gone_more z count k n program none is = by (controller_at k n) none (is_used k n) is
  where
    by : (who : Option ℕ) → is_some who ≡ false → (b : Bool) → IsCluster z count (hand_if b k (event.Crash n)) program → IsCluster z count (hand_if (b && is_nobody who) k (event.Crash n)) program
    by None none true is = is
    by None none false is = is
    by (Some c) none b is = absurd (false≢true (sym none))

pub gone_absent : (z : Size) (count : ℕ) (k : Cluster) (n : ℕ) (program : Program) → is_some (controller_at k n) ≡ true → IsCluster z count k program
    → IsCluster z count (hand_if (is_used k n && is_nobody (controller_at k n)) k (event.Crash n)) program
gone_absent z count k n program some is = by (controller_at k n) some (is_used k n)
  where
    by : (who : Option ℕ) → is_some who ≡ true → (b : Bool) → IsCluster z count (hand_if (b && is_nobody who) k (event.Crash n)) program
    by None some b = absurd (false≢true some)
    by (Some c) some true = is
    by (Some c) some false = is

-- ---- another client's call

module _ (z : Size) (count : ℕ) (k : Cluster) (n : ℕ) (r : Request) where
  used_events : (items : List Event) (replay : Replay) (b : Bool) → HoldsEvents z k.events k.used items replay
      → HoldsEvents z (cond b k (record k { used = n ∷ k.used })).events (cond b k (record k { used = n ∷ k.used })).used items replay
  used_events items replay true holds = holds
  used_events items replay false holds = events_wider z k.events k.used items replay holds n

  used_now : (b : Bool) → is_used k n ≡ b → is_used (cond b k (record k { used = n ∷ k.used })) n ≡ true
  used_now true is = is
  used_now false is = among_first n k.used

  admitted_cluster : (old middle : Program) → IsCluster z count k old → middle.events.items ≡ old.events.items → middle.replay ≡ old.replay
      → AreCallers count (with_used k n) middle.callers → IsCluster z count (with_used k n) middle
  admitted_cluster old middle is alike was are = (
    subst (λ l. HoldsEvents z (with_used k n).events (with_used k n).used l middle.replay) (sym alike)
        (subst (λ t. HoldsEvents z (with_used k n).events (with_used k n).used old.events.items t) (sym was) (used_events _ _ (is_used k n) is.0)),
    are,
  )

  pub outside_more : (old middle new : Program) → IsCluster z count k old → middle.events.items ≡ old.events.items → middle.replay ≡ old.replay
      → AreCallers count (with_used k n) middle.callers → k.incarnations n ≡ None → Hands (event.Call n r) middle new → IsCluster z count (with_outside k n r (k.incarnations n)) new
  outside_more old middle new is alike was are nobody hands =
      subst (λ incarnation. IsCluster z count (with_outside k n r incarnation) new) (sym nobody)
      (cluster_more z count (with_used k n) middle new (event.Call n r) (admitted_cluster old middle is alike was are) hands (used_now (is_used k n) refl))

  pub outside_few : (old middle : Program) → IsCluster z count k old → middle.events.items ≡ old.events.items → middle.replay ≡ old.replay
      → AreCallers count (with_used k n) middle.callers → 4096 < callers ((with_used k n).events ++ event.Call n r ∷ []) → ⊥
  outside_few old middle is alike was are many =
      cluster_few z count (with_used k n) middle (event.Call n r) (admitted_cluster old middle is alike was are) (used_now (is_used k n) refl) many

  pub used_same_events : (with_used k n).events ≡ k.events
  used_same_events = by (is_used k n)
    where
      by : (b : Bool) → (cond b k (record k { used = n ∷ k.used })).events ≡ k.events
      by true = refl
      by false = refl

pub no_incarnation : (incarnation : Option Incarnation) → is_some incarnation ≡ false → incarnation ≡ None
no_incarnation None is = refl
no_incarnation (Some incarnation) is = absurd (false≢true (sym is))

-- ---- the controllers

if_some_on : {X : Type 0} (P Q : X → Type 0) (o : Option X) → ((x : X) → o ≡ Some x → P x → Q x) → IfSome o P → IfSome o Q
if_some_on P Q None goes holds = tt
if_some_on P Q (Some x) goes holds = goes x refl holds

low_of : {X : Type 0} (xs : List X) (i : ℕ) (x : X) → slice_get xs i ≡ Some x → i < length xs
low_of [] i x there = absurd (none-some x there)
low_of (z ∷ xs) zero x there = omega arith
low_of (z ∷ xs) (suc i) x there = let less = low_of xs i x there in omega arith

get_same : {X : Type 0} (xs : List X) (c : ℕ) (x y : X) → slice_get xs c ≡ Some x → slice_get (slice_set xs c y) c ≡ Some y
get_same [] c x y there = absurd (none-some x there)
get_same (z ∷ xs) zero x y there = refl
get_same (z ∷ xs) (suc c) x y there = get_same xs c x y there

get_other : {X : Type 0} (xs : List X) (c d : ℕ) (y : X) → d ≢ c → slice_get (slice_set xs c y) d ≡ slice_get xs d
get_other [] c d y apart = refl
get_other (z ∷ xs) zero zero y apart = absurd (apart refl)
get_other (z ∷ xs) zero (suc d) y apart = refl
get_other (z ∷ xs) (suc c) zero y apart = refl
get_other (z ∷ xs) (suc c) (suc d) y apart = get_other xs c d y (λ e. apart (ap suc e))

-- ---- controllers that stay

map_stays : {X Z : Type 0} (f : X → Z) (xs : List X) (c : ℕ) (x y : X) → slice_get xs c ≡ Some x → f y ≡ f x → map f (slice_set xs c y) ≡ map f xs
map_stays f [] c x y there alike = refl
map_stays f (z ∷ xs) zero x y there alike = ap (λ v. v ∷ map f xs) (alike ∙ ap f (sym (same_Some _ _ there)))
map_stays f (z ∷ xs) (suc c) x y there alike = ap (λ l. f z ∷ l) (map_stays f xs c x y there alike)

pub stay_at : {X : Type 0} (reconciler : X → Reconciler) (phase : X → Phase) (xs : List X) (c : ℕ) (x y : X) → slice_get xs c ≡ Some x
    → reconciler y ≡ reconciler x → phase y ≡ phase x → Stay reconciler phase xs (slice_set xs c y)
stay_at reconciler phase xs c x y there kept goes = (map_stays reconciler xs c x y there kept, map_stays phase xs c x y there goes)

pub still_stand : {X : Type 0} (reconciler : X → Reconciler) (phase : X → Phase) (before now : List X) (reconcilers : ℕ → Reconciler) (phases : ℕ → Phase)
    → Stay reconciler phase before now → StandAt reconciler phase before reconcilers phases → StandAt reconciler phase now reconcilers phases
still_stand {X} reconciler phase before now reconcilers phases stay stand c = by (slice_get before c) (slice_get now c) (kept reconciler stay.0) (kept phase stay.1) (stand c)
  where
    kept : {Z : Type 0} (f : X → Z) → map f now ≡ map f before → option_map f (slice_get now c) ≡ option_map f (slice_get before c)
    kept f is = sym (slice_get-map f now c) ∙ ap (λ zs. slice_get zs c) is ∙ slice_get-map f before c

    by : (o p : Option X) → option_map reconciler p ≡ option_map reconciler o → option_map phase p ≡ option_map phase o
        → IfSome o (λ x. (reconciler x ≡ reconcilers c) × (phase x ≡ phases c)) → IfSome p (λ x. (reconciler x ≡ reconcilers c) × (phase x ≡ phases c))
    by o None one two stood = tt
    by None (Some y) one two stood = absurd (none-some _ (sym one))
    by (Some x) (Some y) one two stood = (same_Some _ _ one ∙ stood.0, same_Some _ _ two ∙ stood.1)

pub at_err : {D E : Type 0} (r : Result D E) (P : Type 0) → P → OnErr r P
at_err (Ok d) P holds = tt
at_err (Err e) P holds = holds

-- a run that has begun has a size, and no more controllers than callers
not_shards : IsShort BadShards → ⊥
not_shards (inl is) = cc
not_shards (inr is) = cc

not_capacity : IsShort BadCapacity → ⊥
not_capacity (inl is) = cc
not_capacity (inr is) = cc

pub has_begun : {D : Type 0} (r : Result D ClusterFault) (count : ℕ) (callers : UsedCallers) → IfErr r IsShort → AreCallers count (start count) callers
    → IsErrOf r BadShards ⊎ (IsErrOf r BadCapacity ⊎ (4096 < count)) → ⊥
has_begun r count callers short are (inl bad) = not_shards (subst (λ r. IfErr r IsShort) bad short)
has_begun r count callers short are (inr (inl bad)) = not_capacity (subst (λ r. IfErr r IsShort) bad short)
has_begun r count callers short are (inr (inr many)) = let few = are.few in let all = length-range_with_len 0 count in omega (arith, few, all, many)

-- two controllers are two callers
apart_by : (count : ℕ) (k : Cluster) (program : Program) → AreCallers count k program.callers → (c d : ℕ) → c < count → d < count → d ≢ c → k.callers d ≢ k.callers c
apart_by count k program are c d low less apart e = apart (same_Some d c (sym (are.own d less) ∙ ap (owner k.incarnations) e ∙ are.own c low))

is_used_by : (count : ℕ) (k : Cluster) (program : Program) → AreCallers count k program.callers → (c : ℕ) → c < count → is_used k (k.callers c) ≡ true
is_used_by count k program are c low = by (is_used k (k.callers c)) refl
  where
    by : (b : Bool) → is_used k (k.callers c) ≡ b → is_used k (k.callers c) ≡ true
    by true is = is
    by false is = absurd (none-some c (sym (ap (option_map (λ (l : Incarnation). l.controller)) (are.unborn (k.callers c) is)) ∙ are.own c low))

module _ {X : Type 0} (reconciler : X → Reconciler) (phase : X → Phase) (is_waiting : X → Bool) where
  abbrev Standing : Size → List Event → (ℕ → Reconciler) → (ℕ → Phase) → (ℕ → ℕ) → List X → Type 0
  Standing z events reconcilers phases present xs =
      (c : ℕ) → IfSome (slice_get xs c) (Stands reconciler phase is_waiting z events (reconcilers c) (phases c) (present c))

  stands_on : (z : Size) (events : List Event) (e : Event) (r : Reconciler) (p : Phase) (n : ℕ) (x : X)
      → ((after z opening events).phase n ≡ Idle → (step z (after z opening events) e).phase n ≡ Idle)
      → Stands reconciler phase is_waiting z events r p n x → Stands reconciler phase is_waiting z (events ++ e ∷ []) r p n x
  stands_on z events e r p n x goes stands = record {
    reconciler_is = stands.reconciler_is;
    phase_is = stands.phase_is;
    waits = λ busy. stands.waits (λ idle. busy (step_more z events e n ∙ goes idle));
  }

  standing_on : (z : Size) (events : List Event) (e : Event) (reconcilers : ℕ → Reconciler) (phases : ℕ → Phase) (present : ℕ → ℕ) (xs : List X)
      → ((c : ℕ) → c < length xs → (after z opening events).phase (present c) ≡ Idle → (step z (after z opening events) e).phase (present c) ≡ Idle)
      → Standing z events reconcilers phases present xs → Standing z (events ++ e ∷ []) reconcilers phases present xs
  standing_on z events e reconcilers phases present xs goes standing c =
      if_some_on _ _ (slice_get xs c) (λ x there stands. stands_on z events e (reconcilers c) (phases c) (present c) x (goes c (low_of xs c x there)) stands) (standing c)

  stands_as : (z : Size) (events : List Event) (r : Reconciler) (p q : Phase) (n m : ℕ) (x : X) → q ≡ p → m ≡ n → Stands reconciler phase is_waiting z events r p n x
      → Stands reconciler phase is_waiting z events r q m x
  stands_as z events r p q n m x is at stands = record {
    reconciler_is = stands.reconciler_is;
    phase_is = stands.phase_is ∙ sym is;
    waits = subst (λ i. (after z opening events).phase i ≢ Idle → is_waiting x ≡ true) (sym at) stands.waits;
  }

  -- the controller of one number has changed
  standing_at : (z : Size) (old new : List Event) (reconcilers : ℕ → Reconciler) (phases phases' : ℕ → Phase) (present present' : ℕ → ℕ) (xs : List X) (c : ℕ) (x y : X)
      → slice_get xs c ≡ Some x → Stands reconciler phase is_waiting z new (reconcilers c) (phases' c) (present' c) y
      → ((d : ℕ) → d < length xs → d ≢ c → (v : X) → Stands reconciler phase is_waiting z old (reconcilers d) (phases d) (present d) v
      → Stands reconciler phase is_waiting z new (reconcilers d) (phases' d) (present' d) v)
      → Standing z old reconcilers phases present xs → Standing z new reconcilers phases' present' (slice_set xs c y)
  standing_at z old new reconcilers phases phases' present present' xs c x y there here others standing d = by (compare d c)
    where
      by : Compared d c → IfSome (slice_get (slice_set xs c y) d) (Stands reconciler phase is_waiting z new (reconcilers d) (phases' d) (present' d))
      by (same e b) = subst (λ i. IfSome (slice_get (slice_set xs c y) i) (Stands reconciler phase is_waiting z new (reconcilers i) (phases' i) (present' i))) (sym e)
          (subst (λ o. IfSome o (Stands reconciler phase is_waiting z new (reconcilers c) (phases' c) (present' c))) (sym (get_same xs c x y there)) here)
      by (other ne b) =
          subst (λ o. IfSome o (Stands reconciler phase is_waiting z new (reconcilers d) (phases' d) (present' d))) (sym (get_other xs c d y ne))
          (if_some_on _ _ (slice_get xs d) (λ v is stands. others d (low_of xs d v is) ne v stands) (standing d))

  abbrev Shown : Size → (ℕ → Reconciler) → Cluster → Program → List X → Type 0
  Shown z reconcilers k program xs = Shows reconciler phase is_waiting z reconcilers k program xs

  stands_in : (z : Size) (reconcilers : ℕ → Reconciler) (k : Cluster) (program : Program) (xs : List X) (c : ℕ) (x : X) → slice_get xs c ≡ Some x → Shown z reconcilers k program xs
      → Stands reconciler phase is_waiting z k.events (reconcilers c) (k.phases c) (k.callers c) x
  stands_in z reconcilers k program xs c x there shows =
      subst (λ o. IfSome o (Stands reconciler phase is_waiting z k.events (reconcilers c) (k.phases c) (k.callers c))) there (shows.1 c)

  pub shown_stand : (z : Size) (reconcilers : ℕ → Reconciler) (k : Cluster) (program : Program) (xs : List X) → Shown z reconcilers k program xs
      → StandAt reconciler phase xs reconcilers k.phases
  shown_stand z reconcilers k program xs shows c = if_some_on _ _ (slice_get xs c) (λ x there stands. (stands.reconciler_is, stands.phase_is)) (shows.1 c)

  -- ---- a controller calls

  pub not_idle : (ph : world.Phase) → ph ≢ Idle → is_idle ph ≡ false
  not_idle Idle busy = absurd (busy refl)
  not_idle ph busy = refl

  pub called_shows : (z : Size) (reconcilers : ℕ → Reconciler) (k : Cluster) (old new : Program) (xs : List X) (c : ℕ) (x y : X) (e : Event)
      → slice_get xs c ≡ Some x → reconciler y ≡ reconciler x → phase y ≡ phase x → is_waiting y ≡ true
      → e ≡ event.Call (k.callers c) (asks (reconcilers c) (k.phases c)) → (after z opening k.events).phase (k.callers c) ≡ Idle → Hands e old new
      → Shown z reconcilers k old xs → Shown z reconcilers (happens z (length xs) reconcilers k (Next c)) new (slice_set xs c y)
  called_shows z reconcilers k old new xs c x y e there kept stays waits is idle hands shows =
      let low = low_of xs c x there in
      let was = stands_in z reconcilers k old xs c x there shows in
      let call = event.Call (k.callers c) (asks (reconcilers c) (k.phases c)) in
      subst (λ v. Shown z reconcilers v new (slice_set xs c y)) (sym (
      ap (λ b. cond b (with_next z reconcilers k c) k) (lt-ltb c (length xs) low) ∙ ap (λ ph. cond (is_idle ph) (hand k call) k) idle)) (
        subst (λ n. IsCluster z n (hand k call) new) (sym (length-set xs c y))
            (cluster_more z (length xs) k old new call shows.0 (subst (λ f. Hands f old new) is hands) (is_used_by (length xs) k old shows.0.1 c low)),
        standing_at z k.events (k.events ++ call ∷ []) reconcilers k.phases k.phases k.callers k.callers xs c x y there
            (record { reconciler_is = kept ∙ was.reconciler_is; phase_is = stays ∙ was.phase_is; waits = λ busy. waits })
            (λ d less apart v stands. stands_on z k.events call (reconcilers d) (k.phases d) (k.callers d) v
            (λ free. others_stay z (after z opening k.events) call (k.callers d) (λ f. apart_by (length xs) k old shows.0.1 c d low less apart (sym (same_Some _ _ f))) ∙ free) stands) shows.1,
      )

  -- a controller that shows what it sends next, and calls nothing
  pub peeked_shows : (z : Size) (reconcilers : ℕ → Reconciler) (k : Cluster) (program : Program) (xs : List X) (c : ℕ) (x y : X) → slice_get xs c ≡ Some x
      → reconciler y ≡ reconciler x → phase y ≡ phase x → is_waiting y ≡ true → Shown z reconcilers k program xs → Shown z reconcilers k program (slice_set xs c y)
  peeked_shows z reconcilers k program xs c x y there kept stays waits shows =
      let was = stands_in z reconcilers k program xs c x there shows in (
        subst (λ n. IsCluster z n k program) (sym (length-set xs c y)) shows.0,
        standing_at z k.events k.events reconcilers k.phases k.phases k.callers k.callers xs c x y there
            (record { reconciler_is = kept ∙ was.reconciler_is; phase_is = stays ∙ was.phase_is; waits = λ busy. waits }) (λ d less apart v stands. stands) shows.1,
      )

  pub asked_is : (z : Size) (reconcilers : ℕ → Reconciler) (k : Cluster) (program : Program) (xs : List X) (c : ℕ) (x : X) (r : Request) → slice_get xs c ≡ Some x
      → r ≡ asks (reconciler x) (phase x) → Shown z reconcilers k program xs → r ≡ asks (reconcilers c) (k.phases c)
  asked_is z reconcilers k program xs c x r there next shows =
      let stood = stands_in z reconcilers k program xs c x there shows in
      let one : reconciler x ≡ reconcilers c = stood.reconciler_is in
      let two : phase x ≡ k.phases c = stood.phase_is in
      cc

  pub calls_next : (z : Size) (reconcilers : ℕ → Reconciler) (k : Cluster) (program : Program) (xs : List X) (c : ℕ) (x : X) (n : ℕ) (r : Request) → slice_get xs c ≡ Some x
      → n ≡ k.callers c → r ≡ asks (reconciler x) (phase x) → Shown z reconcilers k program xs → event.Call n r ≡ event.Call (k.callers c) (asks (reconcilers c) (k.phases c))
  calls_next z reconcilers k program xs c x n r there at next shows =
      let stood = stands_in z reconcilers k program xs c x there shows in
      let one : reconciler x ≡ reconcilers c = stood.reconciler_is in
      let two : phase x ≡ k.phases c = stood.phase_is in
      cc

  pub called_few : (z : Size) (reconcilers : ℕ → Reconciler) (k : Cluster) (program : Program) (xs : List X) (c : ℕ) (r : Request) → c < length xs → Shown z reconcilers k program xs
      → 4096 < callers (k.events ++ event.Call (k.callers c) r ∷ []) → ⊥
  called_few z reconcilers k program xs c r low shows many =
      cluster_few z (length xs) k program (event.Call (k.callers c) r) shows.0 (is_used_by (length xs) k program shows.0.1 c low) many

  -- ---- a crash

  crash_events : (z : Size) (reconcilers : ℕ → Reconciler) (k : Cluster) (program : Program) (xs : List X) (c : ℕ) → Shown z reconcilers k program xs
      → HoldsEvents z k.events (with_crash k c).used program.events.items program.replay
  crash_events z reconcilers k program xs c shows = events_wider z k.events k.used _ _ shows.0.0 (lowest_unused k)

  pub crash_few : (z : Size) (reconcilers : ℕ → Reconciler) (k : Cluster) (old middle : Program) (xs : List X) (c : ℕ) → c < length xs → Shown z reconcilers k old xs
      → AreCallers (length xs) (with_crash k c) middle.callers → 4096 < callers (k.events ++ event.Crash (k.callers c) ∷ []) → ⊥
  crash_few z reconcilers k old middle xs c low shows are many =
      few_named z k.events (with_crash k c).used _ _ (crash_events z reconcilers k old xs c shows) (event.Crash (k.callers c)) are.few
      (among_later (lowest_unused k) k.used (k.callers c) (is_used_by (length xs) k old shows.0.1 c low)) many

  pub crashed_shows : (z : Size) (reconcilers : ℕ → Reconciler) (k : Cluster) (old middle new : Program) (xs : List X) (c : ℕ) (x y : X) (e : Event)
      → slice_get xs c ≡ Some x → reconciler y ≡ reconciler x → phase y ≡ reading_set → AreCallers (length xs) (with_crash k c) middle.callers
      → is_used k (lowest_unused k) ≡ false → middle.events.items ≡ old.events.items → middle.replay ≡ old.replay → e ≡ event.Crash (k.callers c) → Hands e middle new
      → Shown z reconcilers k old xs → Shown z reconcilers (happens z (length xs) reconcilers k (Crash c)) new (slice_set xs c y)
  crashed_shows z reconcilers k old middle new xs c x y e there kept goes are fresh alike was is hands shows =
      let low = low_of xs c x there in
      let stood = stands_in z reconcilers k old xs c x there shows in
      let crash = event.Crash (k.callers c) in
      let hand_is = subst (λ f. Hands f middle new) is hands in
      let mine = is_used_by (length xs) k old shows.0.1 c low in
      let free : named_by crash ≢ Some (lowest_unused k) = λ f. false≢true (sym fresh ∙ ap (is_used k) (sym (same_Some _ _ f)) ∙ mine) in
      subst (λ v. Shown z reconcilers v new (slice_set xs c y)) (sym (ap (λ b. cond b (with_crash k c) k) (lt-ltb c (length xs) low))) (
        subst (λ n. IsCluster z n (with_crash k c) new) (sym (length-set xs c y)) (
          events_more z k.events (with_crash k c).used _ _ (crash_events z reconcilers k old xs c shows) crash middle new alike was hand_is
              (among_later (lowest_unused k) k.used (k.callers c) mine),
          subst (AreCallers (length xs) (with_crash k c)) (sym hands.callers) are,
        ),
        standing_at z k.events (k.events ++ crash ∷ []) reconcilers k.phases (put k.phases c reading_set) k.callers (put k.callers c (lowest_unused k)) xs c x y there
            (stands_as z (k.events ++ crash ∷ []) (reconcilers c) reading_set (put k.phases c reading_set c) (lowest_unused k) (put k.callers c (lowest_unused k) c) y
            (put_same k.phases c reading_set) (put_same k.callers c (lowest_unused k))
            (record {
              reconciler_is = kept ∙ stood.reconciler_is;
              phase_is = goes;
              waits = λ busy. absurd (busy (step_more z k.events crash (lowest_unused k)
                  ∙ others_stay z (after z opening k.events) crash (lowest_unused k) free ∙ shows.0.0.idle (lowest_unused k) fresh));
            }))
            (λ d less apart v stands. stands_as z (k.events ++ crash ∷ []) (reconcilers d) (k.phases d) (put k.phases c reading_set d) (k.callers d) (put k.callers c (lowest_unused k) d) v
            (put_other k.phases c reading_set d apart) (put_other k.callers c (lowest_unused k) d apart)
            (stands_on z k.events crash (reconcilers d) (k.phases d) (k.callers d) v
            (λ rests. others_stay z (after z opening k.events) crash (k.callers d) (λ f. apart_by (length xs) k old shows.0.1 c d low less apart (sym (same_Some _ _ f))) ∙ rests) stands))
            shows.1,
      )

  -- ---- another client

  -- a caller without an incarnation has no owner
  pub outside_shows : (z : Size) (reconcilers : ℕ → Reconciler) (k : Cluster) (old new : Program) (xs : List X) (n : ℕ) (r : Request) → Shown z reconcilers k old xs
      → IsCluster z (length xs) (with_outside k n r (k.incarnations n)) new → Shown z reconcilers (with_outside k n r (k.incarnations n)) new xs
  outside_shows z reconcilers k old new xs n r shows is = (is, by (k.incarnations n) refl)
    where
      apart : k.incarnations n ≡ None → (c : ℕ) → c < length xs → k.callers c ≢ n
      apart nobody c low e = none-some c (sym (ap (option_map (λ (l : Incarnation). l.controller)) (ap k.incarnations e ∙ nobody)) ∙ shows.0.1.own c low)

      with : (b : Bool) → k.incarnations n ≡ None → Standing z ((cond b k (record k { used = n ∷ k.used })).events ++ event.Call n r ∷ []) reconcilers
          (cond b k (record k { used = n ∷ k.used })).phases (cond b k (record k { used = n ∷ k.used })).callers xs
      with true nobody = standing_on z k.events (event.Call n r) reconcilers k.phases k.callers xs
          (λ c low idle. others_stay z (after z opening k.events) (event.Call n r) (k.callers c) (λ f. apart nobody c low (sym (same_Some _ _ f))) ∙ idle) shows.1
      with false nobody = standing_on z k.events (event.Call n r) reconcilers k.phases k.callers xs
          (λ c low idle. others_stay z (after z opening k.events) (event.Call n r) (k.callers c) (λ f. apart nobody c low (sym (same_Some _ _ f))) ∙ idle) shows.1

      by : (incarnation : Option Incarnation) → k.incarnations n ≡ incarnation → Standing z (with_outside k n r incarnation).events reconcilers (with_outside k n r incarnation).phases (with_outside k n r incarnation).callers xs
      by None nobody = with (is_used k n) nobody
      by (Some incarnation) somebody = shows.1

  -- ---- a step of the store

  pub step_shows : (e : Event) (when : Cluster → Bool) (old new : Program) (xs : List X)
      → ((z : Size) (reconcilers : ℕ → Reconciler) (k : Cluster) → with_step z reconcilers k e ≡ hand_if (when k) k e)
      → ((z : Size) (count : ℕ) (k : Cluster) → AreCallers count k old.callers → when k ≡ true → (c : ℕ) → c < count
      → (after z opening k.events).phase (k.callers c) ≡ Idle → (step z (after z opening k.events) e).phase (k.callers c) ≡ Idle)
      → Becomes (λ k. hand_if (when k) k e) old new → Happens reconciler phase is_waiting (Step e) old new xs xs
  step_shows e when old new xs means rests becomes z reconcilers k shows =
      subst (λ v. Shown z reconcilers v new xs) (sym (means z reconcilers k)) (becomes z (length xs) k shows.0, by (when k) refl)
    where
      by : (b : Bool) → when k ≡ b → Standing z (hand_if b k e).events reconcilers (hand_if b k e).phases (hand_if b k e).callers xs
      by true is = standing_on z k.events e reconcilers k.phases k.callers xs (rests z (length xs) k shows.0.1 is) shows.1
      by false is = shows.1

  goes_shows : (e : Event) (when : Cluster → Bool) (old new : Program) (xs : List X) → goes_on e ≡ true
      → ((z : Size) (reconcilers : ℕ → Reconciler) (k : Cluster) → with_step z reconcilers k e ≡ hand_if (when k) k e)
      → Becomes (λ k. hand_if (when k) k e) old new → Happens reconciler phase is_waiting (Step e) old new xs xs
  goes_shows e when old new xs on means becomes =
      step_shows e when old new xs means (λ z count k are is c low idle. idle_stays z (after z opening k.events) e (k.callers c) on idle) becomes

  -- the same if a call succeeded
  pub went_shows : {D E : Type 0} (r : Result D E) (e f : Event) (when : Cluster → Bool) (old new : Program) (xs : List X) → f ≡ e → goes_on e ≡ true
      → ((z : Size) (reconcilers : ℕ → Reconciler) (k : Cluster) → with_step z reconcilers k e ≡ hand_if (when k) k e)
      → OnOk r (Becomes (λ k. hand_if (when k) k e) old new) → OnOk r (Happens reconciler phase is_waiting (Step f) old new xs xs)
  went_shows r e f when old new xs is on means went =
      on_ok_by _ _ r (λ becomes. subst (λ i. Happens reconciler phase is_waiting (Step i) old new xs xs) (sym is) (goes_shows e when old new xs on means becomes)) went

  -- all that is known of that call
  pub went_applies : {D : Type 0} (r : Result D ClusterFault) (e f : Event) (when : Cluster → Bool) (old new : Program) (xs : List X) → f ≡ e → goes_on e ≡ true
      → ((z : Size) (reconcilers : ℕ → Reconciler) (k : Cluster) → with_step z reconcilers k e ≡ hand_if (when k) k e)
      → new.callers ≡ old.callers → OnOk r (Follows new) → OnOk r (Becomes (λ k. hand_if (when k) k e) old new)
      → (IsErrOf r TooManyCallers → Overfills (λ k. hand_if (when k) k e) old) → IfErr r IsShort → Applies reconciler phase is_waiting (Step f) old new xs xs r
  went_applies r e f when old new xs is on means kept follows went overfills reasons = record {
    consistent = record { many = refl; present = ap (λ (callers : UsedCallers). length callers.present.items) kept; follows = follows; reasons = reasons };
    shows = went_shows r e f when old new xs is on means went;
    stays = at_err r _ (refl, refl);
    too_many = λ failed z reconcilers k shows.
        subst (λ (v : Cluster). 4096 < length v.used) (sym (ap (with_step z reconcilers k) is ∙ means z reconcilers k)) (overfills failed z (length xs) k shows.0);
  }

  pub gone_shows : (n : ℕ) (old new : Program) (xs : List X) → Becomes (λ k. hand_if (is_used k n && is_nobody (controller_at k n)) k (event.Crash n)) old new
      → Happens reconciler phase is_waiting (Step (event.Crash n)) old new xs xs
  gone_shows n old new xs becomes =
      step_shows (event.Crash n) (λ k. is_used k n && is_nobody (controller_at k n)) old new xs (λ z reconcilers k. refl)
      (λ z count k are is c low idle. others_stay z (after z opening k.events) (event.Crash n) (k.callers c) (λ f. owned count k are is c low (same_Some _ _ f)) ∙ idle) becomes
    where
      owned : (count : ℕ) (k : Cluster) → AreCallers count k old.callers → (is_used k n && is_nobody (controller_at k n)) ≡ true → (c : ℕ) → c < count → n ≡ k.callers c → ⊥
      owned count k are is c low e = by (k.incarnations n) refl (is_used k n) is
        where
          by : (incarnation : Option Incarnation) → k.incarnations n ≡ incarnation → (b : Bool) → (b && is_nobody (controller_by k n incarnation)) ≡ true → ⊥
          by incarnation has false is = false≢true is
          by None has true is = none-some c (sym (ap (option_map (λ (l : Incarnation). l.controller)) (ap k.incarnations (sym e) ∙ has)) ∙ are.own c low)
          by (Some incarnation) has true is = false≢true (sym (ap (λ b. is_nobody (cond b (Some incarnation.controller) None)) here) ∙ is)
            where
              mine : incarnation.controller ≡ c
              mine = same_Some _ _ (sym (ap (option_map (λ (l : Incarnation). l.controller)) (ap k.incarnations (sym e) ∙ has)) ∙ are.own c low)

              here : (k.callers incarnation.controller == n) ≡ true
              here = ap (λ i. k.callers i == n) mine ∙ ap (λ i. k.callers c == i) e ∙ eq_self (k.callers c)

  -- ---- a reply

  pub delivered_is : (z : Size) (events : List Event) (n : ℕ) (reply : Option Reply) → IsReplyTo z events (event.Reply n) reply → delivered z events (event.Reply n) ≡ reply
  unfolding delivered
  delivered_is z events n None is = ap (λ l. reply_in (drop (length (trace z events)) l)) is ∙ ap reply_in (drop-append_seam (trace z events) [])
  delivered_is z events n (Some reply) is = ap (λ l. reply_in (drop (length (trace z events)) l)) is ∙ ap reply_in (drop-append_seam (trace z events) (delivered_at (length events) n (Some reply)))

  caller_of : (k : Cluster) (n c : ℕ) → controller_at k n ≡ Some c → k.callers c ≡ n
  caller_of k n c is = by (k.incarnations n) is
    where
      by : (incarnation : Option Incarnation) → controller_by k n incarnation ≡ Some c → k.callers c ≡ n
      by None is = absurd (none-some c is)
      by (Some incarnation) is = at (compare (k.callers incarnation.controller) n)
        where
          at : Compared (k.callers incarnation.controller) n → k.callers c ≡ n
          at (same e b) = ap k.callers (sym (same_Some _ _ (sym (ap (λ b. cond b (Some incarnation.controller) None) b) ∙ is))) ∙ e
          at (other ne b) = absurd (none-some c (sym (ap (λ b. cond b (Some incarnation.controller) None) b) ∙ is))

  unheard : (z : Size) (reconcilers : ℕ → Reconciler) (k : Cluster) (old new : Program) (xs ys : List X) (n : ℕ) → is_used k n ≡ true → Hands (event.Reply n) old new → ys ≡ xs
      → Shown z reconcilers k old xs → Shown z reconcilers (hand k (event.Reply n)) new ys
  unheard z reconcilers k old new xs ys n used hands stay shows =
      subst (λ l. Shown z reconcilers (hand k (event.Reply n)) new l) (sym stay) (
        cluster_more z (length xs) k old new (event.Reply n) shows.0 hands used,
        standing_on z k.events (event.Reply n) reconcilers k.phases k.callers xs
            (λ c low idle. idle_stays z (after z opening k.events) (event.Reply n) (k.callers c) refl idle) shows.1,
      )

  heard_shows : (z : Size) (reconcilers : ℕ → Reconciler) (k : Cluster) (old new : Program) (xs ys : List X) (n : ℕ) (who : Option ℕ) (reply : Option Reply)
      → controller_at k n ≡ who → is_used k n ≡ true → IsReplyTo z k.events (event.Reply n) reply → Hands (event.Reply n) old new → Hears reconciler phase is_waiting xs ys who reply
      → Shown z reconcilers k old xs → Shown z reconcilers (hand (hears reconcilers k who reply) (event.Reply n)) new ys
  heard_shows z reconcilers k old new xs ys n (Some c) (Some reply) at used delivered hands heard shows =
      let next = event.Reply n in
      let busy = delivered_was_busy z k.events n reply delivered in
      let mine = caller_of k n c at in
      let stood = stands_in z reconcilers k old xs c heard.old heard.there shows in
      let p = takes (reconcilers c) (k.phases c) reply in
      let one : reconciler heard.old ≡ reconcilers c = stood.reconciler_is in
      let two : phase heard.old ≡ k.phases c = stood.phase_is in
      let took : phase heard.new ≡ takes (reconciler heard.old) (phase heard.old) reply = heard.phase_is (stood.waits (λ idle. busy.0 (ap (after z opening k.events).phase (sym mine) ∙ idle))) in
      let goes : phase heard.new ≡ p = cc in
      let is = cluster_more z (length xs) k old new next shows.0 hands used in (
        subst (λ m. IsCluster z m (hand (hears reconcilers k (Some c) (Some reply)) next) new) (sym (ap length heard.now_is ∙ length-set xs c heard.new)) is,
        subst (λ l. Standing z (k.events ++ next ∷ []) reconcilers (put k.phases c p) k.callers l) (sym heard.now_is)
            (standing_at z k.events (k.events ++ next ∷ []) reconcilers k.phases (put k.phases c p) k.callers k.callers xs c heard.old heard.new heard.there
            (stands_as z (k.events ++ next ∷ []) (reconcilers c) p (put k.phases c p c) (k.callers c) (k.callers c) heard.new (put_same k.phases c p) refl
            (record {
              reconciler_is = heard.reconciler_is ∙ one;
              phase_is = goes;
              waits = λ still. absurd (still (ap (after z opening (k.events ++ next ∷ [])).phase mine ∙ busy.1));
            }))
            (λ d less apart v stands. stands_as z (k.events ++ next ∷ []) (reconcilers d) (k.phases d) (put k.phases c p d) (k.callers d) (k.callers d) v (put_other k.phases c p d apart) refl
            (stands_on z k.events next (reconcilers d) (k.phases d) (k.callers d) v (λ idle. idle_stays z (after z opening k.events) next (k.callers d) refl idle) stands)) shows.1),
      )
  heard_shows z reconcilers k old new xs ys n (Some c) None at used delivered hands heard shows = unheard z reconcilers k old new xs ys n used hands heard shows
  heard_shows z reconcilers k old new xs ys n None reply at used delivered hands heard shows = unheard z reconcilers k old new xs ys n used hands heard shows

  pub replied_shows : (z : Size) (reconcilers : ℕ → Reconciler) (k : Cluster) (old new : Program) (xs ys : List X) (n : ℕ) (who : Option ℕ) (reply : Option Reply)
      → who ≡ controller_at k n → is_used k n ≡ true → IsReplyTo z k.events (event.Reply n) reply → Hands (event.Reply n) old new → Hears reconciler phase is_waiting xs ys who reply
      → Shown z reconcilers k old xs → Shown z reconcilers (with_step z reconcilers k (event.Reply n)) new ys
  replied_shows z reconcilers k old new xs ys n who reply at used answer hands heard shows =
      subst (λ v. Shown z reconcilers v new ys) (sym (
      ap (λ b. cond b (hand (hears reconcilers k (controller_at k n) (delivered z k.events (event.Reply n))) (event.Reply n)) k) used
      ∙ ap (λ l. hand (hears reconcilers k (controller_at k n) l) (event.Reply n)) (delivered_is z k.events n reply answer)
      ∙ ap (λ o. hand (hears reconcilers k o reply) (event.Reply n)) (sym at)))
      (heard_shows z reconcilers k old new xs ys n who reply (sym at) used answer hands heard shows)

  -- ---- the start

  fresh_by : (xs : List X) (rs : ℕ → Reconciler) (i n : ℕ) (z : Size) → AllByRecursion (λ x. phase x ≡ reading_set) xs → IfSome (slice_get xs i) (λ x. reconciler x ≡ rs i)
      → IfSome (slice_get xs i) (Stands reconciler phase is_waiting z [] (rs i) reading_set n)
  fresh_by [] rs i n z fresh made = tt
  fresh_by (x ∷ xs) rs zero n z fresh made = record { reconciler_is = made; phase_is = fresh.0; waits = λ busy. absurd (busy refl) }
  fresh_by (x ∷ xs) rs (suc i) n z fresh made = fresh_by xs (λ m. rs (suc m)) i n z fresh.1 made

  pub start_shows : (z : Size) (reconcilers : ℕ → Reconciler) (program : Program) (xs : List X) → AllByRecursion (λ x. phase x ≡ reading_set) xs → AreMadeOf reconciler xs reconcilers
      → IsAfter z [] program.replay → program.events.items ≡ [] → AreCallers (length xs) (start (length xs)) program.callers
      → Shown z reconcilers (start (length xs)) program xs
  start_shows z reconcilers program xs fresh made taken none are =
      ((record { events_are = none; taken = taken; names = tt; idle = λ n free. refl }, are), λ i. fresh_by xs reconcilers i i z fresh (made i))

-- ---- a whole run

pub run-append : (z : Size) (count : ℕ) (reconcilers : ℕ → Reconciler) (k : Cluster) (es fs : List ClusterEvent)
    → run z count reconcilers k (es ++ fs) ≡ run z count reconcilers (run z count reconcilers k es) fs
run-append z count reconcilers k [] fs = refl
run-append z count reconcilers k (e ∷ es) fs = run-append z count reconcilers (happens z count reconcilers k e) es fs

pub run_more : (z : Size) (count : ℕ) (reconcilers : ℕ → Reconciler) (k : Cluster) (es : List ClusterEvent) (i : ℕ) (d : ClusterEvent) → i < length es
    → happens z count reconcilers (run z count reconcilers k (take i es)) (slice_index_or es i d) ≡ run z count reconcilers k (take (i + 1) es)
run_more z count reconcilers k es i d low =
    sym (ap (run z count reconcilers k) (take_more es i d low) ∙ run-append z count reconcilers k (take i es) (slice_index_or es i d ∷ []))

-- ---- what is not refused is in range

pub within : (n most : ℕ) → ((1 ≤ n → most < n) → ⊥) → (1 ≤ n) × (n ≤ most)
within n most refused = (low (least 1 n), high (least n most))
  where
    low : Least 1 n → 1 ≤ n
    low (atmost le e) = le
    low (above lt e) = absurd (refused (λ le. absurd (omega arith)))

    high : Least n most → n ≤ most
    high (atmost le e) = le
    high (above lt e) = absurd (refused (λ le. lt))

-- ---- the callers that were used grow

used_if : (b : Bool) (k v : Cluster) → length k.used ≤ length v.used → length k.used ≤ length (cond b v k).used
used_if true k v more = more
used_if false k v more = omega arith

hand_grows : (b : Bool) (k : Cluster) (e : Event) → length k.used ≤ length (hand_if b k e).used
hand_grows true k e = omega arith
hand_grows false k e = omega arith

hears_same : (reconcilers : ℕ → Reconciler) (k : Cluster) (who : Option ℕ) (reply : Option Reply) → (hears reconcilers k who reply).used ≡ k.used
hears_same reconcilers k (Some c) (Some reply) = refl
hears_same reconcilers k (Some c) None = refl
hears_same reconcilers k None reply = refl

step_grows : (z : Size) (reconcilers : ℕ → Reconciler) (k : Cluster) (e : Event) → length k.used ≤ length (with_step z reconcilers k e).used
step_grows z reconcilers k (event.Call n r) = omega arith
step_grows z reconcilers k (event.Check n) = hand_grows (is_used k n) k (event.Check n)
step_grows z reconcilers k (event.Reserve n) = hand_grows (is_used k n) k (event.Reserve n)
step_grows z reconcilers k (event.Publish n) = hand_grows (is_used k n) k (event.Publish n)
step_grows z reconcilers k event.Raise = omega arith
step_grows z reconcilers k (event.Read n) = hand_grows (is_used k n) k (event.Read n)
step_grows z reconcilers k (event.ReadAt n) = hand_grows (is_used k n) k (event.ReadAt n)
step_grows z reconcilers k (event.Compact n) = hand_grows (is_used k n) k (event.Compact n)
step_grows z reconcilers k (event.Part n) = hand_grows (is_used k n) k (event.Part n)
step_grows z reconcilers k (event.Reply n) =
    let heard = hears reconcilers k (controller_at k n) (delivered z k.events (event.Reply n)) in
    let kept = ap length (hears_same reconcilers k (controller_at k n) (delivered z k.events (event.Reply n))) in
    used_if (is_used k n) k (hand heard (event.Reply n)) (omega (arith, kept))
step_grows z reconcilers k (event.Crash n) = hand_grows (is_used k n && is_nobody (controller_at k n)) k (event.Crash n)

outside_grows : (k : Cluster) (n : ℕ) (r : Request) (incarnation : Option Incarnation) → length k.used ≤ length (with_outside k n r incarnation).used
outside_grows k n r (Some incarnation) = omega arith
outside_grows k n r None = by (is_used k n)
  where
    by : (b : Bool) → length k.used ≤ length (cond b k (record k { used = n ∷ k.used })).used
    by true = omega arith
    by false = omega arith

next_grows : (b : Bool) (k : Cluster) (e : Event) → length k.used ≤ length (cond b (hand k e) k).used
next_grows true k e = omega arith
next_grows false k e = omega arith

happens_grows : (z : Size) (count : ℕ) (reconcilers : ℕ → Reconciler) (k : Cluster) (e : ClusterEvent) → length k.used ≤ length (happens z count reconcilers k e).used
happens_grows z count reconcilers k (Next c) =
    used_if (nat_lt c count) k (with_next z reconcilers k c) (next_grows (is_idle ((after z opening k.events).phase (k.callers c))) k (event.Call (k.callers c) (asks (reconcilers c) (k.phases c))))
happens_grows z count reconcilers k (Outside n r) = outside_grows k n r (k.incarnations n)
happens_grows z count reconcilers k (Step e) = step_grows z reconcilers k e
happens_grows z count reconcilers k (Crash c) = used_if (nat_lt c count) k (with_crash k c) (omega arith)

pub run_grows : (z : Size) (count : ℕ) (reconcilers : ℕ → Reconciler) (k : Cluster) (es : List ClusterEvent) → length k.used ≤ length (run z count reconcilers k es).used
run_grows z count reconcilers k [] = omega arith
run_grows z count reconcilers k (e ∷ es) =
    let one = happens_grows z count reconcilers k e in let rest = run_grows z count reconcilers (happens z count reconcilers k e) es in omega (arith, one, rest)

-- those of the first events are no more than those of all
pub used_grow : (z : Size) (count : ℕ) (reconcilers : ℕ → Reconciler) (k : Cluster) (es : List ClusterEvent) (i : ℕ)
    → length (run z count reconcilers k (take i es)).used ≤ length (run z count reconcilers k es).used
used_grow z count reconcilers k es i =
    let more = run_grows z count reconcilers (run z count reconcilers k (take i es)) (drop i es) in
    let all = ap (λ l. length (run z count reconcilers k l).used) (sym (take-append-drop i es)) in
    let parts = ap (λ (v : Cluster). length v.used) (run-append z count reconcilers k (take i es) (drop i es)) in
    omega (arith, more, all, parts)
