-- Rounds of controllers and turns of a kubelet, part by part.
use Rattle.std.proofs.Common.{◌≡◌, ◌<◌, ◌≤◌, ◌+◌, ◌-◌, ◌∷◌, [], ℕ, suc, Bool, true, false, cond, List, length, drop, Option, None, refl, sym, ap, ◌∙◌, subst, arith, get_or, add-one, drop-cons, lt-ltb}
use Rattle.std.proofs.lemmas.List.{drop_all}
use Rattle.std.specs.List.{range_with_len}
use Rattle.std.specs.Prelude.{nat_lt}
use Rattle.requests.specs.declared.reply.Reply.{Reply}
use Rattle.requests.specs.declared.request.Request.{Request}
use Rattle.interleavings.specs.Trace.{after}
use Rattle.interleavings.specs.World.{Idle, Size, opening}
use Rattle.rounds.specs.Phase.{Phase}
use Rattle.rounds.specs.Reconciler.{Reconciler}
use Rattle.cluster_runs.specs.declared.event.ClusterEvent.TheVariants.{Outside}
use Rattle.cluster_runs.specs.Cluster.{Cluster, is_idle}
use Rattle.cluster_runs.specs.Leading.{Halts, Leads, Peeks}
use Rattle.cluster_runs.specs.Shown.{Shows}
use Rattle.cluster_runs.specs.Turns.{Course, approach, asked, asked_as, asked_while, carried, ends_with, event_and, followed_by, if_next, if_there, is_idle_at, is_read_within, is_within, is_write, most_requests, nothing, round, rounds_of, settled_as, settled_once}
use Rattle.cluster_runs.specs.declared.cluster.Cluster.{Cluster as Program}
use Rattle.cluster_runs.specs.declared.fault.ClusterFault.{ClusterFault}
use Rattle.cluster_runs.proofs.Leading.{first_halts, first_leads, halts_on, leads_on, self_leads}
use Rattle.cluster_runs.proofs.Showing.{present_at}

-- ---- one part after another

pub drop_at : {A : Type 0} (xs : List A) (i : ℕ) (x : A) → i < length xs → x ≡ get_or xs i x → drop i xs ≡ x ∷ drop (i + 1) xs
drop_at xs i x low is = rw add-one (drop-cons xs i x low ∙ ap (λ y. y ∷ drop (suc i) xs) (sym is))

module _ {X : Type 0} (reconciler : X → Reconciler) (phase : X → Phase) (is_waiting : X → Bool) {A : Type 0} (each : List A → Course) (one : A → Course)
    (none : each [] ≡ nothing) (some : (x : A) (xs : List A) → each (x ∷ xs) ≡ followed_by (one x) (λ delivered. each xs)) (whole : Course) (xs : List A) where
  -- so many parts are done
  abbrev pub Walked : ℕ → (old new : Program) → (before now : List X) → Type 0
  Walked i old new before now = Leads reconciler phase is_waiting whole (each (drop i xs)) old new before now

  walked_at : (i : ℕ) (x : A) (old mid : Program) (before between : List X) → i < length xs → x ≡ get_or xs i x → Walked i old mid before between
      → Leads reconciler phase is_waiting whole (followed_by (one x) (λ delivered. each (drop (i + 1) xs))) old mid before between
  walked_at i x old mid before between low is walked =
      subst (λ c. Leads reconciler phase is_waiting whole c old mid before between) (ap each (drop_at xs i x low is) ∙ some x (drop (i + 1) xs)) walked

  pub walked_more : (i : ℕ) (x : A) (delivered : Option Reply) (old mid new : Program) (before between now : List X) → i < length xs → x ≡ get_or xs i x → length between ≡ length before
      → Walked i old mid before between → Leads reconciler phase is_waiting (one x) (ends_with delivered) mid new between now → Walked (i + 1) old new before now
  walked_more i x delivered old mid new before between now low is same walked leads =
      leads_on reconciler phase is_waiting whole (followed_by (one x) (λ delivered. each (drop (i + 1) xs))) (each (drop (i + 1) xs)) old mid new before between now same
      (walked_at i x old mid before between low is walked) (first_leads reconciler phase is_waiting (one x) delivered (λ delivered. each (drop (i + 1) xs)) mid new between now leads)

  pub walked_halts : (i : ℕ) (x : A) (fault : ClusterFault) (old mid : Program) (before between now : List X) → i < length xs → x ≡ get_or xs i x → length between ≡ length before
      → Walked i old mid before between → Halts reconciler phase is_waiting fault (one x) mid between now → Halts reconciler phase is_waiting fault whole old before now
  walked_halts i x fault old mid before between now low is same walked halts =
      halts_on reconciler phase is_waiting fault whole (followed_by (one x) (λ delivered. each (drop (i + 1) xs))) old mid before between now same
      (walked_at i x old mid before between low is walked) (first_halts reconciler phase is_waiting fault (one x) (λ delivered. each (drop (i + 1) xs)) mid between now halts)

  pub walked_all : (i : ℕ) (old new : Program) (before now : List X) → length xs ≤ i → Walked i old new before now → Leads reconciler phase is_waiting whole nothing old new before now
  walked_all i old new before now past walked = subst (λ c. Leads reconciler phase is_waiting whole c old new before now) (ap each (drop_all i xs past) ∙ none) walked

-- ---- sending more requests

pub asked_on : (such : Request → Bool) (requests c : ℕ) → asked_while such (suc requests) c ≡ followed_by (asked c) (λ delivered. if_next such c (asked_while such requests c) nothing)
unfolding asked_while
asked_on such requests c = refl

pub asked_none : (such : Request → Bool) (c : ℕ) → asked_while such 0 c ≡ nothing
unfolding asked_while
asked_none such c = refl

pub round_is : (c : ℕ) → round c ≡ asked_while is_within most_requests c
unfolding round
round_is c = refl

pub approach_is : (c : ℕ) → approach c ≡ if_next is_write c nothing (asked_while is_read_within most_requests c)
unfolding approach
approach_is c = refl

module _ {X : Type 0} (reconciler : X → Reconciler) (phase : X → Phase) (is_waiting : X → Bool) where
  pub peek_leads : (such : Request → Bool) (c : ℕ) (one other : Course) (is : Bool) (program : Program) (before now : List X) → Peeks reconciler phase is_waiting such c is program before now
      → Leads reconciler phase is_waiting (if_next such c one other) (cond is one other) program program before now
  peek_leads such c one other true program before now peeks z reconcilers k shows =
      let peek = peeks z reconcilers k shows in
      let is = ap (λ b. cond b (one z (length before) reconcilers k) (other z (length before) reconcilers k)) peek.0 in
      record { done = []; whole_is = ap (λ (o : List _ × Option Reply). o.0) is; delivered_is = ap (λ (o : List _ × Option Reply). o.1) is; holds = peek.1 }
  peek_leads such c one other false program before now peeks z reconcilers k shows =
      let peek = peeks z reconcilers k shows in
      let is = ap (λ b. cond b (one z (length before) reconcilers k) (other z (length before) reconcilers k)) peek.0 in
      record { done = []; whole_is = ap (λ (o : List _ × Option Reply). o.0) is; delivered_is = ap (λ (o : List _ × Option Reply). o.1) is; holds = peek.1 }

  -- for a controller that exists, and for one that does not
  pub is_there : (c : ℕ) (course : Course) (old : Program) (before : List X) → c < length before
      → (z : Size) (reconcilers : ℕ → Reconciler) (k : Cluster) → Shows reconciler phase is_waiting z reconcilers k old before
      → if_there c course z (length before) reconcilers k ≡ course z (length before) reconcilers k
  is_there c course old before low z reconcilers k shows = ap (λ b. cond b (course z (length before) reconcilers k) ([], None)) (lt-ltb c (length before) low)

  pub is_absent : (c : ℕ) (course : Course) (old : Program) (before : List X) → nat_lt c (length before) ≡ false
      → (z : Size) (reconcilers : ℕ → Reconciler) (k : Cluster) → Shows reconciler phase is_waiting z reconcilers k old before
      → if_there c course z (length before) reconcilers k ≡ ([], None)
  is_absent c course old before none z reconcilers k shows = ap (λ b. cond b (course z (length before) reconcilers k) ([], None)) none

-- ---- requests

pub asks_next : {X : Type 0} (reconciler : X → Reconciler) (phase : X → Phase) (is_waiting : X → Bool) (c n : ℕ) (mid : Program) (between : List X) → c < length between
    → n ≡ get_or mid.callers.present.items c n
    → (z : Size) (reconcilers : ℕ → Reconciler) (k : Cluster) → Shows reconciler phase is_waiting z reconcilers k mid between
    → carried (k.callers c) z (length between) reconcilers k ≡ carried n z (length between) reconcilers k
asks_next reconciler phase is_waiting c n mid between low at z reconcilers k shows =
    ap (λ m. carried m z (length between) reconcilers k) (sym (present_at (length between) k mid shows.0.1 c n low at))

-- a caller that is idle, and one that is not
pub as_idle : (n : ℕ) (r : Request) (z : Size) (count : ℕ) (reconcilers : ℕ → Reconciler) (k : Cluster) → (after z opening k.events).phase n ≡ Idle
    → asked_as n r z count reconcilers k ≡ event_and (Outside n r) (carried n) z count reconcilers k
as_idle n r z count reconcilers k idle = ap (λ ph. cond (is_idle ph) (event_and (Outside n r) (carried n) z count reconcilers k) ([], None)) idle

pub as_busy : (n : ℕ) (r : Request) (z : Size) (count : ℕ) (reconcilers : ℕ → Reconciler) (k : Cluster) → is_idle_at z k n ≡ false
    → asked_as n r z count reconcilers k ≡ ([], None)
as_busy n r z count reconcilers k busy = ap (λ b. cond b (event_and (Outside n r) (carried n) z count reconcilers k) ([], None)) busy

-- ---- one controller after another

rounds_at : (n i : ℕ) → i < n → range_with_len i (n - i) ≡ i ∷ range_with_len (i + 1) (n - (i + 1))
rounds_at n i low = ap (range_with_len i) (less n i low)
  where
    less : (m i : ℕ) → i < m → m - i ≡ suc (m - (i + 1))
    less m i low = omega arith

module _ {X : Type 0} (reconciler : X → Reconciler) (phase : X → Phase) (is_waiting : X → Bool) (whole : Course) (n : ℕ) where
  abbrev pub Rounded : ℕ → (old new : Program) → (before now : List X) → Type 0
  Rounded i old new before now = Leads reconciler phase is_waiting whole (rounds_of (range_with_len i (n - i))) old new before now

  rounded_at : (i : ℕ) (old mid : Program) (before between : List X) → i < n → Rounded i old mid before between
      → Leads reconciler phase is_waiting whole (followed_by (round i) (λ delivered. rounds_of (range_with_len (i + 1) (n - (i + 1))))) old mid before between
  rounded_at i old mid before between low rounded = subst (λ l. Leads reconciler phase is_waiting whole (rounds_of l) old mid before between) (rounds_at n i low) rounded

  pub rounded_none : (old : Program) (before : List X) → whole ≡ rounds_of (range_with_len 0 n) → Rounded 0 old old before before
  rounded_none old before is =
      let all : n - 0 ≡ n = omega arith in
      subst (λ m. Leads reconciler phase is_waiting whole (rounds_of (range_with_len 0 m)) old old before before) (sym all)
      (subst (λ c. Leads reconciler phase is_waiting whole c old old before before) is (self_leads reconciler phase is_waiting whole old before))

  pub rounded_more : (i : ℕ) (old mid new : Program) (before between now : List X) → i < n → length between ≡ length before → Rounded i old mid before between
      → Leads reconciler phase is_waiting (round i) nothing mid new between now → Rounded (i + 1) old new before now
  rounded_more i old mid new before between now low same rounded leads =
      let rest = rounds_of (range_with_len (i + 1) (n - (i + 1))) in
      leads_on reconciler phase is_waiting whole (followed_by (round i) (λ delivered. rest)) rest old mid new before between now same
      (rounded_at i old mid before between low rounded) (first_leads reconciler phase is_waiting (round i) None (λ delivered. rest) mid new between now leads)

  pub rounded_halts : (i : ℕ) (fault : ClusterFault) (old mid : Program) (before between now : List X) → i < n → length between ≡ length before → Rounded i old mid before between
      → Halts reconciler phase is_waiting fault (round i) mid between now → Halts reconciler phase is_waiting fault whole old before now
  rounded_halts i fault old mid before between now low same rounded halts =
      let rest = rounds_of (range_with_len (i + 1) (n - (i + 1))) in
      halts_on reconciler phase is_waiting fault whole (followed_by (round i) (λ delivered. rest)) old mid before between now same
      (rounded_at i old mid before between low rounded) (first_halts reconciler phase is_waiting fault (round i) (λ delivered. rest) mid between now halts)

  pub rounded_all : (i : ℕ) (old new : Program) (before now : List X) → n ≤ i → Rounded i old new before now → Leads reconciler phase is_waiting whole nothing old new before now
  rounded_all i old new before now past rounded =
      let none : n - i ≡ 0 = omega arith in subst (λ m. Leads reconciler phase is_waiting whole (rounds_of (range_with_len i m)) old new before now) none rounded

-- ---- settle

pub settles_on : (rounds n : ℕ) (namespaces : List (List ℕ)) → settled_as (suc rounds) n namespaces ≡ followed_by (settled_once n namespaces) (λ delivered. settled_as rounds n namespaces)
unfolding settled_as
settles_on rounds n namespaces = refl

pub settles_none : (n : ℕ) (namespaces : List (List ℕ)) → settled_as 0 n namespaces ≡ nothing
unfolding settled_as
settles_none n namespaces = refl
