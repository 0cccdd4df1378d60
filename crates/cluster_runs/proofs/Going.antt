-- Turn by turn: which cluster each leads to, and with which kubelet.
use Rattle.std.proofs.Common.{◌≡◌, ◌<◌, ◌≤◌, ◌+◌, ◌++◌, ◌∷◌, [], ℕ, Bool, List, length, drop, Option, None, refl, sym, ap, ◌∙◌, subst, append_assoc, get_or}
use Rattle.std.proofs.lemmas.List.{append-nil, drop_all}
use Rattle.requests.specs.declared.reply.Reply.{Reply}
use Rattle.interleavings.specs.World.{Size}
use Rattle.rounds.specs.Phase.{Phase}
use Rattle.rounds.specs.Reconciler.{Reconciler}
use Rattle.cluster_runs.specs.declared.event.ClusterEvent.{ClusterEvent}
use Rattle.cluster_runs.specs.Cluster.{Cluster, run}
use Rattle.cluster_runs.specs.Leading.{ComesTo, Halts, HasCome, IsShownAs, Leads}
use Rattle.cluster_runs.specs.Shown.{Shows}
use Rattle.cluster_runs.specs.Turns.{Course, course_of, course_of_all, ends_from, ends_with, followed_by, kubelet_at, nothing}
use Rattle.cluster_runs.specs.declared.cluster.Cluster.{Cluster as Program}
use Rattle.cluster_runs.specs.declared.fault.ClusterFault.{ClusterFault}
use Rattle.cluster_runs.specs.declared.fault.ClusterFault.TheVariants.{Memory as OutOfMemory, TooManyCallers}
use Rattle.cluster_runs.specs.declared.turn.Turn.{Turn}
use Rattle.cluster_runs.proofs.Leading.{AreSame, first_halts, halts_as, halts_on, still_halts}
use Rattle.cluster_runs.proofs.Parts.{drop_at}
use Rattle.cluster_runs.proofs.Showing.{run-append}

abbrev Outcome : Type 0
Outcome = List ClusterEvent × Option Reply

not_many : OutOfMemory ≡ TooManyCallers → ⊥
not_many many = cc

module _ {X : Type 0} (reconciler : X → Reconciler) (phase : X → Phase) (is_waiting : X → Bool) (namespaces : List (List ℕ)) (turns : List Turn) where
  -- some first turns are done, and led to this
  pub record HasGone (z : Size) (count : ℕ) (reconcilers : ℕ → Reconciler) (k : Cluster) (i : ℕ) (kubelet : Option ℕ) (ends : List ℕ) (program : Program) (xs : List X) : Type 0 where
    pub come : HasCome (IsShownAs reconciler phase is_waiting program xs) z count reconcilers k (course_of_all None namespaces turns) (course_of_all kubelet namespaces (drop i turns))
    pub ends_are : ends_from None namespaces turns z count reconcilers k ≡ ends ++ ends_from kubelet namespaces (drop i turns) z count reconcilers (run z count reconcilers k come.done)

  abbrev pub Gone : (i : ℕ) (kubelet : Option ℕ) (ends : List ℕ) → (old new : Program) → (before now : List X) → Type 0
  Gone i kubelet ends old new before now = (z : Size) (reconcilers : ℕ → Reconciler) (k : Cluster) → Shows reconciler phase is_waiting z reconcilers k old before
      → HasGone z (length before) reconcilers k i kubelet ends new now

  pub gone_none : (old : Program) (before : List X) → Gone 0 None [] old old before before
  gone_none old before z reconcilers k shows = record { come = record { done = []; whole_is = refl; delivered_is = refl; holds = shows }; ends_are = refl }

  gone_leads : (i : ℕ) (kubelet : Option ℕ) (ends : List ℕ) (old new : Program) (before now : List X) → Gone i kubelet ends old new before now
      → Leads reconciler phase is_waiting (course_of_all None namespaces turns) (course_of_all kubelet namespaces (drop i turns)) old new before now
  gone_leads i kubelet ends old new before now gone z reconcilers k shows = (gone z reconcilers k shows).come

  -- the kubelet after a turn
  abbrev pub IsKubelet : (before now : Option ℕ) → Turn → Program → List X → Type 0
  IsKubelet before now t program xs = (z : Size) (reconcilers : ℕ → Reconciler) (k : Cluster) → Shows reconciler phase is_waiting z reconcilers k program xs → kubelet_at before k t ≡ now

  -- a turn and the ones after it
  abbrev one_then : Option ℕ → Turn → List Turn → Course
  one_then now t ts = followed_by (course_of now namespaces t) (λ delivered. course_of_all now namespaces ts)

  as_one : (kubelet now : Option ℕ) (t : Turn) (ts : List Turn) (mid : Program) (between : List X) → IsKubelet kubelet now t mid between
      → AreSame reconciler phase is_waiting (course_of_all kubelet namespaces (t ∷ ts)) (one_then now t ts) mid between
  as_one kubelet now t ts mid between is z reconcilers k shows = ap (λ n. one_then n t ts z (length between) reconcilers k) (is z reconcilers k shows)

  module _ (i : ℕ) (t : Turn) (kubelet now : Option ℕ) (ends : List ℕ) (old mid : Program) (before between : List X) (low : i < length turns) (is : t ≡ get_or turns i t)
      (same : length between ≡ length before) (by : IsKubelet kubelet now t mid between) (gone : Gone i kubelet ends old mid before between) where
    pub gone_halts : (fault : ClusterFault) (xs : List X) → Halts reconciler phase is_waiting fault (course_of now namespaces t) mid between xs
        → Halts reconciler phase is_waiting fault (course_of_all None namespaces turns) old before xs
    gone_halts fault xs halts =
        let rest = drop (i + 1) turns in
        halts_on reconciler phase is_waiting fault (course_of_all None namespaces turns) (course_of_all kubelet namespaces (drop i turns)) old mid before between xs same
        (gone_leads i kubelet ends old mid before between gone)
        (subst (λ l. Halts reconciler phase is_waiting fault (course_of_all kubelet namespaces l) mid between xs) (sym (drop_at turns i t low is))
        (halts_as reconciler phase is_waiting fault (course_of_all kubelet namespaces (t ∷ rest)) (one_then now t rest) mid between xs (as_one kubelet now t rest mid between by)
        (first_halts reconciler phase is_waiting fault (course_of now namespaces t) (λ delivered. course_of_all now namespaces rest) mid between xs halts)))

    pub gone_more : (delivered : Option Reply) (new : Program) (xs : List X)
        → Leads reconciler phase is_waiting (course_of now namespaces t) (ends_with delivered) mid new between xs
        → Gone (i + 1) now (ends ++ length new.events.items ∷ []) old new before xs
    gone_more delivered new xs leads z reconcilers k shows =
        let n = length before in
        let rest = drop (i + 1) turns in
        let e = length new.events.items in
        let one = gone z reconcilers k shows in
        let v = run z n reconcilers k one.come.done in
        let two : HasCome (IsShownAs reconciler phase is_waiting new xs) z n reconcilers v (course_of now namespaces t) (ends_with delivered) =
        subst (λ m. HasCome (IsShownAs reconciler phase is_waiting new xs) z m reconcilers v (course_of now namespaces t) (ends_with delivered)) same (leads z reconcilers v one.come.holds) in
        let after : List ClusterEvent → Cluster = λ l. run z n reconcilers v l in
        let all : (course_of now namespaces t z n reconcilers v).0 ≡ two.done = two.whole_is ∙ append-nil two.done in
        let at = drop_at turns i t low is in
        let kept = by z reconcilers v one.come.holds in
        let both : run z n reconcilers k (one.come.done ++ two.done) ≡ after two.done = run-append z n reconcilers k one.come.done two.done in
        let left : course_of_all kubelet namespaces (drop i turns) z n reconcilers v ≡ one_then now t rest z n reconcilers v =
        ap (λ l. course_of_all kubelet namespaces l z n reconcilers v) at ∙ ap (λ m. one_then m t rest z n reconcilers v) kept in
        let come : Cluster → Outcome = λ w. course_of_all now namespaces rest z n reconcilers w in
        let on : Option ℕ → Cluster → List ℕ = λ m w. length w.events ∷ ends_from m namespaces rest z n reconcilers w in
        record {
          come = record {
            done = one.come.done ++ two.done;
            whole_is = one.come.whole_is
                ∙ ap (λ l. one.come.done ++ l) (ap (λ (o : Outcome). o.0) left ∙ ap (λ l. l ++ (come (after l)).0) all)
                ∙ sym (append_assoc one.come.done two.done (come (after two.done)).0)
                ∙ ap (λ w. (one.come.done ++ two.done) ++ (come w).0) (sym both);
            delivered_is = one.come.delivered_is ∙ ap (λ (o : Outcome). o.1) left ∙ ap (λ l. (come (after l)).1) all ∙ ap (λ w. (come w).1) (sym both);
            holds = subst (λ w. Shows reconciler phase is_waiting z reconcilers w new xs) (sym both) two.holds;
          };
          ends_are = one.ends_are
              ∙ ap (λ l. ends ++ l) (
              ap (λ l. ends_from kubelet namespaces l z n reconcilers v) at
              ∙ ap (λ m. on m (after (course_of m namespaces t z n reconcilers v).0)) kept
              ∙ ap (λ l. on now (after l)) all
              ∙ ap (λ l. length l ∷ ends_from now namespaces rest z n reconcilers (after two.done)) (sym two.holds.0.0.events_are))
              ∙ sym (append_assoc ends (e ∷ []) (ends_from now namespaces rest z n reconcilers (after two.done)))
              ∙ ap (λ w. (ends ++ e ∷ []) ++ ends_from now namespaces rest z n reconcilers w) (sym both);
        }

  -- no memory to note how many events there are after a turn
  pub gone_stays : (i : ℕ) (kubelet : Option ℕ) (ends : List ℕ) (old new : Program) (before now : List X) → length now ≡ length before → Gone i kubelet ends old new before now
      → Halts reconciler phase is_waiting OutOfMemory (course_of_all None namespaces turns) old before now
  gone_stays i kubelet ends old new before now same gone =
      halts_on reconciler phase is_waiting OutOfMemory (course_of_all None namespaces turns) (course_of_all kubelet namespaces (drop i turns)) old new before now now same
      (gone_leads i kubelet ends old new before now gone)
      (still_halts reconciler phase is_waiting OutOfMemory (course_of_all kubelet namespaces (drop i turns)) new now now (refl, refl) not_many)

  module _ (i : ℕ) (kubelet : Option ℕ) (ends : List ℕ) (old new : Program) (before now : List X) (past : length turns ≤ i) (gone : Gone i kubelet ends old new before now) where
    pub gone_all : Leads reconciler phase is_waiting (course_of_all None namespaces turns) nothing old new before now
    gone_all =
        subst (λ l. Leads reconciler phase is_waiting (course_of_all None namespaces turns) (course_of_all kubelet namespaces l) old new before now) (drop_all i turns past)
        (gone_leads i kubelet ends old new before now gone)

    pub gone_ends : ComesTo reconciler phase is_waiting namespaces turns ends old before
    gone_ends z reconcilers k shows =
        let n = length before in
        let one = gone z reconcilers k shows in
        sym (one.ends_are ∙ ap (λ l. ends ++ ends_from kubelet namespaces l z n reconcilers (run z n reconcilers k one.come.done)) (drop_all i turns past) ∙ append-nil ends)
