-- In a quiet cluster a controller and a kubelet use one plain store.
use Rattle.std.proofs.Common.{◌≡◌, ◌<◌, ◌≤◌, ◌∷◌, [], ℕ, zero, suc, true, cond, List, Option, Some, None, sym, ap, ◌∙◌, subst, arith}
use Rattle.std.specs.Prelude.{not, ◌&&◌}
use Rattle.requests.specs.declared.reply.Reply.{Reply}
use Rattle.requests.specs.declared.request.Request.{Request}
use Rattle.plain_store.specs.Run as plain
use Rattle.plain_store.specs.Store.{Store, step}
use Rattle.interleavings.specs.World.{Idle, Size}
use Rattle.interleavings.proofs.Basics.{eq_self}
use Rattle.rounds.specs.Phase.{Phase, asks, takes}
use Rattle.rounds.specs.Reconciler.{Reconciler}
use Rattle.cluster_runs.specs.Cluster.{Cluster, is_idle, run}
use Rattle.cluster_runs.specs.Turns.{Course, asked, asked_all, asked_as, asked_while, begins, followed_by, if_next, is_next, is_within, nothing}
use Rattle.cluster_runs.proofs.Showing.{run-append}
use Rattle.cluster_runs.proofs.Steps.{Keeps, run_kept}
use Rattle.quiet_runs.specs.Plain.{plain_of}
use Rattle.quiet_runs.specs.Quiet.{IsQuiet, world_of}
use Rattle.quiet_runs.proofs.Asked.{controllers_are_answered_plainly, others_are_answered_plainly}
use Rattle.quiet_runs.proofs.Stays.{asked_as_calms, asked_calms}
use Rattle.resting.specs.Still.{exchanged, exchanged_times}
use Rattle.settling.proofs.Inside.{Inside}

module _ (z : Size) (count : ℕ) (reconcilers : ℕ → Reconciler) (some : 0 < z.shards) (few : z.shards ≤ 64) (c : ℕ) (low : c < count) (n : ℕ) where
  -- the store of a quiet cluster, and the phase of the controller; it waits for no reply, and neither does the kubelet
  pub record Shows (k : Cluster) (now : Store × Phase) : Type 0 where
    pub kept : Keeps z reconcilers count k
    pub quiet : IsQuiet (world_of z k)
    pub idle : (world_of z k).phase (k.callers c) ≡ Idle
    pub kubelet_idle : (world_of z k).phase n ≡ Idle
    pub kubelet_apart : k.incarnations n ≡ None
    pub store : plain_of z k ≡ now.0
    pub phase : k.phases c ≡ now.1

  abbrev pub run_of : Course → Cluster → Cluster
  run_of course k = run z count reconcilers k (course z count reconcilers k).0

  pub follows : (first : Course) (next : Option Reply → Course) (k : Cluster) → run_of (followed_by first next) k ≡ run_of (next (first z count reconcilers k).1) (run_of first k)
  follows first next k = run-append z count reconcilers k (first z count reconcilers k).0 (next (first z count reconcilers k).1 z count reconcilers (run_of first k)).0

  -- ---- the controller
  pub asks_once : (k : Cluster) (now : Store × Phase) → Shows k now → Shows (run_of (asked c) k) (exchanged (reconcilers c) now)
  asks_once k now is =
      let after = run_of (asked c) k in
      let r = asks (reconcilers c) (k.phases c) in
      let plainly = controllers_are_answered_plainly z count reconcilers some few k is.kept c low is.quiet is.idle in
      let stays = asked_calms z count reconcilers some few c k is.kept is.quiet in
      let before : Store × Phase = (plain_of z k, k.phases c) in
      let same : before ≡ now = λ i. (is.store i, is.phase i) in
      record {
        kept = run_kept z reconcilers count k is.kept (asked c z count reconcilers k).0;
        quiet = stays.quiet;
        idle = ap (λ f. (world_of z after).phase (f c)) stays.callers ∙ stays.idle (k.callers c) is.idle;
        kubelet_idle = stays.idle n is.kubelet_idle;
        kubelet_apart = ap (λ f. f n) plainly.incarnations ∙ is.kubelet_apart;
        store = plainly.left ∙ ap (λ (x : Store × Phase). (exchanged (reconcilers c) x).0) same;
        phase = ap (λ f. f c) plainly.phases
            ∙ ap (λ b. cond b (takes (reconcilers c) (k.phases c) (step (plain_of z k) r).1) (k.phases c)) (eq_self c)
            ∙ ap (λ (x : Store × Phase). (exchanged (reconcilers c) x).1) same;
      }

  is_next_by : (k : Cluster) (now : Store × Phase) → Shows k now → is_next is_within z reconcilers k c ≡ not (begins (asks (reconcilers c) now.1))
  is_next_by k now is =
      ap (λ ph. is_idle ph && is_within (asks (reconcilers c) (k.phases c))) is.idle
      ∙ ap (λ ph. not (begins (asks (reconcilers c) ph))) is.phase

  abbrev if_within : ℕ → Course
  if_within most = if_next is_within c (asked_while is_within most c) nothing

  -- it continues while its next request is within the round
  continues : (m most : ℕ) (k : Cluster) (now : Store × Phase) → Shows k now → Inside m (reconcilers c) now
      → begins (asks (reconcilers c) (exchanged_times m (reconcilers c) now).1) ≡ true → m ≤ most → Shows (run_of (if_within most) k) (exchanged_times m (reconcilers c) now)
  unfolding asked_while
  continues zero most k now is inside over enough =
      subst (λ b. Shows (run z count reconcilers k (cond b (asked_while is_within most c z count reconcilers k) ([], None)).0) now) (sym (is_next_by k now is ∙ ap not over)) is
  continues (suc m) zero k now is inside over enough = absurd (omega (arith, enough))
  continues (suc m) (suc most) k now is inside over enough =
      let next : Cluster = run_of (asked c) k in
      let done = continues m most next (exchanged (reconcilers c) now) (asks_once k now is) inside.1 over (omega (arith, enough)) in
      subst (λ b. Shows (run z count reconcilers k (cond b (asked_while is_within (suc most) c z count reconcilers k) ([], None)).0) (exchanged_times (suc m) (reconcilers c) now))
      (sym (is_next_by k now is ∙ ap not inside.0))
      (subst (λ (x : Cluster). Shows x (exchanged_times (suc m) (reconcilers c) now)) (sym (follows (asked c) (λ delivered. if_within most) k)) done)

  pub asks_while : (m most : ℕ) (k : Cluster) (now : Store × Phase) → Shows k now → Inside m (reconcilers c) (exchanged (reconcilers c) now)
      → begins (asks (reconcilers c) (exchanged_times m (reconcilers c) (exchanged (reconcilers c) now)).1) ≡ true → suc m ≤ most
      → Shows (run_of (asked_while is_within most c) k) (exchanged_times m (reconcilers c) (exchanged (reconcilers c) now))
  unfolding asked_while
  asks_while m zero k now is inside over enough = absurd (omega (arith, enough))
  asks_while m (suc most) k now is inside over enough =
      subst (λ (x : Cluster). Shows x (exchanged_times m (reconcilers c) (exchanged (reconcilers c) now))) (sym (follows (asked c) (λ delivered. if_within most) k))
      (continues m most (run_of (asked c) k) (exchanged (reconcilers c) now) (asks_once k now is) inside over (omega (arith, enough)))

  -- ---- the kubelet
  -- what its request leaves, and the reply
  pub record Tells (k : Cluster) (r : Request) (s : Store) (ph : Phase) : Type 0 where
    pub shows : Shows (run_of (asked_as n r) k) ((step s r).0, ph)
    pub told : (asked_as n r z count reconcilers k).1 ≡ Some (step s r).1

  pub asks_as : (k : Cluster) (s : Store) (ph : Phase) (r : Request) → Shows k (s, ph) → Tells k r s ph
  asks_as k s ph r is =
      let after = run_of (asked_as n r) k in
      let plainly = others_are_answered_plainly z count reconcilers some few k n r is.quiet is.kubelet_idle is.kubelet_apart in
      let stays = asked_as_calms z count reconcilers some few n r k is.kept is.quiet in
      record {
        shows = record {
          kept = run_kept z reconcilers count k is.kept (asked_as n r z count reconcilers k).0;
          quiet = stays.quiet;
          idle = ap (λ f. (world_of z after).phase (f c)) stays.callers ∙ stays.idle (k.callers c) is.idle;
          kubelet_idle = stays.idle n is.kubelet_idle;
          kubelet_apart = ap (λ f. f n) plainly.incarnations ∙ is.kubelet_apart;
          store = plainly.left ∙ ap (λ x. (step x r).0) is.store;
          phase = ap (λ f. f c) plainly.phases ∙ is.phase;
        };
        told = plainly.told ∙ ap (λ x. Some (step x r).1) is.store;
      }

  pub asks_all : (rs : List Request) (k : Cluster) (s : Store) (ph : Phase) → Shows k (s, ph) → Shows (run_of (asked_all n rs) k) (plain.after s rs, ph)
  asks_all [] k s ph is = is
  asks_all (r ∷ rs) k s ph is =
      subst (λ (x : Cluster). Shows x (plain.after (step s r).0 rs, ph)) (sym (follows (asked_as n r) (λ delivered. asked_all n rs) k))
      (asks_all rs (run_of (asked_as n r) k) (step s r).0 ph (asks_as k s ph r is).shows)
