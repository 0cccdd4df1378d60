-- When a caller can get its reply.
use Rattle.std.proofs.Common.{◌≡◌, ℕ, ◌<◌, ◌≤◌, true, cond, List, [], ◌∷◌, length, Option, Some, None, refl, sym, ap, ◌∙◌, subst, arith, ◌⊎◌, inl, inr}
use Rattle.std.specs.FinMap as finite
use Rattle.objects.specs.declared.kind.Kind.{Kind}
use Rattle.requests.specs.declared.request.Request.TheVariants as request
use Rattle.requests.specs.declared.reply.Reply.TheVariants.{Listed}
use Rattle.std.proofs.lemmas.Option.{same_Some}
use Rattle.requests.specs.declared.request.Request.{Request}
use Rattle.requests.specs.declared.request.Request.TheVariants.{Get}
use Rattle.requests.specs.declared.reply.Reply.{Reply}
use Rattle.requests.specs.Verdict.{is_write}
use Rattle.objects.specs.declared.key.Key.{Key}
use Rattle.objects.specs.ShardOf.{shard_of}
use Rattle.plain_store.specs.Route.{compacts, lists, lists_at, route, writes}
use Rattle.plain_store.specs.Store.{Objects, Store, compacted_to, denied, found}
use Rattle.requests.specs.declared.reply.Reason.{Reason}
use Rattle.interleavings.proofs.Plainly.{step_routed}
use Rattle.versions.specs.Records as versions
use Rattle.interleavings.specs.declared.event.Event.TheVariants as event
use Rattle.history.specs.declared.machine.Machine.{Machine}
use Rattle.history.specs.declared.phase.Phase.{Phase as CodePhase}
use Rattle.history.specs.declared.phase.Phase.TheVariants as code
use Rattle.interleavings.specs.Facts.{Facts}
use Rattle.interleavings.specs.Log.{state_at}
use Rattle.interleavings.specs.Order.{Arrangement, moved}
use Rattle.interleavings.specs.Step.{with_reply, with_reply_if, only, replied}
use Rattle.interleavings.specs.World.{Phase, Idle, Waiting, Reading, Size, World, shard}
use Rattle.history.specs.Replayed.{Answers, Does, IsDue, IsNumbered, IsShown, IsDelivered, Shows, Stands, Tells, compaction_at, is_replying, phase_at, reading_in, records_of, shard_at, waiting_in}
use Rattle.interleavings.proofs.Basics.{Compared, same, other, compare, Least, atmost, above, least, changed-same}
use Rattle.history.specs.Mirrors.{found_in}
use Rattle.history.proofs.ListAnswers.{list_answer}
use Rattle.history.proofs.MirrorReads.{get_answer}
use Rattle.interleavings.proofs.Quiets.{shard_below}
use Rattle.history.proofs.Stepping.{nothing, steps}

-- ---- in its phases
waits_at : (p : CodePhase) (ph : Phase) (saw : ℕ) (reply : Reply) → waiting_in p ≡ Some (saw, reply) → IsShown p ph → (place : ℕ) × (ph ≡ Waiting saw place reply)
waits_at (code.Waiting s place r) ph saw reply e h = (place, h ∙ ap (λ (x : ℕ × Reply). Waiting x.0 place x.1) (same_Some _ _ e))
waits_at _ ph saw reply e h = absurd cc

pub waiting_replies : (p : CodePhase) (x : ℕ × Reply) → waiting_in p ≡ Some x → is_replying p ≡ true
waiting_replies (code.Waiting s place r) x e = refl
waiting_replies _ x e = absurd cc

pub reading_replies : (p : CodePhase) (x : ℕ × Request × ℕ) → reading_in p ≡ Some x → is_replying p ≡ true
reading_replies (code.Reading n p r left) x e = refl
reading_replies _ x e = absurd cc

reads_at : (p : CodePhase) (ph : Phase) (n : ℕ) (r : Request) (left : ℕ) → reading_in p ≡ Some (n, r, left) → IsShown p ph → (place : ℕ) × ((parts : List ℕ) × ((found : Objects) × ((ph ≡ Reading n place r parts found) × (length parts ≡ left))))
reads_at (code.Reading n place r left) ph m q l e h =
    let x = same_Some _ _ e in
    (place, (h.0, (h.1.0, (h.1.1.0 ∙ ap (λ (y : ℕ × Request × ℕ). Reading y.0 place y.1 h.0 h.1.0) x, h.1.1.1 ∙ ap (λ (y : ℕ × Request × ℕ). y.2) x))))
reads_at _ ph m q l e h = absurd cc

module _ (m : Machine) (c : ℕ) where
  -- a reply waits for the frontier
  pub due_later : (saw : ℕ) (reply : Reply) → waiting_in (phase_at m.callers c) ≡ Some (saw, reply) → m.frontier < saw → IsDue c None m
  due_later saw reply e lt = λ z w a sh facts.
      let x = waits_at (phase_at m.callers c) (w.phase c) saw reply e (sh.phases c) in
      ap (replied z w c) x.1 ∙ by z w a sh x.0 (least saw w.frontier)
    where
      by : (z : Size) (w : World) (a : Arrangement) → Shows z w a m → (place : ℕ) → Least saw w.frontier → replied z w c (Waiting saw place reply) ≡ w
      by z w a sh place (atmost le b) = let f = sh.frontier in absurd (omega arith)
      by z w a sh place (above gt b) = ap (λ t. with_reply_if t w c reply) b

  pub due_now : (saw : ℕ) (reply : Reply) → waiting_in (phase_at m.callers c) ≡ Some (saw, reply) → saw ≤ m.frontier → IsDue c (Some reply) m
  unfolding IsDelivered
  due_now saw reply e le = (
    waiting_replies (phase_at m.callers c) (saw, reply) e,
    λ z w a sh facts.
        let x = waits_at (phase_at m.callers c) (w.phase c) saw reply e (sh.phases c) in
        (ap (replied z w c) x.1 ∙ by z w a sh x.0 (least saw w.frontier), λ b. ap (λ ph. moved w.frontier c ph Idle b) x.1),
  )
    where
      by : (z : Size) (w : World) (a : Arrangement) → Shows z w a m → (place : ℕ) → Least saw w.frontier → replied z w c (Waiting saw place reply) ≡ with_reply w c reply
      by z w a sh place (atmost k b) = ap (λ t. with_reply_if t w c reply) b
      by z w a sh place (above gt b) = let f = sh.frontier in absurd (omega arith)

  -- all shards of a read are read
  pub due_read : (n : ℕ) (r : Request) (reply : Reply) → reading_in (phase_at m.callers c) ≡ Some (n, r, 0) → Answers n r reply m → IsDue c (Some reply) m
  unfolding IsDelivered Answers
  due_read n r reply e answer = (
    reading_replies (phase_at m.callers c) (n, r, 0) e,
    λ z w a sh facts.
        let x = reads_at (phase_at m.callers c) (w.phase c) n r 0 e (sh.phases c) in
        (by z w a sh facts x.0 x.1.0 x.1.1.0 x.1.1.1.0 x.1.1.1.1, λ b. ap (λ ph. moved w.frontier c ph Idle b) x.1.1.1.0),
  )
    where
      by : (z : Size) (w : World) (a : Arrangement) → Shows z w a m → Facts z w → (place : ℕ) (parts : List ℕ) (got : Objects) → w.phase c ≡ Reading n place r parts got → length parts ≡ 0 → replied z w c (w.phase c) ≡ with_reply w c reply
      by z w a sh facts place [] got at count = ap (replied z w c) at ∙ ap (with_reply w c) (facts.answer c n place r got at ∙ sym (answer z w a sh facts))
      by z w a sh facts place (s ∷ parts) got at count = absurd (omega arith)

  -- some are not
  pub due_unread : (n : ℕ) (r : Request) (left : ℕ) → reading_in (phase_at m.callers c) ≡ Some (n, r, left) → 0 < left → IsDue c None m
  due_unread n r left e some = λ z w a sh facts.
      let x = reads_at (phase_at m.callers c) (w.phase c) n r left e (sh.phases c) in
      ap (replied z w c) x.1.1.1.0 ∙ by z w x.0 x.1.0 x.1.1.0 x.1.1.1.1
    where
      by : (z : Size) (w : World) (place : ℕ) (parts : List ℕ) (got : Objects) → length parts ≡ left → replied z w c (Reading n place r parts got) ≡ w
      by z w place [] got count = absurd (omega arith)
      by z w place (s ∷ parts) got count = refl

  neither : (z : Size) (w : World) (p : CodePhase) (ph : Phase) → waiting_in p ≡ None → reading_in p ≡ None → IsShown p ph → replied z w c ph ≡ w
  neither z w (code.Waiting s p r) ph e f h = absurd cc
  neither z w (code.Reading n p r left) ph e f h = absurd cc
  neither z w _ ph e f h = ap (replied z w c) h

  pub due_none : waiting_in (phase_at m.callers c) ≡ None → reading_in (phase_at m.callers c) ≡ None → IsDue c None m
  due_none e f = λ z w a sh facts. neither z w (phase_at m.callers c) (w.phase c) e f (sh.phases c)

  -- ---- Reply
  pub reply_nothing : IsDue c None m → Does (event.Reply c) m m
  unfolding Does
  reply_nothing due = λ z w a sh facts. nothing z w c a m _ (due z w a sh facts) sh

  pub reply_done : (m' : Machine) (reply : Reply) → IsDue c (Some reply) m → Tells c reply m m' → Does (event.Reply c) m m'
  unfolding Does Tells IsDelivered
  reply_done m' reply due tells = λ z w a sh facts.
      let delivered = due.1 z w a sh facts in
      steps z w c a m' (with_reply w c reply) _ (w.phase c) Idle delivered.0 refl (changed-same w.phase c Idle) (subst (λ b. Shows z (with_reply w c reply) b m') (sym (delivered.1 a)) (tells z w a sh))

-- ---- a get
pub get_found : (m : Machine) (number : ℕ) (k : Key) (reply : Reply) → shard_of k (length m.shards.items) < length m.shards.items → m.compacted ≤ number → reply ≡ found (versions.value (shard_at m.shards.items (shard_of k (length m.shards.items))).records number k) → Answers number (Get k) reply m
unfolding Answers shard route
get_found m number k reply lt kept is = λ z w a sh facts.
    let own : shard_of k (length m.shards.items) ≡ shard z k = ap (shard_of k) sh.log.count in
    let below : shard z k < z.shards = (let c = sh.log.count in omega arith) in
    let floor = sh.log.floors (shard z k) below in
    is ∙ ap (λ s. found (versions.value (shard_at m.shards.items s).records number k)) own ∙ sym (get_answer k (sh.log.mirrors (shard z k) below) number (omega arith) (Get k) refl)

-- each key has a shard
pub below_shards : (m : Machine) (k : Key) → Stands m → shard_of k (length m.shards.items) < length m.shards.items
unfolding shard
below_shards m k st =
    let sh : Shows st.0 st.1.0 st.1.1.0 m = st.1.1.1.0 in
    let facts : Facts st.0 st.1.0 = st.1.1.1.1 in
    subst (λ n. shard_of k n < n) (sym sh.log.count) (shard_below st.0 k facts.some)

-- ---- a list
pub list_found : (m : Machine) (number : ℕ) (kind : Kind) (namespace : List ℕ) (exact : ℕ) (reply : Reply) → (exact ≡ 0) ⊎ (exact ≡ number) → m.compacted ≤ number
    → reply ≡ Listed (finite.values (found_in (records_of m) number kind namespace (length m.shards.items))) number → Answers number (request.List kind namespace exact) reply m
unfolding Answers
list_found m number kind namespace exact reply numbered kept is = λ z w a sh facts.
    is ∙ ap (λ n. Listed (finite.values (found_in (records_of m) number kind namespace n)) number) sh.log.count
    ∙ sym (list_answer z w.log w.drawn (records_of m) (λ s. (shard_at m.shards.items s).floor) number sh.log.mirrors (λ s lt. let f = sh.log.floors s lt in omega arith) facts.filed facts.some kind namespace exact numbered)

-- a request that is being read is read at its number
pub numbered_list : (number : ℕ) (kind : Kind) (namespace : List ℕ) (exact : ℕ) → IsNumbered number (request.List kind namespace exact) → (exact ≡ 0) ⊎ (exact ≡ number)
unfolding route
numbered_list number kind namespace exact numbered = by (compare exact 0)
  where
    by : Compared exact 0 → (exact ≡ 0) ⊎ (exact ≡ number)
    by (same e b) = inl e
    by (other ne b) = inr (numbered kind namespace exact (ap (λ t. cond t (lists kind namespace) (lists_at kind namespace exact)) b))

compaction_route : (to : ℕ) → route (request.Compact to) ≡ compacts to
unfolding route
compaction_route to = refl

-- ---- a compaction
pub compaction_found : (m : Machine) (number to : ℕ) (reply : Reply) → reply ≡ compaction_at number to (denied number number to) → Answers number (request.Compact to) reply m
unfolding Answers
compaction_found m number to reply is = λ z w a sh facts. is ∙ by z w (denied number number to) ∙ sym (ap (λ (x : Store × Reply). x.1) (step_routed (only z number (state_at w.log number)) (request.Compact to) (compacts to) routed_so))
  where
    routed_so : route (request.Compact to) ≡ compacts to
    routed_so = compaction_route to

    by : (z : Size) (w : World) (o : Option Reason) → compaction_at number to o ≡ (compacted_to (only z number (state_at w.log number)) to o).1
    by z w None = refl
    by z w (Some reason) = refl

-- a write is not read
pub writes_unread : (r : Request) → ((k : Key) → route r ≡ writes k → ⊥) → is_write r ≡ true → ⊥
unfolding route
writes_unread (request.Create d) f e = f d.object.key refl
writes_unread (request.Get k) f e = absurd cc
writes_unread (request.List kind namespace exact) f e = absurd cc
writes_unread (request.Update d) f e = f d.object.key refl
writes_unread (request.UpdateStatus d) f e = f d.object.key refl
writes_unread (request.Delete k uid version at) f e = f k refl
writes_unread (request.Compact to) f e = absurd cc
