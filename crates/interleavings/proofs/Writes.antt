-- A number is allocated, and a write is added to the log.
use Rattle.std.proofs.Common.{◌≡◌, ◌≢◌, ℕ, suc, ◌<◌, ◌≤◌, Bool, true, false, Some, None, refl, sym, ap, ◌∙◌, subst, arith, nat_lt, ltb-true, ltb-false}
use Rattle.objects.specs.declared.key.Key.{Key}
use Rattle.requests.specs.declared.request.Request.{Request}
use Rattle.requests.specs.declared.reply.Reply.{Reply}
use Rattle.interleavings.specs.Log.{Log, Writing, value}
use Rattle.interleavings.specs.World.{Draw, Phase, Holding, Drawn, Waiting, Gone, Size, World, changed, shard}
use Rattle.interleavings.specs.Order.{Arrangement}
use Rattle.interleavings.specs.Step.{drawn_by, filled, later, published, reserved, accepted_reply}
use Rattle.interleavings.proofs.Basics.{Compared, same, other, compare, changed-same, changed-other, changed_all, changed_key, changed_key-same, changed_key-other, changed_key_all}
use Rattle.interleavings.proofs.Values.{state_put, value_none, value_put}
use Rattle.interleavings.proofs.Plainly.{judge, judge_moves, plainly_put}
use Rattle.interleavings.proofs.Orders.{fate_other, later_on, live-placed, refate}
use Rattle.interleavings.proofs.Invariant.{Aside, AwaitFacts, is_aside, is_queued, DrawnFacts, Fate, Ghost, HoldingFacts, Invariant, IsLastCall, Known, Live, Opens, PhaseFacts, Queued, StaysFacts, Status, WritingFacts}
use Rattle.interleavings.proofs.Frames.{Frame, frame}
use Rattle.interleavings.proofs.Arranged.{Holds, Moves, Shows}
use Rattle.interleavings.proofs.Quiets.{free_holds, idle_goes, reserve_full, some_same}

module _ (z : Size) (w : World) (g : Ghost) (iv : Invariant z w g) (a : Arrangement) (sh : Shows g a) (c : ℕ) where
  -- ---- Reserve
  draw_goes : (t : Writing) → HoldingFacts z w g c t → IsLastCall w.trace c t.place → w.drawn < z.capacity → Moves z w c (Holding t) a (later (drawn_by z w c t true))
  draw_goes t h op lt = record {
    after = Drawn x;
    entered = changed-same w.phase c (Drawn x);
    holds = (
      g',
      (
        record {
          within = (let a = iv.within in omega arith);
          room = lt;
          above = λ i le. iv.above i (omega arith);
          bound = λ k. let b = iv.bound k in omega arith;
          standing = iv.standing;
          state = iv.state;
          good = later_on z w.trace w.now g.jobs g.fate iv.good;
          phases = changed_all (PhaseFacts z w' g') w.phase c (Drawn x) mine (λ d ne. frame z w g w' g' d (framed d ne) (w.phase d) (iv.phases d));
          opens = changed_all (Opens w.trace) w.phase c (Drawn x) op (λ d ne. iv.opens d);
          writings = λ i t e. let h = iv.writings i t e in record { request = h.request; routed = h.routed; settled = h.settled; judged = h.judged; queued = h.queued };
          asides = λ p m. let h = iv.asides p m in record { ahead = h.ahead; request = h.request; aside = h.aside; reply = h.reply; stays = stays_so p.number h.request h.reply h.stays };
          apart = iv.apart;
        },
        record { order = sh.order; parked = sh.parked },
      ),
    );
  }
    where
      x : Draw
      x = record { index = w.drawn; writing = t }

      w' : World
      w' = record w { drawn = suc w.drawn; phase = changed w.phase c (Drawn x); now = suc w.now }

      g' : Ghost
      g' = record g { taker = changed g.taker w.drawn c }

      none : w.log w.drawn ≡ None
      none = iv.above w.drawn (omega arith)

      mine : DrawnFacts z w' g' c w.drawn t
      mine = record {
        request = h.request;
        held = record { live = h.held.live; holds = h.held.holds; routed = h.held.routed };
        ahead = iv.within;
        below = omega arith;
        empty = none;
        taken = changed-same g.taker w.drawn c;
        later = iv.bound t.key;
        judged = judge_moves z w.drawn _ h.request t.change lt h.judged;
      }

      stays_so : (s : ℕ) (j : Request) (r : Reply) → StaysFacts z w.log g.settled s j r → StaysFacts z w'.log g'.settled s j r
      stays_so s j r h = h

      awaits : (d s j : ℕ) (r : Reply) → AwaitFacts z w.log g.parked g.fate g.settled d s j r → AwaitFacts z w'.log g'.parked g'.fate g'.settled d s j r
      awaits d s j r h = h

      framed : (d : ℕ) → d ≢ c → Frame z w g w' g' d
      framed d ne = record {
        live = λ p y e. e;
        holds = λ s e. e;
        taken = λ i lt e. changed-other g.taker w.drawn c i (λ x. absurd (omega arith)) ∙ e;
        drawn = omega arith;
        front = omega arith;
        still_empty = λ i lt e n a. (n, a);
        settled = λ k h. refl;
        newest = λ k h. value_none w.log w.drawn k none;
        below = λ n k h. refl;
        past = λ n k h. refl;
        states = λ n h. refl;
        tells = λ p r h. h;
        waits = λ s j r lt a. record { passed = λ le. absurd (omega arith); awaits = λ _. awaits d s j r a };
      }

  draw_if : (t : Writing) → HoldingFacts z w g c t → IsLastCall w.trace c t.place → (b : Bool) → nat_lt w.drawn z.capacity ≡ b → Moves z w c (Holding t) a (later (drawn_by z w c t b))
  draw_if t h op true e = draw_goes t h op (ltb-true w.drawn z.capacity e)
  draw_if t h op false e = reserve_full z w g iv a sh c t h op (ltb-false w.drawn z.capacity e)

  pub reserve_goes : (ph : Phase) → w.phase c ≡ ph → PhaseFacts z w g c ph → Opens w.trace c ph → Moves z w c ph a (later (reserved z w c ph))
  reserve_goes (Holding t) at h op = draw_if t h op (nat_lt w.drawn z.capacity) refl
  reserve_goes ph at h op = idle_goes z w g iv a sh c ph at

  -- ---- Publish: the new write, and the caller's phase after it
  fill_goes : (x : Draw) (ph : Phase) → DrawnFacts z w g c x.index x.writing → Opens w.trace c ph → ((w' : World) (g' : Ghost) → w'.frontier ≡ w.frontier → w'.log x.index ≡ Some x.writing → PhaseFacts z w' g' c ph) → Holds z (later (filled z w c x ph)) a
  fill_goes x ph h op mine = (
    g',
    (
      record {
        within = iv.within;
        room = iv.room;
        above = λ l le. changed-other w.log i (Some t) l (λ e. let b = h.below in absurd (omega arith)) ∙ iv.above l le;
        bound = changed_key_all (λ k n. n ≤ w.drawn) g.settled t.key (suc i) h.below (λ k ne. iv.bound k);
        standing = iv.standing;
        state = iv.state ∙ sym (plainly_put z w.log i (Some t) w.floor w.frontier iv.standing h.ahead);
        good = later_on z w.trace w.now g.jobs φ (refate z w.trace w.now g.jobs g.fate iv.good t.place h.request (Live c) (Queued i) h.held.live (live-placed c));
        phases = changed_all (PhaseFacts z w' g') w.phase c ph (mine w' g' refl (changed-same w.log i (Some t))) (λ d ne. frame z w g w' g' d (framed d ne) (w.phase d) (iv.phases d));
        opens = changed_all (Opens w.trace) w.phase c ph op (λ d ne. iv.opens d);
        writings = λ l u e. written l u e (compare l i);
        asides = λ p m. let h = iv.asides p m in record { ahead = h.ahead; request = h.request; aside = saves p.place h.request Aside h.aside (λ e. cc); reply = h.reply; stays = stays_so p.number h.request h.reply h.stays };
        apart = iv.apart;
      },
      record { order = sh.order; parked = sh.parked },
    ),
  )
    where
      i : ℕ
      i = x.index

      t : Writing
      t = x.writing

      log' : Log
      log' = changed w.log i (Some t)

      φ : ℕ → Fate
      φ = changed g.fate t.place (Known h.request (Queued i))

      w' : World
      w' = record w { log = log'; holder = changed w.holder (shard z t.key) None; phase = changed w.phase c ph; now = suc w.now }

      g' : Ghost
      g' = record { fate = φ; taker = g.taker; settled = changed_key g.settled t.key (suc i); jobs = g.jobs; parked = g.parked }

      saves : (p : ℕ) (q : Request) (st : Status) → g.fate p ≡ Known q st → st ≢ Live c → φ p ≡ Known q st
      saves p q st e ne = fate_other g.fate t.place p h.request q (Live c) st _ h.held.live e (λ x. ne (sym x))

      past : (n : ℕ) (k : Key) → n ≤ w.frontier → value log' n k ≡ value w.log n k
      past n k le = value_put w.log i t h.empty n k (λ e. let a = h.ahead in omega arith)

      settles : (k : Key) → g.settled k ≤ g'.settled k
      settles = changed_key_all (λ k n. g.settled k ≤ n) g.settled t.key (suc i) (let l = h.later in omega arith) (λ k ne. omega arith)

      -- nothing that is settled up to s changes
      settled_value : (s : ℕ) (k : Key) → s ≤ g.settled k → value log' s k ≡ value w.log s k
      settled_value s k le = value_put w.log i t h.empty s k (λ e. let l = subst (λ k. g.settled k ≤ i) e h.later in omega arith)

      stays_so : (s : ℕ) (j : Request) (r : Reply) → StaysFacts z w.log g.settled s j r → StaysFacts z w'.log g'.settled s j r
      stays_so s j r st = record {
        key = st.key;
        routed = st.routed;
        settled = (let a = settles st.key in let b = st.settled in omega arith);
        judged = ap (λ v. judge z s v j) (settled_value s st.key st.settled) ∙ st.judged;
      }

      awaits : (d s j : ℕ) (r : Reply) → AwaitFacts z w.log g.parked g.fate g.settled d s j r → AwaitFacts z w'.log g'.parked g'.fate g'.settled d s j r
      awaits d s j r (is_aside y m ey st) = is_aside y m (saves j y Aside ey (λ e. cc)) (stays_so s y r st)
      awaits d s j r (is_queued l u e1 e2 e3 e4) = is_queued l u e1 (changed-other w.log i (Some t) l (λ x. let all : Some u ≡ None = sym e2 ∙ ap w.log x ∙ h.empty in cc) ∙ e2) e3 e4

      not_mine : (d : ℕ) (k : Key) → d ≢ c → w.holder (shard z k) ≡ Some d → t.key ≢ k
      not_mine d k ne e x = ne (some_same (sym e ∙ ap (λ k. w.holder (shard z k)) (sym x) ∙ h.held.holds))

      framed : (d : ℕ) → d ≢ c → Frame z w g w' g' d
      framed d ne = record {
        live = λ p y e. saves p y (Live d) e (λ k. let e : d ≡ c = cc in ne e);
        holds = λ s e. free_holds z w g iv a sh c t.key h.held.holds d s ne e;
        taken = λ l lt e. e;
        drawn = omega arith;
        front = omega arith;
        still_empty = λ l lt e n a. (changed-other w.log i (Some t) l (λ x. ne (sym e ∙ ap g.taker x ∙ h.taken)) ∙ n, a);
        settled = λ k e. changed_key-other g.settled t.key (suc i) k (λ x. not_mine d k ne e (sym x));
        newest = λ k e. value_put w.log i t h.empty w.drawn k (λ x. absurd (not_mine d k ne e x));
        below = λ n k e. value_put w.log i t h.empty n k (λ x. absurd (not_mine d k ne e x));
        past = past;
        states = λ n le. state_put w.log i (Some t) n (let a = h.ahead in omega arith);
        tells = λ p r h. h;
        waits = λ s j r lt a. record { passed = λ le. absurd (omega arith); awaits = λ _. awaits d s j r a };
      }

      written : (l : ℕ) (u : Writing) → log' l ≡ Some u → Compared l i → WritingFacts z w' g' l u
      written l u e (same x b) =
          let all : Some t ≡ Some u = sym (ap log' x ∙ changed-same w.log i (Some t)) ∙ e in
          let eu : t ≡ u = cc in
          subst (λ (v : Writing). WritingFacts z w' g' l v) eu (subst (λ (n : ℕ). WritingFacts z w' g' n t) (sym x) (record {
            request = h.request;
            routed = h.held.routed;
            settled = (let e : g'.settled t.key ≡ suc i = changed_key-same g.settled t.key (suc i) in omega arith);
            judged = ap (λ v. judge z i v h.request) (value_put w.log i t h.empty i t.key (λ _. omega arith)) ∙ h.judged;
            queued = λ le. changed-same g.fate t.place (Known h.request (Queued i));
          }))
      written l u e (other ne b) =
          let o = iv.writings l u (sym (changed-other w.log i (Some t) l ne) ∙ e) in
          record {
            request = o.request;
            routed = o.routed;
            settled = (let a = settles u.key in let b = o.settled in omega arith);
            judged = ap (λ v. judge z l v o.request) (settled_value l u.key (let b = o.settled in omega arith)) ∙ o.judged;
            queued = λ le. saves u.place o.request (Queued l) (o.queued le) (λ e. cc);
          }

  pub publish_goes : (ph : Phase) → w.phase c ≡ ph → PhaseFacts z w g c ph → Opens w.trace c ph → Moves z w c ph a (later (published z w c ph))
  publish_goes (Drawn x) at h op = record {
    after = Waiting (suc x.index) x.writing.place (accepted_reply x.writing.change (suc x.index));
    entered = changed-same w.phase c _;
    holds = fill_goes x (Waiting (suc x.index) x.writing.place (accepted_reply x.writing.change (suc x.index))) h op (λ w' g' ef er. record {
      passed = λ le. let a = h.ahead in absurd (omega arith);
      awaits = λ lt. is_queued x.index x.writing refl er refl refl;
    });
  }
  publish_goes (Gone (Some x)) at h op = record { after = Gone None; entered = changed-same w.phase c (Gone None); holds = fill_goes x (Gone None) h tt (λ w' g' ef er. tt) }
  publish_goes ph at h op = idle_goes z w g iv a sh c ph at
