-- What one caller's event does not change of the others.
use Rattle.std.proofs.Common.{◌≡◌, ◌≢◌, ℕ, suc, ◌<◌, ◌≤◌, ◌⊎◌, List, Option, Some, None, refl, sym, ap, ◌∙◌, subst, inl, inr, arith}
use Rattle.std.specs.FinMap as map
use Rattle.objects.specs.declared.key.Key.{Key}
use Rattle.requests.specs.declared.request.Request.{Request}
use Rattle.requests.specs.declared.reply.Reply.{Reply}
use Rattle.requests.specs.Verdict.{verdict}
use Rattle.interleavings.specs.declared.trace.Item.{Item}
use Rattle.plain_store.specs.Store.{Objects, step}
use Rattle.interleavings.specs.Log.{Writing, state_at, value}
use Rattle.interleavings.specs.World.{Phase, Idle, Called, Holding, Drawn, Waiting, Reading, Gone, Size, World, changed, shard}
use Rattle.interleavings.specs.Order.{Parked}
use Rattle.interleavings.specs.Step.{later, only}
use Rattle.interleavings.specs.Linearization.{Has}
use Rattle.interleavings.proofs.Basics.{Least, atmost, above, least, changed_all}
use Rattle.interleavings.proofs.Plainly.{by_verdict, judge, plainly}
use Rattle.interleavings.proofs.Jobs.{Job, Tells, state_after}
use Rattle.interleavings.proofs.Orders.{later_on}
use Rattle.interleavings.proofs.Invariant.{Apart, Aside, AwaitFacts, is_aside, is_queued, DrawnFacts, Explains, Fate, Ghost, HeldFacts, Invariant, Known, Live, Opens, ParkedFacts, PhaseFacts, Queued, ReadingFacts, StaysFacts, Status, WaitingFacts, WritingFacts}

-- what caller d may rely on from one world to the next
pub record Frame (z : Size) (w : World) (g : Ghost) (w' : World) (g' : Ghost) (d : ℕ) : Type 0 where
  pub live : (p : ℕ) (q : Request) → g.fate p ≡ Known q (Live d) → g'.fate p ≡ Known q (Live d)
  pub holds : (s : ℕ) → w.holder s ≡ Some d → w'.holder s ≡ Some d
  pub taken : (i : ℕ) → i < w.drawn → g.taker i ≡ d → g'.taker i ≡ d
  pub drawn : w.drawn ≤ w'.drawn
  pub front : w.frontier ≤ w'.frontier
  pub still_empty : (i : ℕ) → i < w.drawn → g.taker i ≡ d → w.log i ≡ None → w.frontier ≤ i → (w'.log i ≡ None) × (w'.frontier ≤ i)
  pub settled : (k : Key) → w.holder (shard z k) ≡ Some d → g'.settled k ≡ g.settled k
  pub newest : (k : Key) → w.holder (shard z k) ≡ Some d → value w'.log w'.drawn k ≡ value w.log w.drawn k
  pub below : (n : ℕ) (k : Key) → w.holder (shard z k) ≡ Some d → value w'.log n k ≡ value w.log n k
  pub past : (n : ℕ) (k : Key) → n ≤ w.frontier → value w'.log n k ≡ value w.log n k
  pub states : (n : ℕ) → n ≤ w.frontier → state_at w'.log n ≡ state_at w.log n
  pub tells : (p : ℕ) (r : Reply) → Tells z g.jobs p r → Tells z g'.jobs p r
  pub waits : (s j : ℕ) (r : Reply) → w.frontier < s → AwaitFacts z w.log g.parked g.fate g.settled d s j r → WaitingFacts z w' g' d s j r

module _ (z : Size) (w : World) (g : Ghost) (w' : World) (g' : Ghost) (d : ℕ) (f : Frame z w g w' g' d) where
  frame_held : (t : Writing) (q : Request) → HeldFacts z w g d t q → HeldFacts z w' g' d t q
  frame_held t q h = record { live = f.live t.place q h.live; holds = f.holds (shard z t.key) h.holds; routed = h.routed }

  frame_drawn : (i : ℕ) (t : Writing) → DrawnFacts z w g d i t → DrawnFacts z w' g' d i t
  frame_drawn i t h =
      let o = f.still_empty i h.below h.taken h.empty h.ahead in
      record {
        request = h.request;
        held = frame_held t h.request h.held;
        ahead = o.1;
        below = (let a = f.drawn in let b = h.below in omega arith);
        empty = o.0;
        taken = f.taken i h.below h.taken;
        later = subst (λ n. n ≤ i) (sym (f.settled t.key h.held.holds)) h.later;
        judged = ap (λ v. judge z i v h.request) (f.below i t.key h.held.holds) ∙ h.judged;
      }

  frame_waiting : (s j : ℕ) (r : Reply) → WaitingFacts z w g d s j r → WaitingFacts z w' g' d s j r
  frame_waiting s j r h = go (least s w.frontier)
    where
      go : Least s w.frontier → WaitingFacts z w' g' d s j r
      go (atmost le e) = record { passed = λ _. f.tells j r (h.passed le); awaits = λ lt. let a = f.front in absurd (omega arith) }
      go (above lt e) = f.waits s j r lt (h.awaits lt)

  frame_reading : (n j : ℕ) (q : Request) (parts : List ℕ) (found : Objects) → ReadingFacts z w g n j q parts found → ReadingFacts z w' g' n j q parts found
  frame_reading n j q parts found h = record {
    past = (let a = f.front in let b = h.past in omega arith);
    tells = subst (λ (m : Objects). Tells z g'.jobs j (step (only z n m) q).1) (sym (f.states n h.past)) (f.tells j _ h.tells);
    no_write = h.no_write;
    seen = λ k want. go k (h.seen k want);
  }
    where
      go : (k : Key) → (Has (shard z k) parts × (map.get found k ≡ None)) ⊎ (map.get found k ≡ value w.log n k) → (Has (shard z k) parts × (map.get found k ≡ None)) ⊎ (map.get found k ≡ value w'.log n k)
      go k (inl m) = inl m
      go k (inr e) = inr (e ∙ sym (f.past n k h.past))

  pub frame : (ph : Phase) → PhaseFacts z w g d ph → PhaseFacts z w' g' d ph
  frame Idle h = tt
  frame (Called p q) h = f.live p q h
  frame (Holding t) h = record { request = h.request; held = frame_held t h.request h.held; judged = ap (λ v. by_verdict (verdict h.request v)) (f.newest t.key h.held.holds) ∙ h.judged }
  frame (Drawn x) h = frame_drawn x.index x.writing h
  frame (Waiting s j r) h = frame_waiting s j r h
  frame (Reading n j q parts found) h = frame_reading n j q parts found h
  frame (Gone None) h = tt
  frame (Gone (Some x)) h = frame_drawn x.index x.writing h

-- the world and the ghost after an event of caller c that allocates no number, adds no write and leaves the frontier
abbrev pub next_world : World → ℕ → (ℕ → Option ℕ) → (ℕ → Phase) → List Item → World
next_world w f h ph tr = record { log = w.log; drawn = w.drawn; frontier = w.frontier; floor = f; holder = h; phase = ph; trace = tr; now = suc w.now }

abbrev pub next_ghost : Ghost → (ℕ → Fate) → (Key → ℕ) → List Job → List Parked → Ghost
next_ghost g φ b js ps = record { fate = φ; taker = g.taker; settled = b; jobs = js; parked = ps }

-- each status but the caller's own stays
abbrev pub Saves : ℕ → (ℕ → Fate) → (ℕ → Fate) → Type 0
Saves c φ φ' = (p : ℕ) (q : Request) (st : Status) → φ p ≡ Known q st → st ≢ Live c → φ' p ≡ Known q st

pub record Quiet (z : Size) (w : World) (g : Ghost) (c f' : ℕ) (h' : ℕ → Option ℕ) (ph : Phase) (o' : List Job) (ps' : List Parked) (tr' : List Item) (φ' : ℕ → Fate) (b' : Key → ℕ) : Type 0 where
  pub good : Explains z tr' (suc w.now) o' φ'
  pub standing : f' ≤ w.frontier
  pub state : state_after z o' ≡ plainly z w.log f' w.frontier
  pub saves : Saves c g.fate φ'
  pub holds : (d s : ℕ) → d ≢ c → w.holder s ≡ Some d → h' s ≡ Some d
  pub settles : (k : Key) → g.settled k ≤ b' k
  pub settled_same : (k : Key) (d : ℕ) → d ≢ c → w.holder (shard z k) ≡ Some d → b' k ≡ g.settled k
  pub bound : (k : Key) → b' k ≤ w.drawn
  pub tells : (p : ℕ) (r : Reply) → Tells z g.jobs p r → Tells z o' p r
  pub keeps : (p : Parked) → Has p g.parked → p.caller ≢ c → Has p ps'
  pub asides : (p : Parked) → Has p ps' → Has p g.parked ⊎ ParkedFacts z (next_world w f' h' (changed w.phase c ph) tr') (next_ghost g φ' b' o' ps') p
  pub apart : Apart ps'
  pub calls : (d : ℕ) → d ≢ c → (ph : Phase) → Opens w.trace d ph → Opens tr' d ph
  pub call_mine : Opens tr' c ph
  pub mine : PhaseFacts z (next_world w f' h' (changed w.phase c ph) tr') (next_ghost g φ' b' o' ps') c ph

pub quiet : (z : Size) (w : World) (g : Ghost) (c f' : ℕ) (h' : ℕ → Option ℕ) (ph : Phase) (o' : List Job) (ps' : List Parked) (tr' : List Item) (φ' : ℕ → Fate) (b' : Key → ℕ) → Invariant z w g → Quiet z w g c f' h' ph o' ps' tr' φ' b' → Invariant z (next_world w f' h' (changed w.phase c ph) tr') (next_ghost g φ' b' o' ps')
quiet z w g c f' h' ph o' ps' tr' φ' b' iv q = record {
  within = iv.within;
  room = iv.room;
  above = iv.above;
  bound = q.bound;
  standing = q.standing;
  state = q.state;
  good = q.good;
  phases = changed_all (PhaseFacts z w' g') w.phase c ph q.mine (λ d ne. frame z w g w' g' d (framed d ne) (w.phase d) (iv.phases d));
  opens = changed_all (Opens tr') w.phase c ph q.call_mine (λ d ne. q.calls d ne (w.phase d) (iv.opens d));
  writings = λ i t e. written i t (iv.writings i t e);
  asides = λ p m. parked p (q.asides p m);
  apart = q.apart;
}
  where
    w' : World
    w' = next_world w f' h' (changed w.phase c ph) tr'

    g' : Ghost
    g' = next_ghost g φ' b' o' ps'

    stays : (s : ℕ) (j : Request) (r : Reply) → StaysFacts z w.log g.settled s j r → StaysFacts z w'.log g'.settled s j r
    stays s j r h = record { key = h.key; routed = h.routed; settled = (let a = q.settles h.key in let b = h.settled in omega arith); judged = h.judged }

    awaits : (d s j : ℕ) (r : Reply) → d ≢ c → AwaitFacts z w.log g.parked g.fate g.settled d s j r → AwaitFacts z w'.log g'.parked g'.fate g'.settled d s j r
    awaits d s j r ne (is_aside y m ey st) = is_aside y (q.keeps (record { number = s; caller = d; place = j }) m ne) (q.saves j y Aside ey (λ e. cc)) (stays s y r st)
    awaits d s j r ne (is_queued i t e1 e2 e3 e4) = is_queued i t e1 e2 e3 e4

    framed : (d : ℕ) → d ≢ c → Frame z w g w' g' d
    framed d ne = record {
      live = λ p y e. q.saves p y (Live d) e (λ k. let e : d ≡ c = cc in ne e);
      holds = λ s. q.holds d s ne;
      taken = λ i lt e. e;
      drawn = omega arith;
      front = omega arith;
      still_empty = λ i lt e n a. (n, a);
      settled = λ k. q.settled_same k d ne;
      newest = λ k h. refl;
      below = λ n k h. refl;
      past = λ n k h. refl;
      states = λ n h. refl;
      tells = q.tells;
      waits = λ s j r lt a. record { passed = λ le. absurd (omega arith); awaits = λ _. awaits d s j r ne a };
    }

    written : (i : ℕ) (t : Writing) → WritingFacts z w g i t → WritingFacts z w' g' i t
    written i t h = record {
      request = h.request;
      routed = h.routed;
      settled = (let a = q.settles t.key in let b = h.settled in omega arith);
      judged = h.judged;
      queued = λ le. q.saves t.place h.request (Queued i) (h.queued le) (λ e. cc);
    }

    parked : (p : Parked) → Has p g.parked ⊎ ParkedFacts z w' g' p → ParkedFacts z w' g' p
    parked p (inr h) = h
    parked p (inl m) = let h = iv.asides p m in record {
      ahead = h.ahead;
      request = h.request;
      aside = q.saves p.place h.request Aside h.aside (λ e. cc);
      reply = h.reply;
      stays = stays p.number h.request h.reply h.stays;
    }

-- an event that is not enabled
pub idle : (z : Size) (w : World) (g : Ghost) → Invariant z w g → Invariant z (later w) g
idle z w g iv = record {
  within = iv.within;
  room = iv.room;
  above = iv.above;
  bound = iv.bound;
  standing = iv.standing;
  state = iv.state;
  good = later_on z w.trace w.now g.jobs g.fate iv.good;
  phases = λ d. frame z w g w' g d (framed d) (w.phase d) (iv.phases d);
  opens = iv.opens;
  writings = λ i t e. let h = iv.writings i t e in record { request = h.request; routed = h.routed; settled = h.settled; judged = h.judged; queued = h.queued };
  asides = λ p m. let h = iv.asides p m in record { ahead = h.ahead; request = h.request; aside = h.aside; reply = h.reply; stays = stays p.number h.request h.reply h.stays };
  apart = iv.apart;
}
  where
    w' : World
    w' = later w

    stays : (s : ℕ) (j : Request) (r : Reply) → StaysFacts z w.log g.settled s j r → StaysFacts z w'.log g.settled s j r
    stays s j r h = h

    awaits : (d s j : ℕ) (r : Reply) → AwaitFacts z w.log g.parked g.fate g.settled d s j r → AwaitFacts z w'.log g.parked g.fate g.settled d s j r
    awaits d s j r h = h

    framed : (d : ℕ) → Frame z w g w' g d
    framed d = record {
      live = λ p y e. e;
      holds = λ s e. e;
      taken = λ i lt e. e;
      drawn = omega arith;
      front = omega arith;
      still_empty = λ i lt e n a. (n, a);
      settled = λ k h. refl;
      newest = λ k h. refl;
      below = λ n k h. refl;
      past = λ n k h. refl;
      states = λ n h. refl;
      tells = λ p r h. h;
      waits = λ s j r lt a. record { passed = λ le. absurd (omega arith); awaits = λ _. awaits d s j r a };
    }
