-- Any request that is open while the store is quiet gets its reply.
use Rattle.std.proofs.Common.{◌≡◌, ◌<◌, ◌≤◌, [], ℕ, suc, true, length, Some, refl, sym, ◌∙◌, arith}
use Rattle.std.proofs.lemmas.Option.{none-some}
use Rattle.requests.specs.declared.reply.Reply.{Reply}
use Rattle.requests.specs.declared.request.Request.{Request}
use Rattle.plain_store.specs.Route.{route}
use Rattle.plain_store.specs.Store.{Store, step}
use Rattle.interleavings.specs.Log.{state_at}
use Rattle.interleavings.specs.Step.{only}
use Rattle.interleavings.specs.World.{Phase, Idle, Called, Holding, Drawn, Waiting, Reading, Gone, Size, World, opening, shard}
use Rattle.interleavings.specs.Order.{arrangement, beginning}
use Rattle.interleavings.proofs.Arranged.{Holds}
use Rattle.interleavings.proofs.Basics.{Least, above, atmost, least}
use Rattle.interleavings.proofs.Invariant.{AwaitFacts, Ghost, Invariant, PhaseFacts, is_aside, is_queued}
use Rattle.interleavings.proofs.Runs.{begins, run_goes}
use Rattle.rounds.specs.Reconciler.{Reconciler}
use Rattle.cluster_runs.specs.Cluster.{Cluster, is_used}
use Rattle.cluster_runs.specs.Turns.{carried, carried_in}
use Rattle.quiet_runs.specs.Quiet.{Answers, IsQuiet, is_open, steps_of_a_request, world_of}
use Rattle.quiet_runs.proofs.Answered.{by_route, reads_on, waits}
use Rattle.quiet_runs.proofs.Ends.{Ends, OnWay, now_of, within}
use Rattle.quiet_runs.proofs.Short.{IsShort, reads_are_short}

-- the number that a caller waits for was drawn
awaits_drawn : (z : Size) (w : World) (g : Ghost) (c saw p : ℕ) (r : Reply) → Invariant z w g → AwaitFacts z w.log g.parked g.fate g.settled c saw p r → saw ≤ w.drawn
awaits_drawn z w g c saw p r iv (is_aside q parked known stays) =
    let low = stays.settled in let high = iv.bound stays.key in omega (arith, low, high)
awaits_drawn z w g c saw p r iv (is_queued i t is filled place reply) = go (least w.drawn i)
  where
    go : Least w.drawn i → saw ≤ w.drawn
    go (atmost le b) = absurd (none-some t (sym (iv.above i le) ∙ filled))
    go (above lt b) = omega (arith, is, lt)

module _ (z : Size) (count : ℕ) (reconcilers : ℕ → Reconciler) (k : Cluster) (n : ℕ) (quiet : IsQuiet (world_of z k)) (there : is_used k n ≡ true) (some : 0 < z.shards) (few : z.shards ≤ 64) where
  abbrev w : World
  w = world_of z k

  abbrev Comes : Store × Reply → ℕ → Type 0
  Comes end fuel = Ends z count reconcilers n k there (steps_of_a_request z) end (carried_in fuel n) k

  -- with whatever reply
  abbrev ComesSomehow : ℕ → Type 0
  ComesSomehow fuel = (end : Store × Reply) × Comes end fuel

  here : OnWay z count reconcilers n k there k w
  here = record { world = refl; alike = refl; others = λ m ne. refl; traced = refl }

  held : (s c : ℕ) → w.holder s ≡ Some c → ⊥
  held s c is = none-some c (sym (quiet.free s) ∙ is)

  comes : (g : Ghost) → Invariant z w g → (fuel : ℕ) → steps_of_a_request z ≤ fuel → (ph : Phase) → w.phase n ≡ ph → PhaseFacts z w g n ph → IsShort z.shards ph → is_open ph ≡ true
      → ComesSomehow (suc (suc (suc (suc (suc fuel)))))
  comes g iv fuel enough Idle at facts short asks = absurd cc
  comes g iv fuel enough (Called p r) at facts short asks = (step (now_of z w) r, by_route z count reconcilers n k there some fuel enough k w p r here quiet at (route r) refl)
  comes g iv fuel enough (Holding t) at facts short asks = absurd (held (shard z t.key) n facts.held.holds)
  comes g iv fuel enough (Drawn d) at facts short asks = absurd (held (shard z d.writing.key) n facts.held.holds)
  comes g iv fuel enough (Waiting saw p r) at facts short asks = (
    (now_of z w, r),
    within z count reconcilers n k there 1 (steps_of_a_request z) (now_of z w, r) (carried_in (suc (suc (suc (suc (suc fuel))))) n) k (omega arith)
        (waits z count reconcilers n k there some (suc (suc (suc (suc fuel)))) k w saw p r here quiet at (go (least saw w.frontier))),
  )
    where
      go : Least saw w.frontier → saw ≤ w.frontier
      go (atmost le b) = le
      go (above lt b) = let low = awaits_drawn z w g n saw p r iv (facts.awaits lt) in let all = quiet.passed in omega (arith, low, all)
  comes g iv fuel enough (Reading number p q parts found) at facts short asks =
      let end : Store × Reply = (now_of z w, (step (only z number (state_at w.log number)) q).1) in (
        end,
        within z count reconcilers n k there (suc (length parts)) (steps_of_a_request z) end (carried_in (suc (suc (suc (suc (suc fuel))))) n) k (omega (arith, short))
            (reads_on z count reconcilers n k there some parts (suc (suc (suc (suc (suc fuel))))) k w number p q found here quiet at (omega (arith, short, enough))),
      )
  comes g iv fuel enough (Gone left) at facts short asks = absurd cc

  abbrev pub Carried : Store × Reply → Type 0
  Carried end = Ends z count reconcilers n k there (steps_of_a_request z) end (carried n) k

  -- an end with any reply is one of a quiet store
  pub any_end : (end : Store × Reply) → Carried end → Answers (carried n) [] n (steps_of_a_request z) z count reconcilers k
  any_end end o = record { reply = end.1; at = o.at; told = o.told; shown = o.shown; idle = o.idle; others = o.others; callers = o.callers; quiet = o.quiet; few = o.few }

  pub quiet_answers : is_open (w.phase n) ≡ true → Answers (carried n) [] n (steps_of_a_request z) z count reconcilers k
  unfolding carried
  quiet_answers asks =
      let h : Holds z w (arrangement z opening beginning k.events) = run_goes z some k.events opening beginning (begins z) in
      let o = comes h.0 h.1.0 2097147 (omega (arith, few)) (w.phase n) refl (h.1.0.phases n) (reads_are_short z k.events n) asks in
      any_end o.0 o.1

  -- a request that was only called gets what the plain store replies
  pub called_ends : (p : ℕ) (r : Request) → w.phase n ≡ Called p r → Carried (step (now_of z w) r)
  unfolding carried
  called_ends p r at = by_route z count reconcilers n k there some 2097147 (omega (arith, few)) k w p r here quiet at (route r) refl
