use Rattle.std.proofs.Common.{◌≡◌, ◌+◌, ℕ, sym, subst, arith}
use Rattle.cluster_runs.specs.Cluster.{run, start}
use Rattle.resting.specs.RoundsOver.{AreRoundsOver}
use Rattle.settling.specs.Settling.{IsBetweenRounds, MayRound, after_settle, settled_store}
use Rattle.settling.proofs.Begun.{between, now_begun}
use Rattle.settling.proofs.Rounds.{all_go}
use Rattle.settling.proofs.laws.settling_is_rounds_over_a_plain_store.Goals as goal

pub returns : goal.returns
returns c = λ z reconcilers events set digits n rounds moment sized is_of timed is may.
    let k = run z 1 reconcilers (start 1) events in
    let At = after_settle z reconcilers n set.object.key.namespace k in
    let In = settled_store z reconcilers n set.object.key.namespace k in
    let shift : (i : ℕ) → i ≡ 0 + i = λ i. omega arith in
    let P : ℕ → Type 0 = λ j. IsBetweenRounds z n (At j) × AreRoundsOver set digits rounds (In 0) (In j) in
    let Q : ℕ → Type 0 = λ j. MayRound set digits moment (In j) in
    let all = all_go set digits moment timed z reconcilers sized.0.0 sized.0.1 sized.1 n is_of k rounds 0 (now_begun set digits moment timed z reconcilers sized.0.0 sized.0.1 sized.1 n is_of events is) (λ i low. subst Q (shift i) (may i low)) in
    subst P (sym (shift rounds)) (between set digits moment timed z reconcilers sized.0.0 sized.0.1 sized.1 n is_of (At (0 + rounds)) (In (0 + rounds)) all.0, all.1)
