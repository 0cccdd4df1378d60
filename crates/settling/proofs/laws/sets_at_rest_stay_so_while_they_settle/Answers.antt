use Rattle.std.proofs.Common.{◌≡◌, ◌+◌, ℕ, subst, arith}
use Rattle.cluster_runs.specs.Cluster.{run, start}
use Rattle.settling.specs.Settling.{settled_store}
use Rattle.settling.proofs.Begun.{now_begun}
use Rattle.settling.proofs.Rest.{stays}
use Rattle.settling.proofs.laws.sets_at_rest_stay_so_while_they_settle.Goals as goal

pub returns : goal.returns
returns c = λ z reconcilers events set digits n rounds moment sized is_of timed is rests tended.
    let k = run z 1 reconcilers (start 1) events in
    let In = settled_store z reconcilers n set.object.key.namespace k in
    let same : 0 + rounds ≡ rounds = omega arith in
    let P : ℕ → Type 0 = λ j. In j ≡ In 0 in
    subst P same (stays set digits moment timed z reconcilers sized.0.0 sized.0.1 sized.1 n is_of (In 0) rests tended k rounds 0 (now_begun set digits moment timed z reconcilers sized.0.0 sized.0.1 sized.1 n is_of events is)).store
