use Rattle.std.proofs.Common.{◌≡◌, arith, subst}
use Rattle.cluster_runs.specs.Cluster.{start}
use Rattle.cluster_runs.specs.UsedCallers.{AreCallers}
use Rattle.cluster_runs.proofs.Calling.{started}
use Rattle.cluster_runs.proofs.callers.UsedCallers.of.Goals as goal

pub returns-clause-callers : goal.returns-clause-callers
returns-clause-callers c =
    let kept = c.loop-number.invariant in
    let few = c.if-count-gt-MAX_CALLERS.false in
    let past = c.loop-number-test.false in
    let least = c.loop-number.auto.number-end in
    let all : c.loop-number.number ≡ c.args.count = omega (arith, past, least) in
    subst (λ n. AreCallers n (start n) c.loop-number.callers) all
    (started c.loop-number.number c.loop-number.callers kept.0 kept.1 kept.2 kept.3 kept.4 (omega (arith, all, few)))
