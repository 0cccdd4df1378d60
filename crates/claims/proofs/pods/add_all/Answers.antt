use Rattle.std.proofs.Common.{◌<◌, length, arith}
use Rattle.claims.specs.Pods.{claims_in, under}
use Rattle.claims.proofs.PodClaims.{all_more}
use Rattle.claims.proofs.pods.add_all.Goals as goal

pub loop-claim-preserved : goal.loop-claim-preserved
loop-claim-preserved c = λ digits.
    let inside : c.loop-claim.claim-index < length c.args.claims.now = omega arith in
    all_more digits c.args.claims.now c.loop-claim.claim-index c.claim-item.result (claims_in (under c.args.pods.now digits)) (under c.loop-claim.pods digits) (under c.add.new.groups digits)
    inside c.claim-item.is (c.in_ok-add.ensures digits) (c.loop-claim.invariant digits)
