use Rattle.std.proofs.Common.{ℕ, List, Bor, ◌<◌, length, arith}
use Rattle.objects.specs.declared.object.Object.{Object}
use Rattle.set_views.specs.Set.{set_parts}
use Rattle.claims.specs.Changes.{update}
use Rattle.claims.proofs.ChangeLists.{change_more}
use Rattle.claims.proofs.change.all_updates.Goals as goal

pub loop-claim-preserved : goal.loop-claim-preserved
loop-claim-preserved c =
    let inside : c.loop-claim.claim-index < length c.args.claims.now = omega arith in
    change_more (λ (x : Bor (List ℕ) × Bor Object). update (set_parts c.args.set.now) c.args.pod.now c.args.owner.now x.1.now) c.args.claims.now c.loop-claim.claim-index c.claim-item.result
    c.in_ok-change.change c.loop-claim.changes.items c.push_some.new.changes.items inside c.claim-item.is c.loop-claim.invariant c.in_ok-push_some.ensures c.in_ok-change.ensures
