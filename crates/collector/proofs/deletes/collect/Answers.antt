use Rattle.std.proofs.Common.{◌++◌, ◌∙◌, sym, ap, refl, map}
use Rattle.collector.proofs.Collected.{collection-next, put-next}
use Rattle.collector.proofs.Gone.{is_collectable-same}
use Rattle.collector.proofs.deletes.collect.Goals as goal
use Rattle.collector.proofs.deletes.collect.Goals.{then-is_collectable+in_ok-deletion+in_ok-push, else-is_collectable}

pub loop-claim-preserved : goal.loop-claim-preserved
loop-claim-preserved c =
    let owners = map (λ list. list.now) c.args.owners.now in
    let is = c.is_collectable.ensures ∙ is_collectable-same _ _ _ c.in_ok-listed.ensures c.claim-item.result in
    let next = collection-next c.args.claims.now c.loop-claim.claim-index c.claim-item.result owners c.args.listed_at c.is_collectable.result c.loop-claim-test.true c.claim-item.is is in
    elim c.if-is_collectable.branch [
      | then-is_collectable+in_ok-deletion+in_ok-push w ↦ rw w.deletes-is (rw w.in_ok-push.ensures.items (
          put-next c.loop-claim.deletes.items _ _ _ _ c.loop-claim.invariant (next ∙ rw w.if-is_collectable.true (rw w.in_ok-deletion.ensures refl))))
      | else-is_collectable w ↦ rw w.deletes-is (sym (ap (λ t. c.loop-claim.deletes.items ++ t) (next ∙ rw w.if-is_collectable.false refl)) ∙ c.loop-claim.invariant)
    ]
