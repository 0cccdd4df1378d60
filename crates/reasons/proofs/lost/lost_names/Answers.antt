use Rattle.std.proofs.Common.{◌++◌, ◌∙◌, sym, ap, refl}
use Rattle.set_views.specs.Set.{set_parts}
use Rattle.reasons.specs.Gone.{is_gone}
use Rattle.reasons.proofs.Losses.{names-next, put-next}
use Rattle.reasons.proofs.lost.lost_names.Goals as goal
use Rattle.reasons.proofs.lost.lost_names.Goals.{then-is_lost+in_ok-name_of+in_ok-push, else-is_lost}

pub loop-claim-preserved : goal.loop-claim-preserved
loop-claim-preserved c =
    let next =
    names-next (set_parts c.args.set.now) (is_gone c.args.gone) c.args.actions.now c.args.claims.now c.loop-claim.claim-index c.claim-item.result c.is_lost.result
    c.loop-claim-test.true c.claim-item.is c.is_lost.ensures in
    elim c.if-is_lost.branch [
      | then-is_lost+in_ok-name_of+in_ok-push w ↦ rw w.names-is (rw w.in_ok-push.ensures.items (
          put-next c.loop-claim.names.items _ _ _ _ c.loop-claim.invariant (next ∙ rw w.if-is_lost.true (rw w.in_ok-name_of.ensures refl))))
      | else-is_lost w ↦ rw w.names-is (sym (ap (λ t. c.loop-claim.names.items ++ t) (next ∙ rw w.if-is_lost.false refl)) ∙ c.loop-claim.invariant)
    ]
