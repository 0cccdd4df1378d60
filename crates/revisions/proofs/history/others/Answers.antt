use Rattle.std.proofs.Common.{◌<◌, not, length, sym, ap, ◌∙◌, arith}
use Rattle.set_views.proofs.NameSets.{contains_is}
use Rattle.revisions.specs.Listing.{has_name}
use Rattle.revisions.proofs.Histories.{others_kept, others_passed}
use Rattle.revisions.proofs.history.others.Goals as goal
use Rattle.revisions.proofs.history.others.Goals.{then-not-contains+in_ok-push, else-not-contains}

pub loop-revision-preserved : goal.loop-revision-preserved
loop-revision-preserved c =
    let inside : c.loop-revision.revision-index < length c.args.owned.now = omega arith in
    let found = ap (λ s. has_name s c.args.names.now.keys) (sym c.revision-item.result.named) ∙ (sym (contains_is c.revision-item.result.name c.args.names.now.keys) ∙ sym c.contains.ensures) in
    elim c.if-not-contains.branch [
      | then-not-contains+in_ok-push w ↦ c.loop-revision.invariant ∙ others_kept (λ o. not (has_name o.key.name c.args.names.now.keys)) c.args.owned.now c.loop-revision.others.items c.if-not-contains.others.items c.loop-revision.revision-index c.revision-item.result inside c.revision-item.is
          (ap not (found ∙ w.if-not-contains.true)) (ap (λ v. v.items) w.others-is ∙ w.in_ok-push.ensures.items)
      | else-not-contains w ↦ c.loop-revision.invariant ∙ others_passed (λ o. not (has_name o.key.name c.args.names.now.keys)) c.args.owned.now c.loop-revision.others.items c.if-not-contains.others.items c.loop-revision.revision-index c.revision-item.result inside c.revision-item.is
          (ap not (found ∙ w.if-not-contains.false)) (ap (λ v. v.items) w.others-is)
    ]
