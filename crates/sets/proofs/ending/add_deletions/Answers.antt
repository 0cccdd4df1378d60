use Rattle.std.proofs.Common.{◌<◌, ◌∷◌, [], ◌++◌, length, take, ap, ◌∙◌, arith}
use Rattle.revisions.specs.declared.view.RevisionView.{RevisionView}
use Rattle.sets.specs.FullPlan.{deletion}
use Rattle.sets.proofs.Truncation.{adds_none, map_more}
use Rattle.sets.proofs.ending.add_deletions.Goals as goal

pub loop-revision-init : goal.loop-revision-init
loop-revision-init c = adds_none c.args.actions.now.list.items c.args.actions.now.within

pub loop-revision-preserved : goal.loop-revision-preserved
loop-revision-preserved c =
    let inside : c.loop-revision.revision-index < length c.args.gone.now = omega arith in
    map_more deletion (λ (r : RevisionView). r.object.now) c.args.gone.now c.loop-revision.revision-index c.revision-item.result c.args.actions.now.list.items c.loop-revision.actions.list.items c.add.new.self.list.items inside c.revision-item.is c.loop-revision.invariant
    (c.in_ok-add.ensures ∙ ap (λ a. take 1024 (c.loop-revision.actions.list.items ++ a ∷ [])) c.in_ok-deletion.ensures)
