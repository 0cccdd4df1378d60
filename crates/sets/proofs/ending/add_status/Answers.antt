use Rattle.std.proofs.Common.{sym, ap, ◌∙◌}
use Rattle.set_views.specs.Set.{set_parts}
use Rattle.manifests.specs.BuiltStatus.{built_status}
use Rattle.sets.specs.FullPlan.{status_of, status_with}
use Rattle.sets.proofs.Plans.{no_write}
use Rattle.sets.proofs.ending.add_status.Goals as goal

pub returns-in-None : goal.returns-in-None
returns-in-None c =
    let set = set_parts c.args.set.now in
    let update = c.args.revisions.now.update in
    no_write set (status_of set c.args.pods.now.entries c.args.current.now update.object.now.key.name) c.args.actions.now.list.items c.args.actions.now.within
    (sym (ap (λ k. built_status set (status_with k c.args.current.now update.name.now)) c.counts_of-counts.ensures ∙ ap (λ n. built_status set (status_of set c.args.pods.now.entries c.args.current.now n)) update.named)
    ∙ (sym c.in_ok-changed.ensures ∙ c.in-None.is))
