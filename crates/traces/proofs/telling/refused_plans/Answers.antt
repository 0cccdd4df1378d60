use Rattle.cluster_runs.specs.Ran.{owner_in}
use Rattle.traces.specs.Standing.{phases_in}
use Rattle.traces.proofs.Told.{told_more}
use Rattle.traces.proofs.telling.refused_plans.Goals as goal

pub loop-item-preserved : goal.loop-item-preserved
loop-item-preserved c = record {
  told = told_more (owner_in c.args.owners.now) c.args.sets.now c.args.items.now c.loop-item.item-index c.item-item.result (phases_in c.loop-item.standing) _ _ _ _ c.loop-item-test.true
      c.item-item.is c.in_ok-put_item.ensures.told c.in_ok-put_item.ensures.phases c.loop-item.invariant.told;
  made = c.in_ok-put_item.ensures.made;
}
