use Rattle.std.proofs.Common.{map}
use Rattle.set_views.specs.Pod.{pod_parts}
use Rattle.set_views.specs.Set.{set_parts}
use Rattle.sets.proofs.Plans.{refused_by}
use Rattle.sets.proofs.planner.refusal.Goals as goal

pub returns-in_default-clause-refused : goal.returns-in_default-clause-refused
returns-in_default-clause-refused c = refused_by (set_parts c.args.set.now) (map pod_parts c.args.views.now) _ c.in_default.not-NoRevisionName
