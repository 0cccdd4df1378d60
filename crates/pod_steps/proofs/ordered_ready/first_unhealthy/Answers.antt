use Rattle.std.proofs.Common.{rules, tests}
use Rattle.std.proofs.lemmas.Iterator.Consumers.{YieldsList-from_rest}
use Rattle.std.proofs.lemmas.Iterator.Search.{find_from_yields_List}
use Rattle.set_views.specs.Set.{set_parts}
use Rattle.pod_steps.specs.FullSteps.{is_other_unhealthy}
use Rattle.pod_steps.proofs.ordered_ready.first_unhealthy.Goals as goal

pub returns : goal.returns
returns c = find_from_yields_List (is_other_unhealthy (set_parts c.args.set.now) c.args.highest) _ _ _ c.find.ensures.ran (YieldsList-from_rest c.args.pods.now.entries c.iter.ensures.rest) (λ x b q k. search (rules, tests))
