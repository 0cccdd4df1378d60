use Rattle.std.proofs.Common.{rules, tests, ◌∙◌}
use Rattle.std.proofs.lemmas.Iterator.Search.{find_from_yields_List}
use Rattle.set_views.specs.Set.{set_parts}
use Rattle.pod_steps.proofs.Backward.{entries_back}
use Rattle.reasons.specs.Reasons.{is_outdated}
use Rattle.reasons.proofs.why.last_outdated.Goals as goal

pub returns : goal.returns
returns c =
    find_from_yields_List (is_outdated (set_parts c.args.set.now) c.args.partition) _ _ _ c.find.ensures.ran
    (entries_back c.args.pods.now.entries (c.rev.ensures.source ∙ c.iter.ensures.rest)) (λ x b q k. search (rules, tests))
