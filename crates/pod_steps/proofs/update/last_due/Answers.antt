use Rattle.std.proofs.Common.{rules, tests, ap, sym, ◌∙◌}
use Rattle.std.proofs.lemmas.Iterator.Search.{find_from_yields_List}
use Rattle.std.proofs.lemmas.Iterator.Adapters.{option_map_id}
use Rattle.pod_steps.specs.Replicas.{is_due}
use Rattle.pod_steps.proofs.Backward.{range_back}
use Rattle.pod_steps.proofs.update.last_due.Goals as goal

pub returns : goal.returns
returns c = sym (option_map_id _) ∙ find_from_yields_List (is_due c.args.partition c.args.pods.now.entries) _ _ _ c.find.ensures.ran (range_back c.args.set.now.start c.args.set.now.replicas (ap (λ r. r.start) c.rev.ensures.source) (ap (λ r. r.end) c.rev.ensures.source ∙ c.end_of.ensures)) (λ x b q k. search (rules, tests))
