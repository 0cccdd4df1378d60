use Rattle.std.proofs.Common.{rules, tests}
use Rattle.std.proofs.lemmas.Map.Made.{filter_same_pairs}
use Rattle.pod_steps.proofs.listing.retain_owned.Goals as goal

pub returns : goal.returns
returns c = filter_same_pairs _ (λ e. e.1.owned) _ (λ k v b w g t. search (rules, tests)) c.args.pods.now.entries _ c.retain.ensures.filtered
