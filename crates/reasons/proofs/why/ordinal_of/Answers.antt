use Rattle.std.proofs.Common.{◌∙◌}
use Rattle.reasons.proofs.Grounds.{split_ordinal}
use Rattle.reasons.proofs.why.ordinal_of.Goals as goal

pub returns : goal.returns
returns c = c.ordinal_in.ensures ∙ split_ordinal c.args.name.now c.split_pod_name.result c.split_pod_name.ensures.some c.split_pod_name.ensures.none
