use Rattle.std.proofs.Common.{◌∙◌}
use Rattle.claims.proofs.change.make_claims.Goals as goal

pub all_creates_and_updates-requires-clause-named : goal.all_creates_and_updates-requires-clause-named
all_creates_and_updates-requires-clause-named c = c.as_str-2.ensures.value ∙ c.in_ok-pod.ensures
