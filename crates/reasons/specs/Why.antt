-- What a `Why` depends on.
use Rattle.set_views.specs.Set.{set_parts}
use Rattle.reasons.specs.declared.why.Why.{Why}
use Rattle.reasons.specs.Reasons.{Grounds}

abbrev pub grounds : Why → Grounds
grounds why = record { set = set_parts why.set; update = why.update; pods = why.pods.entries }
