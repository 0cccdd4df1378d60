use Rattle.std.proofs.Common.{[], ◌∷◌, ◌++◌}
use Rattle.serde_json.specs.Written.{compact_text}
use Rattle.compact_objects.proofs.Cursors.{text_before}
use Rattle.compact_objects.proofs.Texts.{begins}
use Rattle.compact_objects.proofs.text.text_member_rest.Goals as goal

pub returns-clause-rest : goal.returns-clause-rest
returns-clause-rest c k d rest is other =
    text_before c.in_ok-behind.behind.now c.in_ok-value.value.now c.in_ok-rest.rest.now rest _ d other (c.in_ok-behind.ensures.rest k (58 ∷ (compact_text d ++ rest)) is)
    (begins _ (58 ∷ []) _ c.in_ok-value.ensures.cases.0 c.in_ok-value.ensures.cases.1) c.in_ok-rest.ensures.quote.1 c.in_ok-rest.ensures.rest
