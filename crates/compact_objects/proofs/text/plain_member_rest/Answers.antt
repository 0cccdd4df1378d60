use Rattle.std.proofs.Common.{[], ◌∷◌, ◌++◌}
use Rattle.serde_json.specs.Written.{compact_text}
use Rattle.compact_objects.proofs.Cursors.{colon_passed}
use Rattle.compact_objects.proofs.Texts.{begins}
use Rattle.compact_objects.proofs.text.plain_member_rest.Goals as goal

pub returns-clause-rest : goal.returns-clause-rest
returns-clause-rest c k d rest is ends =
    c.in_ok-rest.ensures.rest d rest (colon_passed _ _ (compact_text d ++ rest) (c.in_ok-behind.ensures.rest k (58 ∷ (compact_text d ++ rest)) is) (begins _ (58 ∷ []) _ c.in_ok-value.ensures.cases.0 c.in_ok-value.ensures.cases.1)) ends
