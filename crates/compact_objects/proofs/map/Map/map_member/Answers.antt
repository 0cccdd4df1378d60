use Rattle.std.proofs.Common.{[], ◌∷◌}
use Rattle.compact_objects.proofs.LabelTexts.{map_found}
use Rattle.compact_objects.proofs.Texts.{begins}
use Rattle.compact_objects.proofs.map.Map.map_member.Goals as goal

pub returns : goal.returns
returns c ms is told =
    let m = map_found _ c.in_ok-text.text.now _ (c.in_ok-text.ensures ms is) (begins c.in_ok-text.text.now (123 ∷ []) _ c.in_ok-_members.ensures.cases.0 c.in_ok-_members.ensures.cases.1) in
    (m.0, m.1, (m.2, told m.0 m.1))
