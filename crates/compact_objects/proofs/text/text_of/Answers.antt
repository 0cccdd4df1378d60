use Rattle.std.proofs.Common.{sym, ap, ◌∙◌}
use Rattle.serde_json.specs.Data.{string}
use Rattle.compact_objects.proofs.Texts.{text_said}
use Rattle.compact_objects.proofs.text.text_of.Goals as goal

pub returns : goal.returns
returns c v is = text_said v c.in_ok-inside.inside.now (sym is ∙ c.in_ok-inside.ensures) (sym c.contains.ensures.value ∙ c.if-contains.false) ∙ ap string (sym c.in_ok-text.ensures.value)
