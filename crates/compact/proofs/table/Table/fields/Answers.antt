use Rattle.std.proofs.Common.{[], ◌∷◌, refl, sym, ◌∙◌}
use Rattle.compact.proofs.Split.{all_left}
use Rattle.compact.proofs.table.Table.fields.Goals as goal

pub returns : goal.returns
returns c ms is are = (all_left ms _ (c.rest_from.ensures (123 ∷ []) _ is refl), (are.0 ∙ sym c.as_slice.ensures, are.1))
