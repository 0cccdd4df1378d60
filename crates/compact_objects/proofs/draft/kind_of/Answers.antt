use Rattle.compact_objects.proofs.KindTexts.{kind_read}
use Rattle.compact_objects.proofs.draft.kind_of.Goals as goal

pub returns : goal.returns
returns c ms is = kind_read ms _ _ _ (c.in_ok-value.ensures ms is) c.in_ok-name.ensures c.in_ok-kind.ensures
