use Rattle.compact_objects.proofs.LabelTexts.{labels_found}
use Rattle.compact_objects.proofs.meta.labels_fit.Goals as goal

pub returns-in-Some : goal.returns-in-Some
returns-in-Some c ms is holds = labels_found ms _ _ (c.in-Some.ensures ms is) c.are_labels.ensures holds
