use Rattle.compact_objects.proofs.KindTexts.{version_read}
use Rattle.compact_objects.proofs.draft.is_of_version.Goals as goal

pub returns-in-Some : goal.returns-in-Some
returns-in-Some c ms is said = version_read _ _ _ c.args.kind (c.in-Some.ensures ms is) (c.says.ensures said) c.api_version.ensures
