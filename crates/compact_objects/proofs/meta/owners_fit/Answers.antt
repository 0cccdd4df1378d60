use Rattle.compact_objects.proofs.OwnerTexts.{owners_found}
use Rattle.compact_objects.proofs.meta.owners_fit.Goals as goal

pub returns-in-Some : goal.returns-in-Some
returns-in-Some c ms is holds = owners_found ms _ _ (c.in-Some.ensures ms is) c.are_owners.ensures holds
