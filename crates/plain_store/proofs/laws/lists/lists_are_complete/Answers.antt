use Rattle.plain_store.proofs.KeptUids.{filed_when_reached}
use Rattle.plain_store.proofs.CompleteLists.{listed, listed_there, once}
use Rattle.plain_store.proofs.laws.lists.lists_are_complete.Goals as goal

pub returns-clause-all : goal.returns-clause-all
returns-clause-all c = λ s. listed s.objects

pub returns-clause-only : goal.returns-clause-only
returns-clause-only c = λ s kind namespace o is. listed_there s.objects kind namespace o (filed_when_reached s is)

pub returns-clause-once : goal.returns-clause-once
returns-clause-once c = λ s kind namespace is. once s.objects kind namespace (filed_when_reached s is)
