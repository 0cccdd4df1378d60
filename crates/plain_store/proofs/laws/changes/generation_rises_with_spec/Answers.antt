use Rattle.plain_store.proofs.Generations.{counted, made_first, never_falls}
use Rattle.plain_store.proofs.laws.changes.generation_rises_with_spec.Goals as goal

pub returns-clause-first : goal.returns-clause-first
returns-clause-first c = made_first

pub returns-clause-counted : goal.returns-clause-counted
returns-clause-counted c = counted

pub returns-clause-rises : goal.returns-clause-rises
returns-clause-rises c = never_falls
