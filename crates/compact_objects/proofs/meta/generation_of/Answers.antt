use Rattle.compact_objects.proofs.Generations.{generation_found, some_weaker}
use Rattle.compact_objects.proofs.meta.generation_of.Goals as goal

pub returns-in-Some : goal.returns-in-Some
returns-in-Some c ms is canonical = some_weaker _ _ c.number_of.result (λ n p. generation_found ms _ n canonical (c.in-Some.ensures ms is) p.0 p.1) c.number_of.ensures
