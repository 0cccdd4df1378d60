use Rattle.resting.proofs.Collections.{collected_over}
use Rattle.resting.proofs.laws.collections_take_ownerless_claims.Goals as goal

pub returns : goal.returns
returns c = λ key digits moment s filed. collected_over key s filed digits moment
