use Rattle.std.proofs.Common.{Bool, IsTrue}
use Rattle.std.proofs.lemmas.Result.{IfOk-weaker}
use Rattle.interleavings.specs.Linearization.{IsHistory, IsLegal}
use Rattle.order_check.proofs.check.explains.Goals as goal

pub returns-in-Ok-true-clause-complete : goal.returns-in-Ok-true-clause-complete
returns-in-Ok-true-clause-complete c = λ capacity begun.
    let items = c.args.items.now in
    let order = c.args.order.now in
    let complete : (yes : Bool) → (IsLegal capacity items order → IsTrue yes) → IsHistory items → IsLegal capacity items order → IsTrue yes = λ yes says history legal. says legal in
    IfOk-weaker _ _ _ complete (c.follows.ensures.complete capacity begun)
