use Rattle.std.proofs.Common.{Bool, IsTrue, List, refl}
use Rattle.std.proofs.lemmas.Result.{IfOk-weaker}
use Rattle.std.specs.BTreeMap.{get}
use Rattle.std.specs.Ordering.{nat_cmp}
use Rattle.requests.specs.declared.request.Request.{Request}
use Rattle.order_check.specs.Following.{Follows, IsRest, Standing}
use Rattle.interleavings.specs.Linearization.{IsLegal}
use Rattle.order_check.proofs.Followed.{followed, rest_of}
use Rattle.order_check.proofs.check.follows.Goals as goal

pub returns-clause-legal : goal.returns-clause-legal
returns-clause-legal c = λ capacity begun.
    let items = c.args.items.now in
    let order = c.args.order.now in
    let start : Standing = record { calls = get nat_cmp c.args.pairs.calls; answers = get nat_cmp c.args.pairs.answers; store = c.args.store; latest = 0 } in
    let legal : (yes : Bool) → (IsTrue yes → Follows items start order) → IsTrue yes → IsLegal capacity items order = λ yes f is. followed items capacity start order begun c.requires (f is) in
    IfOk-weaker _ _ _ legal c.follow-answer.ensures.follows

pub returns-clause-complete : goal.returns-clause-complete
returns-clause-complete c = λ capacity begun.
    let items = c.args.items.now in
    let order = c.args.order.now in
    let start : Standing = record { calls = get nat_cmp c.args.pairs.calls; answers = get nat_cmp c.args.pairs.answers; store = c.args.store; latest = 0 } in
    let complete : (yes : Bool) → ((requests : List Request) → IsRest items start order requests → IsTrue yes) → IsLegal capacity items order → IsTrue yes = λ yes says legal. says legal.requests (rest_of items capacity start order begun refl c.requires legal) in
    IfOk-weaker _ _ _ complete c.follow-answer.ensures.complete
