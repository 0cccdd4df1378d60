use Rattle.std.proofs.Common.{sym}
use Rattle.requests.proofs.Sameness.{objects-differ}
use Rattle.requests.proofs.same.same_objects.Goals as goal

pub returns-then-left-right : goal.returns-then-left-right
returns-then-left-right c = sym (objects-differ c.args.left.now c.args.right.now c.if-left-right.true)
