use Rattle.std.proofs.Common.{◌<◌, ◌^◌, arith}
use Rattle.compact.proofs.Passing.{number_is, negative_is}
use Rattle.compact.proofs.scalars.number_rest.Goals as goal

pub returns-then-value-clause-number : goal.returns-then-value-clause-number
returns-then-value-clause-number c =
    negative_is c.args.text.now _ _ _ _ c.in_ok-first.ensures.cases.0 c.if-first-eq45.true c.in_ok-value.ensures.digits (let some : 0 < c.in_ok-value.value = omega (arith, c.if-value-gt0.true) in some)
    (let fits : c.in_ok-value.value < 2 ^ 63 = omega (arith, c.if-value.true) in fits)

pub returns-clause-number : goal.returns-clause-number
returns-clause-number c = number_is _ _ _ c.in_ok-_value.ensures.digits
