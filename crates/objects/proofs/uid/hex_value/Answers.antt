use Rattle.std.proofs.Common.{◌^◌, ◌≤◌, arith, lit<}
use Rattle.std.proofs.Math.Nat.{pow-le-pow_right}
use Rattle.objects.proofs.uid.hex_value.Goals as goal

pub overflow_mul-value : goal.overflow_mul-value
overflow_mul-value c =
    let bound : 16 ^ c.loop-digit.digit-index ≤ 16 ^ 11 = pow-le-pow_right (lit< tt) {i = c.loop-digit.digit-index} {j = 11} (omega arith) in omega arith

pub overflow_add-value : goal.overflow_add-value
overflow_add-value c =
    let bound : 16 ^ c.loop-digit.digit-index ≤ 16 ^ 11 = pow-le-pow_right (lit< tt) {i = c.loop-digit.digit-index} {j = 11} (omega arith) in omega (arith, c.digit_value.ensures.small, c.from.ensures)
