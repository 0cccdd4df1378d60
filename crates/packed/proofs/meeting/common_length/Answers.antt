use Rattle.std.proofs.Common.{ap, arith}
use lib.Count.{count_trailing_zeros}
use Rattle.packed.proofs.Alike.{alike_ends, alike_on}
use Rattle.packed.proofs.meeting.common_length.Goals as goal

pub returns-then-differ-ne0-clause-left : goal.returns-then-differ-ne0-clause-left
returns-then-differ-ne0-clause-left c =
    let found = c.differences-differ.ensures in
    let ends = alike_ends c.args.left.now c.args.right.now c.vectors.at (omega arith, omega arith) c.vectors.invariant.2 (omega (arith, found)) _ (ap (count_trailing_zeros 64) found) in
    omega (arith, ends.0)

pub returns-then-differ-ne0-clause-right : goal.returns-then-differ-ne0-clause-right
returns-then-differ-ne0-clause-right c =
    let found = c.differences-differ.ensures in
    let ends = alike_ends c.args.left.now c.args.right.now c.vectors.at (omega arith, omega arith) c.vectors.invariant.2 (omega (arith, found)) _ (ap (count_trailing_zeros 64) found) in
    omega (arith, ends.0)

pub returns-then-differ-ne0-clause-alike : goal.returns-then-differ-ne0-clause-alike
returns-then-differ-ne0-clause-alike c =
    let found = c.differences-differ.ensures in
    (alike_ends c.args.left.now c.args.right.now c.vectors.at (omega arith, omega arith) c.vectors.invariant.2 (omega (arith, found)) _ (ap (count_trailing_zeros 64) found)).1

pub vectors-preserved : goal.vectors-preserved
vectors-preserved c =
    let found = c.differences-differ.ensures in
    (omega arith, omega arith, alike_on c.args.left.now c.args.right.now c.vectors.at (omega arith, omega arith) c.vectors.invariant.2 (omega (arith, found)), omega arith, omega arith, omega arith)
