use Rattle.std.proofs.Common.{sym, ap, ◌∙◌, arith}
use lib.Count.{count_trailing_zeros}
use Rattle.compact.proofs.Lanes.{run_bound, run_on, run_ends}
use Rattle.compact.proofs.texts.plain_end.Goals as goal

pub returns-then-found-ne0-clause-value : goal.returns-then-found-ne0-clause-value
returns-then-found-ne0-clause-value c =
    let found = c.stops-found.ensures in
    let run = run_ends c.args.text.now c.vectors.at (omega arith) (omega (arith, found)) ∙ ap (count_trailing_zeros 64) (sym found) in
    omega (arith, run, c.vectors.invariant.0)

pub returns-then-found-ne0-clause-within : goal.returns-then-found-ne0-clause-within
returns-then-found-ne0-clause-within c =
    let found = c.stops-found.ensures in
    let run = run_ends c.args.text.now c.vectors.at (omega arith) (omega (arith, found)) ∙ ap (count_trailing_zeros 64) (sym found) in
    omega (arith, run, run_bound c.args.text.now c.vectors.at c.vectors.invariant.1)

pub vectors-preserved : goal.vectors-preserved
vectors-preserved c =
    let run = run_on c.args.text.now c.vectors.at (omega arith) (omega (arith, c.stops-found.ensures)) in
    (omega (arith, run, c.vectors.invariant.0), omega arith)

pub returns-clause-within : goal.returns-clause-within
returns-clause-within c = omega (arith, run_bound c.args.text.now c.vectors.at c.vectors.invariant.1)
