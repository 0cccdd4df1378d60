use Rattle.packed.proofs.Pieces.{pieces_some, pieces_short}
use Rattle.packed.proofs.piece.next_piece.Goals as goal

pub returns-in_err-head-clause-none : goal.returns-in_err-head-clause-none
returns-in_err-head-clause-none c = λ _. pieces_short c.args.base.now c.args.delta.now c.in_err-head.ensures.cases

pub returns-clause-some : goal.returns-clause-some
returns-clause-some c =
    let k = c.in_ok-head.ensures.cases in
    let e = pieces_some c.args.base.now c.args.delta.now c.in_ok-head.head.now c.in_ok-head.after.now k.0 k.1 k.2 in
    cc
