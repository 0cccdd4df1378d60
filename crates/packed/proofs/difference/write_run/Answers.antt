use Rattle.std.proofs.Common.{arith}
use Rattle.packed.proofs.Written.{first_adds, nothing_adds}
use Rattle.packed.proofs.difference.write_run.Goals as goal

pub pieces-preserved : goal.pieces-preserved
pieces-preserved c = λ new later.
    c.pieces.invariant new (first_adds c.pieces.skips c.pieces.copies c.pieces.rest.now c.pieces.out.items c.write_piece.new.out.items new _ _ _ _ _
    c.first_lengths-skip.ensures c.split_at.ensures.front c.split_at.ensures.back c.in_ok-write_piece.ensures later)

pub returns : goal.returns
returns c = c.pieces.invariant c.pieces.out.items (nothing_adds c.pieces.skips c.pieces.copies c.pieces.rest.now c.pieces.out.items (omega arith) (omega arith) (grind arith))
