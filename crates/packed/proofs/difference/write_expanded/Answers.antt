use Rattle.std.proofs.Common.{sym, ◌∙◌, ap, ◌++◌, rules, append-nil, refl}
use Rattle.packed.proofs.Pieces.{expanded_none, expanded_some}
use Rattle.packed.proofs.difference.write_expanded.Goals as goal

pub returns-then-is_empty : goal.returns-then-is_empty
returns-then-is_empty c = rw (expanded_none c.args.base.now c.args.delta.now _ c.is_empty.ensures c.if-is_empty.true) (search rules)

pub returns : goal.returns
returns c =
    rw (expanded_some c.args.base.now c.args.delta.now _ c.is_empty.ensures c.if-is_empty.false)
    (sym (ap (λ r. c.loop-piece.out.items ++ r) (c.in_default.ensures.none refl) ∙ append-nil c.loop-piece.out.items) ∙ c.loop-piece.invariant)
