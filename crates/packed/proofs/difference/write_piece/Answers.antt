use Rattle.std.proofs.Common.{◌∷◌, [], ◌++◌, ◌∙◌, ap, refl}
use Rattle.packed.proofs.Written.{pushed_adds}
use Rattle.packed.proofs.difference.write_piece.Goals as goal

pub returns : goal.returns
returns c = pushed_adds _ _ _ _ _ _ _ _ _ (c.push_reserved.ensures.items ∙ ap (λ l. l ++ c.args.skipped ∷ []) c.reserve.ensures.items) c.push_reserved-2.ensures.items c.push_reserved-3.ensures.items c.in_ok-extend_from_slice.ensures.items refl
