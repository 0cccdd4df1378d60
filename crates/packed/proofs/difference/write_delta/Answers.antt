use Rattle.std.proofs.Common.{◌∙◌, ap, sym}
use Rattle.packed.specs.Expanded.{expanded}
use Rattle.packed.proofs.Written.{some_there, whole_written}
use Rattle.packed.proofs.Pieces.{none_of_empty, expanded_nothing}
use Rattle.packed.proofs.difference.write_delta.Goals as goal

pub returns-then-is_empty-clause-encoded : goal.returns-then-is_empty-clause-encoded
returns-then-is_empty-clause-encoded c = λ h.
    ap (expanded c.args.base.now) c.requires ∙ expanded_nothing c.args.base.now ∙ none_of_empty _ _ c.is_empty-then-is_empty.ensures h ∙ sym (none_of_empty _ _ c.is_empty.ensures c.if-is_empty.true)

pub returns-then-end-text-clause-encoded : goal.returns-then-end-text-clause-encoded
returns-then-end-text-clause-encoded c = λ h. whole_written c.args.base.now c.args.text.now c.write_stretches.new.out.items _ (some_there _ _ c.is_empty.ensures c.if-is_empty.false) c.in_ok-end.ensures c.if-end-text.true
