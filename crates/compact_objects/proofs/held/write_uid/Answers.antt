use Rattle.std.proofs.Common.{◌++◌, ap, ◌∙◌}
use Rattle.std.proofs.lemmas.Result.{on_ok_weaker}
use Rattle.compact_objects.proofs.PlainTexts.{extended, uid_member}
use Rattle.compact_objects.proofs.held.write_uid.Goals as goal

pub returns : goal.returns
returns c =
    on_ok_weaker c.extend_from_slice.result (λ last. last ∙ ap (λ t. c.args.out.now.items ++ t) (c.as_slice.ensures ∙ c.uid_member.ensures
    ∙ uid_member c.args.number c.if-number-eq0.false)) (extended c.extend_from_slice.result _ _ _ c.extend_from_slice.ensures.items)
