use Rattle.std.proofs.Common.{[], ◌++◌, ◌∷◌, ap, sym, ◌∙◌}
use Rattle.std.proofs.lemmas.Result.{on_ok_weaker}
use Rattle.compact_objects.proofs.Maps.{behind}
use Rattle.compact_objects.proofs.Merging.{other_is}
use Rattle.compact_objects.proofs.PlainTexts.{extended}
use Rattle.compact_objects.proofs.merge.write_other.Goals as goal

pub returns : goal.returns
returns c value is =
    let old = c.args.out.now.items in
    on_ok_weaker c.extend_from_slice.result (λ last.
    behind old (44 ∷ []) c.push.new.self.items c.args.member.now _ c.in_ok-push.ensures.items last
    ∙ ap (λ t. old ++ t) (is ∙ other_is c.args.part c.args.key.now value (sym c.if-is_set.ensures)))
    (extended c.extend_from_slice.result _ _ _ c.extend_from_slice.ensures.items)
