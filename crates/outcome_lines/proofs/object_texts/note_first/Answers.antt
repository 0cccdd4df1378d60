use Rattle.std.proofs.Common.{◌∙◌, ap}
use Rattle.std.specs.Prelude.{bytes_eq}
use Rattle.std.proofs.lemmas.Result.{on_ok_weaker}
use Rattle.objects.specs.ShardOf.{key_text}
use Rattle.outcome_lines.specs.ObjectWords.{lower, number_in, uid_if}
use Rattle.outcome_lines.proofs.object_texts.note_first.Goals as goal

pub returns : goal.returns
returns c =
    on_ok_weaker c.lower.result
    (λ notes t. notes t
    ∙ ap (λ n. lower (number_in c.args.firsts.now.entries t) (uid_if (bytes_eq n t) c.uid_of-uid.result)) (c.as_slice.ensures.value ∙ c.in_ok-name.ensures)
    ∙ ap (λ uid. lower (number_in c.args.firsts.now.entries t) (uid_if (bytes_eq (key_text c.args.object.now.key) t) uid)) c.uid_of-uid.ensures) c.lower.ensures
