use Rattle.std.proofs.Common.{ap, ◌∙◌}
use Rattle.compact_objects.proofs.HeldTexts.{text_written}
use Rattle.compact_objects.proofs.held.write_text.Goals as goal

pub returns : goal.returns
returns c =
    text_written c.args.key.now c.args.text.now c.args.out.now.items _ _ _ _ _ _ c.in_ok-push.ensures.items (c.string.ensures.room.0 ∙ c.key.ensures.room.0 ∙ c.new-writer.ensures.before ∙ ap (λ v. v.items) c.replace.ensures.value) c.new-writer.ensures.tokens c.in_ok-key.ensures.ok c.in_ok-string.ensures.ok c.into_inner.ensures.items
