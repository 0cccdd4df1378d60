use Rattle.objects.proofs.SplicedTexts.{status_printable, status_written}
use Rattle.std.proofs.Common.{◌∙◌}
use Rattle.objects.proofs.splice.write_status.Goals as goal

pub returns-clause-bytes : goal.returns-clause-bytes
returns-clause-bytes c =
    status_written _ c.args.out.items _ _ _ _ _ _ _ c.in_ok-push.ensures.items (c.end_object.ensures.room.0 ∙ c.write_tree.ensures.before ∙ c.key.ensures.room.0 ∙ c.new-writer.ensures.before)
    c.new-writer.ensures.tokens c.in_ok-key.ensures.ok c.in_ok-write_tree.ensures.tokens c.in_ok-end_object.ensures.ok c.into_inner.ensures.items

pub returns-clause-printable : goal.returns-clause-printable
returns-clause-printable c =
    status_printable _ _ _ _ _ c.new-writer.ensures.tokens c.in_ok-key.ensures.ok c.in_ok-write_tree.ensures.tokens c.in_ok-end_object.ensures.ok c.into_inner.ensures.reads_back
