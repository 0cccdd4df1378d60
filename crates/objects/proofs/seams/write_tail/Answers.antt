use Rattle.std.proofs.Common.{◌∙◌}
use Rattle.objects.proofs.SeamTexts.{tail_printable, tail_utf8, tail_written}
use Rattle.objects.proofs.seams.write_tail.Goals as goal

pub returns-clause-bytes : goal.returns-clause-bytes
returns-clause-bytes c =
    tail_written c.args.tail.now c.args.bytes.items c.in_ok-begun.begun.items _ _ _ _ c.in_ok-begun.ensures (c.write_entries.ensures.before ∙ c.new-writer.ensures.before)
    c.in_ok-write_entries.ensures.tokens c.new-writer.ensures.tokens c.into_inner.ensures.items

pub returns-clause-utf8 : goal.returns-clause-utf8
returns-clause-utf8 c = tail_utf8 c.args.tail.now _ _ c.in_ok-write_entries.ensures.tokens c.new-writer.ensures.tokens c.into_inner.ensures.utf8

pub returns-clause-printable : goal.returns-clause-printable
returns-clause-printable c = tail_printable c.args.tail.now _ _ c.in_ok-write_entries.ensures.tokens c.new-writer.ensures.tokens c.into_inner.ensures.reads_back
