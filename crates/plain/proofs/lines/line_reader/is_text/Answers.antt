use Rattle.plain.proofs.CompactWrites.{text_told}
use Rattle.plain.proofs.lines.line_reader.is_text.Goals as goal

pub returns : goal.returns
returns c good = text_told c.args.bytes.now _ _ c.from_utf8.result _ c.from_utf8.ensures c.is_ok.ensures.value good
