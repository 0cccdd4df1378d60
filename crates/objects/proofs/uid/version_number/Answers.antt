use Rattle.std.proofs.Common.{◌∙◌}
use Rattle.objects.proofs.Numerals.{version_by}
use Rattle.objects.proofs.uid.version_number.Goals as goal

pub returns : goal.returns
returns c = c.unwrap_or.ensures ∙ version_by c.args.text.now c.parse.result (rw (← c.as_bytes-bytes.ensures.value) c.if-bytes-le48.false) c.parse.ensures.value.0
