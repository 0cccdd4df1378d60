use Rattle.plain.proofs.CompactGets.{get_named}
use Rattle.plain.proofs.lines.compact_line.compact_get.Goals as goal

pub returns-in-Ok : goal.returns-in-Ok
returns-in-Ok c = get_named _ _ _ c.args.line.now _ c.in-Ok.ensures.key c.in-Some.ensures.utf8.0 c.in-Some.ensures.utf8.1 c.in-Some.ensures.text
