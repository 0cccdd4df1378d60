use Rattle.std.proofs.Common.{rules}
use Rattle.line.proofs.Allowed.{may_name}
use Rattle.line.proofs.line.Line.load_to_name.Goals as goal

pub load-requires : goal.load-requires
load-requires g c = (search rules, search rules, may_name g.K.Judging.home g.K.Judging.by g.K.Judging.accepts _ _ _ _ c.requires.caller)
