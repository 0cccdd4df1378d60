use Rattle.std.proofs.Common.{rules}
use Rattle.line.proofs.Allowed.{may_observe}
use Rattle.line.proofs.Logs.{some_of}
use Rattle.line.proofs.line.Line.load_to_observe.Goals as goal

pub load-requires : goal.load-requires
load-requires g c = let s = some_of _ c.requires.shard in (search rules, search rules, may_observe g.K.Judging.home g.K.Judging.by g.K.Judging.accepts _ _ _ _ g.F.Flooring.floor s.0 s.1 c.requires.line.2)
