use Rattle.std.proofs.Common.{rules}
use Rattle.line.proofs.Allowed.{may_split_shard}
use Rattle.line.proofs.Logs.{some_of}
use Rattle.line.proofs.line.next_shard_seat.Goals as goal

pub split_seat-requires : goal.split_seat-requires
split_seat-requires g c = let s = some_of _ c.requires.left.2 in (search rules, search rules, may_split_shard g.K.Judging.home g.K.Judging.by g.K.Judging.accepts _ _ _ s.0 s.1 c.requires.left.0 c.requires.left.1)
