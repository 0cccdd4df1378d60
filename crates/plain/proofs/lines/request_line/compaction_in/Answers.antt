use Rattle.std.proofs.lemmas.Result.{err_from_is_err_and}
use Rattle.plain.proofs.Readings.{compaction_read, compaction_refused}
use Rattle.plain.proofs.lines.request_line.compaction_in.Goals as goal

pub returns-in_err-to : goal.returns-in_err-to
returns-in_err-to c =
    let p = err_from_is_err_and c.from_residual.result c.from_residual.ensures.1 in
    compaction_refused c.args.members.now _ p.0 _ c.in_err-to.ensures p.1 p.2

pub returns : goal.returns
returns c = compaction_read c.args.members.now _ c.in_ok-to.ensures
