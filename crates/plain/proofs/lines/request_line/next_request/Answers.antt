use Rattle.std.proofs.lemmas.Result.{err_from_is_err_and}
use Rattle.plain.proofs.Readings.{line_read, line_refused}
use Rattle.plain.proofs.lines.request_line.next_request.Goals as goal

pub returns-in_err-value : goal.returns-in_err-value
returns-in_err-value c =
    let p = err_from_is_err_and c.from_residual.result c.from_residual.ensures.1 in
    line_refused c.args.line.now _ p.0 _ p.1 p.2 c.in_err-value.ensures

pub returns : goal.returns
returns c = line_read c.args.line.now _ _ c.in_ok-value.ensures c.request_in.ensures
