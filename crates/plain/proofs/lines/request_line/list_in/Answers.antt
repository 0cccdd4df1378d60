use Rattle.std.proofs.lemmas.Result.{err_from_is_err_and}
use Rattle.plain.proofs.Readings.{list_collection_refused, list_read, list_version_refused}
use Rattle.plain.proofs.lines.request_line.list_in.Goals as goal

pub returns-in_err-kind : goal.returns-in_err-kind
returns-in_err-kind c =
    let p = err_from_is_err_and c.from_residual.result c.from_residual.ensures.1 in
    list_collection_refused c.args.members.now _ p.0 _ p.1 p.2 c.in_err-kind.ensures

pub returns-in_err-exact : goal.returns-in_err-exact
returns-in_err-exact c =
    let p = err_from_is_err_and c.from_residual-in_err-exact.result c.from_residual-in_err-exact.ensures.1 in
    list_version_refused c.args.members.now (c.in_ok-kind.kind, c.in_ok-kind.namespace) _ p.0 _ c.in_ok-kind.ensures c.in_err-exact.ensures p.1 p.2

pub returns : goal.returns
returns c = list_read c.args.members.now (c.in_ok-kind.kind, c.in_ok-kind.namespace) _ c.in_ok-kind.ensures c.in_ok-exact.ensures
