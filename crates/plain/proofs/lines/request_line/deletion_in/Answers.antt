use Rattle.std.proofs.lemmas.Result.{err_from_is_err_and}
use Rattle.plain.proofs.Readings.{deletion_key_refused, deletion_uid_refused, deletion_version_refused, deletion_time_refused, deletion_read}
use Rattle.plain.proofs.lines.request_line.deletion_in.Goals as goal

pub returns-in_err-key : goal.returns-in_err-key
returns-in_err-key c =
    let p = err_from_is_err_and c.from_residual.result c.from_residual.ensures.1 in
    deletion_key_refused c.args.members.now _ p.0 _ p.1 p.2 c.in_err-key.ensures

pub returns-in_err-uid : goal.returns-in_err-uid
returns-in_err-uid c =
    let p = err_from_is_err_and c.from_residual-in_err-uid.result c.from_residual-in_err-uid.ensures.1 in
    deletion_uid_refused c.args.members.now _ _ p.0 _ c.in_ok-key.ensures p.1 p.2 c.in_err-uid.ensures

pub returns-in_err-version : goal.returns-in_err-version
returns-in_err-version c =
    let p = err_from_is_err_and c.from_residual-in_err-version.result c.from_residual-in_err-version.ensures.1 in
    deletion_version_refused c.args.members.now _ _ _ p.0 _ c.in_ok-key.ensures c.in_ok-uid.ensures p.1 p.2 c.in_err-version.ensures

pub returns-in_err-at : goal.returns-in_err-at
returns-in_err-at c =
    let p = err_from_is_err_and c.from_residual-in_err-at.result c.from_residual-in_err-at.ensures.1 in
    deletion_time_refused c.args.members.now _ _ _ _ p.0 _ c.in_ok-key.ensures c.in_ok-uid.ensures c.in_ok-version.ensures p.1 p.2 c.in_err-at.ensures

pub returns : goal.returns
returns c = deletion_read c.args.members.now _ _ _ _ c.in_ok-key.ensures c.in_ok-uid.ensures c.in_ok-version.ensures c.in_ok-at.ensures
