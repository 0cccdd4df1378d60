use Rattle.std.proofs.lemmas.Result.{err_from_is_err_and}
use Rattle.plain.proofs.Readings.{no_map, verb_refused, verb_read}
use Rattle.plain.proofs.lines.request_line.request_in.Goals as goal

pub returns-in_default : goal.returns-in_default
returns-in_default c = no_map c.args.value c.in_default.not-Map

pub returns-in_err-verb : goal.returns-in_err-verb
returns-in_err-verb c =
    let p = err_from_is_err_and c.from_residual.result c.from_residual.ensures.1 in
    verb_refused c.args.value c.in-Map.members _ p.0 _ c.in-Map.is c.in_err-verb.ensures p.1 p.2

pub returns : goal.returns
returns c = verb_read c.args.value c.in-Map.members c.in_ok-verb.verb _ c.in-Map.is c.in_ok-verb.ensures c.request_by.ensures
