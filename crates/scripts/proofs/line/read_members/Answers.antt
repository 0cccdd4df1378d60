use Rattle.std.proofs.lemmas.Result.{err_from_is_err_and}
use Rattle.std.proofs.Common.{Some, ap, ◌∙◌}
use Rattle.serde_json.specs.Find.{as_object}
use Rattle.objects.specs.Tree.{data_of}
use Rattle.scripts.specs.Events.{◌>>=◌, line_members, value_of}
use Rattle.scripts.proofs.Readings.{fails_bind, no_map, refused}
use Rattle.scripts.proofs.line.read_members.Goals as goal

pub returns-in_err-members : goal.returns-in_err-members
returns-in_err-members c =
    let p = err_from_is_err_and c.from_residual.result c.from_residual.ensures.1 in
    refused (λ ms. ms) _ p.0 _ (line_members c.args.line.now) p.1 p.2 (fails_bind _ (value_of c.args.line.now) as_object c.in_err-members.ensures)

pub returns-in_default : goal.returns-in_default
returns-in_default c = ap (λ o. o >>= as_object) c.in_ok-members.ensures ∙ no_map c.in_ok-members.field-0 c.in_default.not-Map

pub returns : goal.returns
returns c = ap (λ o. o >>= as_object) (c.in_ok-members.ensures ∙ ap (λ t. Some (data_of t)) c.in-Map.is)
