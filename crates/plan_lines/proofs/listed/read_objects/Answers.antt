use Rattle.std.proofs.lemmas.Result.{err_from_is_err_and}
use Rattle.plain.specs.Lines.{lines}
use Rattle.plan_lines.specs.Objects.{lists_of, nothing, read_from}
use Rattle.plan_lines.proofs.Listings.{before-end, before-next, before-none, before-refused, refused}
use Rattle.plan_lines.proofs.listed.read_objects.Goals as goal

pub lines-init : goal.lines-init
lines-init c = before-none _ c.args.text.now c.new-listed.ensures

pub returns-in_err-draft : goal.returns-in_err-draft
returns-in_err-draft c =
    let p = err_from_is_err_and c.from_residual.result c.from_residual.ensures.1 in
    refused lists_of _ p.0 _ (read_from nothing (lines c.args.text.now)) p.1 p.2
    (before-refused (lists_of c.lines.listed) c.args.text.now c.lines.rest.now c.in-Some.split.0.now c.in-Some.split.1.now _ c.lines.invariant c.in-Some.ensures.first c.in_err-draft.ensures)

pub lines-preserved : goal.lines-preserved
lines-preserved c =
    before-next (lists_of c.lines.listed) _ c.args.text.now c.lines.rest.now c.in-Some.split.0.now c.in-Some.split.1.now _ c.lines.invariant c.in-Some.ensures.first
    c.in_ok-draft.ensures c.in_ok-add.ensures

pub returns : goal.returns
returns c = before-end (lists_of c.lines.listed) c.args.text.now c.lines.rest.now c.lines.invariant c.in_default.ensures.none
