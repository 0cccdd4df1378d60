use Rattle.std.proofs.Common.{List, ◌++◌, sym, ap, ◌∙◌}
use Rattle.std.proofs.lemmas.List.{drop_all}
use Rattle.sets.specs.declared.action.Action.{Action}
use Rattle.plan_lines.specs.Formats.{actions_text}
use Rattle.plan_lines.proofs.Actions.{line-part, line-put, no-lines}
use Rattle.plan_lines.proofs.Put.{nothing-more, rest-part}
use Rattle.plan_lines.proofs.output.write_actions.Goals as goal

pub returns-in_err-lines-clause-part : goal.returns-in_err-lines-clause-part
returns-in_err-lines-clause-part g c =
    line-part c.args.format c.args.last.now _ _ _ _ c.loop-action.lines.items c.args.actions.now c.loop-action.action-index c.action-item.result c.loop-action-test.true c.action-item.is
    c.loop-action.invariant.put c.in_err-lines.ensures.part

pub loop-action-preserved : goal.loop-action-preserved
loop-action-preserved g c = record {
  put =
      line-put c.args.format c.args.last.now _ _ _ _ c.loop-action.lines.items _ c.args.actions.now c.loop-action.action-index c.action-item.result c.loop-action-test.true c.action-item.is
      c.loop-action.invariant.put c.in_ok-lines.ensures.put;
  writes = c.in_ok-lines.ensures.writes ∙ c.loop-action.invariant.writes;
  few = c.in_ok-lines.ensures.few;
}

pub returns-in_err-extend_from_slice-clause-part : goal.returns-in_err-extend_from_slice-clause-part
returns-in_err-extend_from_slice-clause-part g c = nothing-more _ _ _ _ c.loop-action.invariant.put

pub returns-clause-part : goal.returns-clause-part
returns-clause-part g c =
    rest-part _ _ _ _ _ _ c.loop-action.invariant.put
    (ap (λ t. c.loop-action.lines.items ++ t)
    (ap (λ (l : List Action). actions_text c.args.format l ++ c.args.last.now) (drop_all c.loop-action.action-index c.args.actions.now c.loop-action-test.false)
    ∙ no-lines c.args.format c.args.last.now)
    ∙ sym (c.as_slice.ensures.value ∙ c.in_ok-extend_from_slice.ensures.items))
    c.write_all.ensures.part
