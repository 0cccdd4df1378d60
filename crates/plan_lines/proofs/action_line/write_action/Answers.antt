use Rattle.std.proofs.Common.{◌++◌, sym, ap, ◌∙◌}
use Rattle.std.proofs.lemmas.Result.{on_ok_weaker}
use Rattle.json.specs.Tree.{json_tokens}
use Rattle.serde_json.specs.Written.{outline}
use Rattle.plan_lines.specs.Actions.{action_data}
use Rattle.plan_lines.proofs.action_line.write_action.Goals as goal

pub returns-in-CreateClaim-clause-tokens : goal.returns-in-CreateClaim-clause-tokens
returns-in-CreateClaim-clause-tokens c =
    on_ok_weaker c.write_object_action.result (λ h.
    h ∙ ap (λ a. c.args.out.now.tokens ++ json_tokens (outline (action_data a))) (sym c.in-CreateClaim.is)) c.write_object_action.ensures.tokens

pub returns-in-UpdateClaim-clause-tokens : goal.returns-in-UpdateClaim-clause-tokens
returns-in-UpdateClaim-clause-tokens c =
    on_ok_weaker c.write_object_action-in-UpdateClaim.result (λ h.
    h ∙ ap (λ a. c.args.out.now.tokens ++ json_tokens (outline (action_data a))) (sym c.in-UpdateClaim.is)) c.write_object_action-in-UpdateClaim.ensures.tokens

pub returns-in-WriteRevision-clause-tokens : goal.returns-in-WriteRevision-clause-tokens
returns-in-WriteRevision-clause-tokens c =
    on_ok_weaker c.write_object_action-in-WriteRevision.result (λ h.
    h ∙ ap (λ a. c.args.out.now.tokens ++ json_tokens (outline (action_data a))) (sym c.in-WriteRevision.is)) c.write_object_action-in-WriteRevision.ensures.tokens

pub returns-in-WriteStatus-clause-tokens : goal.returns-in-WriteStatus-clause-tokens
returns-in-WriteStatus-clause-tokens c =
    on_ok_weaker c.write_object_action-in-WriteStatus.result (λ h.
    h ∙ ap (λ a. c.args.out.now.tokens ++ json_tokens (outline (action_data a))) (sym c.in-WriteStatus.is)) c.write_object_action-in-WriteStatus.ensures.tokens
