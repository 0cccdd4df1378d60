use Rattle.std.proofs.Common.{◌++◌, sym, ap, ◌∙◌}
use Rattle.std.proofs.lemmas.Result.{on_ok_weaker}
use Rattle.json.specs.Tree.{json_tokens}
use Rattle.serde_json.specs.Written.{outline}
use Rattle.scripts.specs.RequestLine.{request_data}
use Rattle.scripts.proofs.request_line.write_request.Goals as goal

pub returns-in-Create-clause-tokens : goal.returns-in-Create-clause-tokens
returns-in-Create-clause-tokens c =
    on_ok_weaker c.write_draft.result (λ h.
    h ∙ ap (λ r. c.args.out.now.tokens ++ json_tokens (outline (request_data r))) (sym c.in-Create.is)) c.write_draft.ensures.tokens

pub returns-in-Update-clause-tokens : goal.returns-in-Update-clause-tokens
returns-in-Update-clause-tokens c =
    on_ok_weaker c.write_draft-in-Update.result (λ h.
    h ∙ ap (λ r. c.args.out.now.tokens ++ json_tokens (outline (request_data r))) (sym c.in-Update.is)) c.write_draft-in-Update.ensures.tokens

pub returns-in-UpdateStatus-clause-tokens : goal.returns-in-UpdateStatus-clause-tokens
returns-in-UpdateStatus-clause-tokens c =
    on_ok_weaker c.write_draft-in-UpdateStatus.result (λ h.
    h ∙ ap (λ r. c.args.out.now.tokens ++ json_tokens (outline (request_data r))) (sym c.in-UpdateStatus.is)) c.write_draft-in-UpdateStatus.ensures.tokens
