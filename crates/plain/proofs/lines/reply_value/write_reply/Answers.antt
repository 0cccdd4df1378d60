use Rattle.std.proofs.Common.{◌++◌, sym, ap, ◌∙◌}
use Rattle.std.proofs.lemmas.Result.{on_ok_weaker}
use Rattle.json.specs.Tree.{json_tokens}
use Rattle.serde_json.specs.Written.{outline}
use Rattle.plain.specs.Replies.{reply_data}
use Rattle.plain.proofs.lines.reply_value.write_reply.Goals as goal

pub returns-in-Created-clause-tokens : goal.returns-in-Created-clause-tokens
returns-in-Created-clause-tokens c =
    on_ok_weaker c.write_changed.result (λ h.
    h ∙ ap (λ r. c.args.out.now.tokens ++ json_tokens (outline (reply_data r))) (sym c.in-Created.is)) c.write_changed.ensures.tokens

pub returns-in-Updated-clause-tokens : goal.returns-in-Updated-clause-tokens
returns-in-Updated-clause-tokens c =
    on_ok_weaker c.write_changed-in-Updated.result (λ h.
    h ∙ ap (λ r. c.args.out.now.tokens ++ json_tokens (outline (reply_data r))) (sym c.in-Updated.is)) c.write_changed-in-Updated.ensures.tokens
