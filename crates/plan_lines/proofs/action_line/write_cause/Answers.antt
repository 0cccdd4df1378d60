use Rattle.std.proofs.Common.{◌++◌, ◌∷◌, [], codes, sym, ap, ◌∙◌}
use Rattle.std.proofs.lemmas.Result.{on_ok_weaker}
use Rattle.json.specs.Token.{key, string}
use Rattle.plan_lines.specs.Actions.{cause_name}
use Rattle.plan_lines.proofs.action_line.write_cause.Goals as goal

pub returns-in-Terminating-clause-tokens : goal.returns-in-Terminating-clause-tokens
returns-in-Terminating-clause-tokens c =
    on_ok_weaker c.write_text_member.result (λ h.
    h ∙ ap (λ x. c.args.out.now.tokens ++ key (codes "cause") ∷ string (cause_name x) ∷ []) (sym c.in-Terminating.is)) c.write_text_member.ensures.tokens
