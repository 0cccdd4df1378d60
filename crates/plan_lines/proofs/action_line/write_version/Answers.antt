use Rattle.std.proofs.Common.{List, ℕ, ◌++◌, ◌∷◌, [], codes, ap, ◌∙◌}
use Rattle.std.proofs.lemmas.Result.{on_ok_weaker}
use Rattle.json.specs.Token.{key, string}
use Rattle.plan_lines.proofs.action_line.write_version.Goals as goal

pub returns-clause-tokens : goal.returns-clause-tokens
returns-clause-tokens c =
    on_ok_weaker c.write_text_member.result (λ h.
    h ∙ ap (λ (t : List ℕ). c.args.out.now.tokens ++ key (codes "resourceVersion") ∷ string t ∷ []) c.version_or_empty.ensures) c.write_text_member.ensures.tokens
