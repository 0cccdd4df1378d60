use Rattle.std.proofs.Common.{◌++◌, sym, ap, ◌∙◌}
use Rattle.std.proofs.lemmas.Result.{on_ok_weaker}
use Rattle.scripts.specs.RaceHistory.{role_tokens}
use Rattle.scripts.proofs.race_item.write_role.Goals as goal

pub returns-in-Controller-clause-tokens : goal.returns-in-Controller-clause-tokens
returns-in-Controller-clause-tokens c =
    on_ok_weaker c.write_integer_member.result (λ h.
    h ∙ ap (λ role. c.args.out.now.tokens ++ role_tokens role c.args.caller) (sym c.in-Controller.is)) c.write_integer_member.ensures.tokens
