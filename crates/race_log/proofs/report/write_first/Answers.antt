use Rattle.std.proofs.Common.{refl}
use Rattle.std.proofs.lemmas.Result.{on_ok_weaker}
use Rattle.plain.proofs.Written.{four}
use Rattle.race_log.proofs.report.write_first.Goals as goal

pub returns-clause-tokens : goal.returns-clause-tokens
returns-clause-tokens c =
    on_ok_weaker c.boolean.result (λ last.
    four c.args.out.now.tokens _ _ _ _ _ _ _ _ _
    c.in_ok-begin_object.ensures.ok c.in_ok-write_integer_member.ensures.tokens c.in_ok-key.ensures.ok last refl) c.boolean.ensures.ok
