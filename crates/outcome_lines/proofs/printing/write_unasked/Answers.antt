use Rattle.std.proofs.Common.{refl}
use Rattle.std.proofs.lemmas.Result.{on_ok_weaker}
use Rattle.plain.proofs.Written.{five}
use Rattle.outcome_lines.proofs.printing.write_unasked.Goals as goal

pub returns-clause-tokens : goal.returns-clause-tokens
returns-clause-tokens c =
    on_ok_weaker c.end_object.result (λ last.
    five c.args.out.now.tokens _ _ _ _ _ _ _ _ _ _ _
    c.in_ok-begin_object.ensures.ok c.in_ok-key.ensures.ok c.in_ok-boolean.ensures.ok c.in_ok-write_integer_member.ensures.tokens last refl)
    c.end_object.ensures.ok
