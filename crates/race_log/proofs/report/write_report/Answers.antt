use Rattle.std.proofs.Common.{refl}
use Rattle.std.proofs.lemmas.Result.{on_ok_weaker}
use Rattle.plain.proofs.Written.{five}
use Rattle.race_log.proofs.report.write_report.Goals as goal

pub returns-clause-tokens : goal.returns-clause-tokens
returns-clause-tokens c =
    on_ok_weaker c.end_object.result (λ last.
    five c.args.out.now.tokens _ _ _ _ _ _ _ _ _ _ _
    c.in_ok-write_first.ensures.tokens c.in_ok-write_integer_member.ensures.tokens c.in_ok-write_integer_member-2.ensures.tokens
    c.in_ok-write_integer_member-3.ensures.tokens last refl) c.end_object.ensures.ok
