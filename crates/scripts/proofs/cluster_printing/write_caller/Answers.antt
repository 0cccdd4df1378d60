use Rattle.std.proofs.Common.{refl}
use Rattle.std.proofs.lemmas.Result.{on_ok_weaker}
use Rattle.plain.proofs.Written.{three}
use Rattle.scripts.proofs.cluster_printing.write_caller.Goals as goal

pub returns-clause-tokens : goal.returns-clause-tokens
returns-clause-tokens c =
    on_ok_weaker c.write_controller.result (λ last.
    three c.args.out.now.tokens _ _ _ _ _ _ _ c.in_ok-write_integer_member.ensures.tokens c.in_ok-write_integer_member-2.ensures.tokens last refl) c.write_controller.ensures.tokens
