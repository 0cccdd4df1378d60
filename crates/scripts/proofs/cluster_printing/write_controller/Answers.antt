use Rattle.std.proofs.Common.{◌++◌, ◌∙◌, ap, sym}
use Rattle.std.proofs.lemmas.Result.{on_ok_weaker}
use Rattle.scripts.specs.ClusterPrinting.{controller_tokens}
use Rattle.scripts.proofs.cluster_printing.write_controller.Goals as goal

pub returns-in-Some-clause-tokens : goal.returns-in-Some-clause-tokens
returns-in-Some-clause-tokens c =
    on_ok_weaker c.write_integer_member.result (λ written.
    written ∙ ap (λ o. c.args.out.now.tokens ++ controller_tokens o) (sym c.in-Some.is)) c.write_integer_member.ensures.tokens
