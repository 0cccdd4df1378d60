use Rattle.std.proofs.Common.{refl}
use Rattle.std.proofs.lemmas.Result.{on_ok_weaker}
use Rattle.plain.proofs.Written.{two}
use Rattle.scripts.proofs.request_line.write_version.Goals as goal

pub returns-clause-tokens : goal.returns-clause-tokens
returns-clause-tokens c =
    on_ok_weaker c.quoted_u64.result (λ last. two c.args.out.now.tokens _ _ _ _ _ c.in_ok-key.ensures.ok last refl) c.quoted_u64.ensures.ok
