use Rattle.std.proofs.lemmas.Result.{on_ok_weaker}
use Rattle.plain.proofs.Written.{five}
use Rattle.scripts.proofs.ClusterLines.{call_tokens}
use Rattle.scripts.proofs.cluster_printing.write_call_at.Goals as goal

pub returns-clause-tokens : goal.returns-clause-tokens
returns-clause-tokens c =
    on_ok_weaker c.end_object.result (λ last.
    five c.args.out.now.tokens _ _ _ _ _ _ _ _ _ _ _
    c.in_ok-begin_object.ensures.ok c.in_ok-write_caller.ensures.tokens c.in_ok-key.ensures.ok c.in_ok-write_request.ensures.tokens last (call_tokens c.args.place c.args.caller c.args.controller c.args.request.now)) c.end_object.ensures.ok
