use Rattle.std.proofs.lemmas.Result.{on_ok_weaker}
use Rattle.plain.proofs.Written.{six}
use Rattle.scripts.proofs.Tokens.{all_list_tokens}
use Rattle.scripts.proofs.request_line.write_list.Goals as goal

pub returns-clause-tokens : goal.returns-clause-tokens
returns-clause-tokens c =
    on_ok_weaker c.end_object.result (λ last.
    six c.args.out.now.tokens _ _ _ _ _ _ _ _ _ _ _ _ _
    c.in_ok-begin_object.ensures.ok c.in_ok-write_text_member.ensures.tokens c.in_ok-write_kind.ensures.tokens c.in_ok-write_text_member-2.ensures.tokens c.in_ok-write_exact.ensures.tokens last
    (all_list_tokens c.args.kind c.args.namespace.now c.args.exact)) c.end_object.ensures.ok
