use Rattle.std.specs.Option.{option_copied}
use Rattle.std.proofs.lemmas.Result.{on_ok_weaker}
use Rattle.plain.proofs.Written.{six}
use Rattle.scripts.proofs.Tokens.{all_deletion_tokens}
use Rattle.scripts.proofs.request_line.write_deletion.Goals as goal

pub returns-clause-tokens : goal.returns-clause-tokens
returns-clause-tokens c =
    on_ok_weaker c.end_object.result (λ last.
    six c.args.out.now.tokens _ _ _ _ _ _ _ _ _ _ _ _ _
    c.in_ok-begin_object.ensures.ok c.in_ok-write_optional.ensures.tokens c.in_ok-write_text_member.ensures.tokens c.in_ok-write_key.ensures.tokens c.in_ok-write_preconditions.ensures.tokens last
    (all_deletion_tokens c.args.key.now (option_copied c.args.uid) (option_copied c.args.version) (option_copied c.args.at))) c.end_object.ensures.ok
