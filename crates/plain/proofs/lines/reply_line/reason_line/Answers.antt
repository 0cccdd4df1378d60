use Rattle.std.proofs.lemmas.Result.{on_ok_weaker}
use Rattle.plain.proofs.Written.{two, reason_text}
use Rattle.plain.proofs.lines.reply_line.reason_line.Goals as goal

pub returns : goal.returns
returns c =
    on_ok_weaker c.put_last.result (λ last.
    two c.args.out.now.items _ _ _ _ _ c.in_ok-put_code.ensures last (reason_text c.args.code c.args.reason.now c.requires)) c.put_last.ensures
