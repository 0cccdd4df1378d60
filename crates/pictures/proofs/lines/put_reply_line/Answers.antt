use Rattle.std.proofs.Common.{string_bytes}
use Rattle.std.proofs.lemmas.Result.{on_ok_weaker}
use Rattle.pictures.specs.Labels.{reply_words}
use Rattle.pictures.proofs.Pieces.{from_frontier}
use Rattle.pictures.proofs.lines.put_reply_line.Goals as goal

pub returns : goal.returns
returns c =
    on_ok_weaker c.write-2.result (λ last.
    from_frontier (string_bytes c.args.out.now) _ _ _ (reply_words c.args.reply.now) c.args.caller c.args.place c.in_ok-write.ensures.bytes c.in_ok-put_reply.ensures last) c.write-2.ensures.bytes
