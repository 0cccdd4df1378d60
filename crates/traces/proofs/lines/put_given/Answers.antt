use Rattle.std.proofs.Common.{codes, string_bytes}
use Rattle.std.proofs.lemmas.Result.{on_ok_weaker}
use Rattle.pictures.specs.Labels.{reply_words}
use Rattle.pictures.proofs.Pieces.{two}
use Rattle.traces.proofs.lines.put_given.Goals as goal

pub returns : goal.returns
returns c =
    on_ok_weaker c.put_reply.result (λ last.
    two (string_bytes c.args.out.now) _ _ (codes "reply ") (reply_words c.args.reply.now) c.in_ok-push_str.ensures.bytes last) c.put_reply.ensures
