use Rattle.std.proofs.Common.{codes, string_bytes}
use Rattle.std.proofs.lemmas.Result.{on_ok_weaker}
use Rattle.pictures.specs.Labels.{reply_words, request_words}
use Rattle.pictures.specs.Story.{asker}
use Rattle.pictures.proofs.Pieces.{five}
use Rattle.pictures.proofs.telling.put_write.Goals as goal

pub returns : goal.returns
returns g c =
    on_ok_weaker c.write-2.result (λ last.
    five (string_bytes c.args.out.now) _ _ _ _ _ (asker (g.R.Roles.role c.args.roles.now) c.args.place c.args.caller) (request_words c.args.request.now) (codes ": ") (reply_words c.args.reply.now) (codes "\n")
    c.in_ok-put_asker.ensures c.in_ok-put_request.ensures c.in_ok-write.ensures.bytes c.in_ok-put_reply.ensures last) c.write-2.ensures.bytes
