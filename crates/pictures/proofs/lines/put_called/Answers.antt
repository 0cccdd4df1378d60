use Rattle.std.proofs.Common.{string_bytes}
use Rattle.std.proofs.lemmas.Result.{on_ok_weaker}
use Rattle.pictures.specs.Labels.{request_words}
use Rattle.pictures.proofs.Pieces.{noted}
use Rattle.pictures.proofs.lines.put_called.Goals as goal

pub returns : goal.returns
returns c =
    on_ok_weaker c.write-2.result (λ last.
    noted (string_bytes c.args.out.now) _ _ _ (request_words c.args.request.now) c.args.caller c.args.place c.in_ok-write.ensures.bytes c.in_ok-put_request.ensures last) c.write-2.ensures.bytes
