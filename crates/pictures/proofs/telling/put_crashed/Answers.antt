use Rattle.std.proofs.Common.{codes, string_bytes}
use Rattle.std.proofs.lemmas.Result.{on_ok_weaker}
use Rattle.pictures.specs.Labels.{request_words}
use Rattle.pictures.specs.Story.{asker}
use Rattle.pictures.proofs.Pieces.{three}
use Rattle.pictures.proofs.telling.put_crashed.Goals as goal

pub returns : goal.returns
returns g c =
    on_ok_weaker c.write.result (λ last.
    three (string_bytes c.args.out.now) _ _ _ (asker (g.R.Roles.role c.args.roles.now) c.args.place c.args.caller) (request_words c.args.request.now) (codes ": crash\n")
    c.in_ok-put_asker.ensures c.in_ok-put_request.ensures last) c.write.ensures.bytes
