use Rattle.std.proofs.Common.{string_bytes}
use Rattle.std.proofs.lemmas.Result.{on_ok_weaker}
use Rattle.pictures.proofs.Pieces.{asker_put}
use Rattle.pictures.proofs.telling.put_asker.Goals as goal

pub returns : goal.returns
returns g c =
    on_ok_weaker c.write-2.result (λ last.
    asker_put (string_bytes c.args.out.now) _ _ _ (g.R.Roles.role c.args.roles.now c.args.caller) c.args.place c.args.caller c.in_ok-write.ensures.bytes c.in_ok-put_role.ensures last) c.write-2.ensures.bytes
