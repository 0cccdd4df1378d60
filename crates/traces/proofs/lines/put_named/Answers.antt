use Rattle.std.proofs.Common.{◌++◌, codes, decimal, string_bytes}
use Rattle.std.proofs.lemmas.Result.{on_ok_weaker}
use Rattle.pictures.proofs.Pieces.{two}
use Rattle.traces.proofs.lines.put_named.Goals as goal

pub returns : goal.returns
returns g c =
    on_ok_weaker c.write.result (λ last.
    two (string_bytes c.args.out.now) _ _ (g.R.Roles.role c.args.roles.now c.args.caller) (codes "caller " ++ (decimal c.args.caller ++ codes ": ")) c.in_ok-put_role.ensures last) c.write.ensures.bytes
