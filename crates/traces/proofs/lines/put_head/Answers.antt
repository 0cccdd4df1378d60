use Rattle.std.proofs.Common.{string_bytes}
use Rattle.std.proofs.lemmas.Result.{on_ok_weaker}
use Rattle.traces.proofs.Pieces.{head_put}
use Rattle.traces.proofs.lines.put_head.Goals as goal

pub returns : goal.returns
returns g c =
    on_ok_weaker c.put_caller.result (λ last.
    head_put (g.R.Roles.role c.args.roles.now) c.args.place c.args.caller (string_bytes c.args.out.now) _ _ c.in_ok-write.ensures.bytes last) c.put_caller.ensures
