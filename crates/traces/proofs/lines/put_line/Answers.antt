use Rattle.std.proofs.Common.{string_bytes}
use Rattle.std.proofs.lemmas.Result.{on_ok_weaker}
use Rattle.traces.proofs.Pieces.{line_put}
use Rattle.traces.proofs.lines.put_line.Goals as goal

pub returns : goal.returns
returns g c =
    on_ok_weaker c.write.result (λ last.
    line_put (g.R.Roles.role c.args.roles.now) c.args.place c.args.event.now c.args.before c.args.after c.args.delivered.now c.caller-caller.result c.is_enabled-enabled.result
    (string_bytes c.args.out.now) _ _ _ _ _ c.caller-caller.ensures c.is_enabled-enabled.ensures c.in_ok-put_head.ensures c.in_ok-put_event.ensures
    c.in_ok-put_verdict.ensures c.in_ok-put_place.ensures last) c.write.ensures.bytes
